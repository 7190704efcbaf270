-- Room for a line: this project's own.
use Rattle.std.specs.Prelude.{ℕ}

-- the most bytes of a line on all lanes, and of its pixels' records: 8,192 pixels of six bytes each
abbrev pub line_room : ℕ
line_room = 49152
