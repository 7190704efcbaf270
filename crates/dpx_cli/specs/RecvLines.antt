-- The lines of a report on receiving: this project's own. Each ends with one line feed.
use Rattle.std.specs.Prelude.{ℕ, List, ◌++◌, codes}
use Rattle.dpx_align.specs.declared.align_bad.AlignBad.{AlignBad}
use Rattle.dpx_align.specs.declared.align_bad.AlignBad.TheVariants.{BadWord, NotAWord, WrongColumn}
use Rattle.dpx_base.specs.declared.place.Place.{Place}
use Rattle.dpx_msa.specs.declared.msa_bad.MsaBad.{MsaBad}
use Rattle.dpx_msa.specs.declared.msa_bad.MsaBad.TheVariants.{Colour, DepthCode, Misc1, Width, Height, NvidZero}
use Rattle.dpx_parse.specs.declared.bad.ParseBad.{ParseBad}
use Rattle.dpx_parse.specs.declared.bad.ParseWhy.{ParseWhy}
use Rattle.dpx_parse.specs.declared.bad.ParseWhy.TheVariants as why
use Rattle.dpx_sink.specs.declared.finish_end.FinishEnd.{FinishEnd}
use Rattle.dpx_sink.specs.declared.finish_end.FinishEnd.TheVariants.{Truncated, NoLock}
use Rattle.dpx_sink.specs.declared.finish_end.Received.{Received}
use Rattle.dpx_reception.specs.Digits.{hex_byte}
use Rattle.dpx_cli.specs.Digits.{hex_word}
use Rattle.dpx_cli.specs.Lines.{line_feed}
use Rattle.dpx_cli.specs.SendLines.{named}

-- the whole frames, the whole lines of pixels, and the sets of an unfinished line
unfoldable pub received_line : Received → List ℕ
received_line received =
    named (codes "received frames ") received.frames ++ named (codes " lines ") received.lines
    ++ named (codes " tail ") received.tail_clocks ++ line_feed

-- how many of the eight bytes of a header were read
unfoldable pub header_line : ℕ → List ℕ
header_line count = named (codes "capture header after ") count ++ codes " bytes" ++ line_feed

-- how many clocks are whole, and how many bytes of the next one there are
unfoldable pub truncated_line : (clock bytes : ℕ) → List ℕ
truncated_line clock bytes =
    named (codes "capture truncated at clock ") clock ++ named (codes " with ") bytes ++ codes " bytes" ++ line_feed

unfoldable pub no_lock_line : ℕ → List ℕ
no_lock_line clocks = named (codes "no lock in ") clocks ++ codes " clocks" ++ line_feed

abbrev pub finish_line : FinishEnd → List ℕ
finish_line (Truncated clock bytes) = truncated_line clock bytes
finish_line (NoLock clocks) = no_lock_line clocks

unfoldable pub place_text : Place → List ℕ
place_text place = named (codes " at clock ") place.clock ++ named (codes " lane ") place.lane

unfoldable pub bad_word_line : Place → ℕ → List ℕ
bad_word_line place value = codes "word value" ++ place_text place ++ named (codes " is ") value ++ line_feed

-- a word that is wrong for this reason
unfoldable pub wrong_word_line : List ℕ → Place → ℕ → List ℕ
wrong_word_line reason place word = reason ++ place_text place ++ codes ": " ++ hex_word word ++ line_feed

abbrev pub word_line : AlignBad → List ℕ
word_line (BadWord place value) = bad_word_line place value
word_line (NotAWord place word) = wrong_word_line (codes "not a word") place word
word_line (WrongColumn place word) = wrong_word_line (codes "wrong column") place word

-- a byte of the attributes behind its name
unfoldable pub byte_text : List ℕ → ℕ → List ℕ
byte_text name byte = name ++ hex_byte byte

abbrev pub attributes_text : MsaBad → List ℕ
attributes_text (Colour misc0) = byte_text (codes "attributes colour ") misc0
attributes_text (DepthCode misc0) = byte_text (codes "attributes depth ") misc0
attributes_text (Misc1 misc1) = byte_text (codes "attributes misc1 ") misc1
attributes_text (Width width) = named (codes "attributes width ") width
attributes_text (Height height) = named (codes "attributes height ") height
attributes_text NvidZero = codes "attributes nvid"

-- how many there were, and how many there should be
unfoldable pub short_text : List ℕ → (got want : ℕ) → List ℕ
short_text name got want = named name got ++ named (codes " want ") want

abbrev pub why_text : ParseWhy → List ℕ
why_text why.Mixed = codes "mixed"
why_text why.BadControl = codes "control"
why_text why.BadGroup = codes "group"
why_text why.Protected = codes "protected"
why_text why.Interlaced = codes "interlaced"
why_text why.VbIdDiffers = codes "vbid differs"
why_text (why.Msa bad) = attributes_text bad
why_text why.LineLong = codes "line long"
why_text (why.LineShort got want) = short_text (codes "line short ") got want
why_text (why.FrameShort got want) = short_text (codes "frame short ") got want
why_text why.FrameLong = codes "frame long"

unfoldable pub set_line : ParseBad → List ℕ
set_line bad = named (codes "set ") bad.set ++ codes " " ++ why_text bad.why ++ line_feed
