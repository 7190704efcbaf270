-- The lines of a report on sending: this project's own. Each ends with one line feed.
use Rattle.std.specs.Prelude.{ℕ, ◌*◌, List, ◌++◌, codes}
use Rattle.std.specs.Fmt.{decimal}
use Rattle.dpx_base.specs.Plan.{PlanFacts, timing, clocks}
use Rattle.dpx_base.specs.Timing.{n, m, delay, line_end, bound, symbols}
use Rattle.dpx_timing.specs.declared.fitting.Unfit.{Unfit}
use Rattle.dpx_timing.specs.declared.fitting.Unfit.TheVariants.{TooFast, TooSlow, NoRoom}
use Rattle.dpx_cli.specs.Lines.{line_feed}

-- a number behind its name
unfoldable pub named : List ℕ → ℕ → List ℕ
named name number = name ++ decimal number

unfoldable pub too_fast_line : (n m : ℕ) → List ℕ
too_fast_line n m = named (codes "unfit too fast n ") n ++ named (codes " m ") m ++ line_feed

unfoldable pub too_slow_line : (n m unit : ℕ) → List ℕ
too_slow_line n m unit =
    named (codes "unfit too slow n ") n ++ named (codes " m ") m ++ named (codes " unit ") unit ++ line_feed

unfoldable pub no_room_line : (have need : ℕ) → List ℕ
no_room_line have need = named (codes "unfit no room have ") have ++ named (codes " need ") need ++ line_feed

-- why a mode does not fit, with the two sides
abbrev pub unfit_line : Unfit → List ℕ
unfit_line (TooFast n m) = too_fast_line n m
unfit_line (TooSlow n m unit) = too_slow_line n m unit
unfit_line (NoRoom have need) = no_room_line have need

-- the symbols of a line, what is displayed and what is carried in a millisecond, the unit, and the clocks of a line
unfoldable pub plan_line : PlanFacts → List ℕ
plan_line p =
    named (codes "plan symbols ") (symbols (timing p)) ++ named (codes " n ") (n (timing p))
    ++ named (codes " m ") (m (timing p)) ++ named (codes " unit ") p.unit
    ++ named (codes " delay ") (delay (timing p)) ++ named (codes " end ") (line_end (timing p))
    ++ named (codes " bound ") (bound (timing p)) ++ line_feed

-- the frames, the lines that have pixels, and the clocks of the sets
unfoldable pub sent_line : PlanFacts → List ℕ
sent_line p =
    named (codes "sent frames ") p.frames ++ named (codes " lines ") (p.frames * p.mode.height)
    ++ named (codes " clocks ") (clocks p) ++ line_feed

-- a pixel, counted over all frames, with its first component that is out of range
unfoldable pub bad_pixel_line : (number value : ℕ) → List ℕ
bad_pixel_line number value = named (codes "pixel ") number ++ named (codes " bad ") value ++ line_feed

unfoldable pub pixels_ended_line : ℕ → List ℕ
pixels_ended_line number = named (codes "pixels ended at ") number ++ line_feed
