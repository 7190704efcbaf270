-- What a pipe tells of itself: this project's own.
use Rattle.std.specs.Prelude.{◌≡◌, ℕ, ◌+◌, ◌≤◌, Bool, nat_lt, if◌then◌else◌}
use Rattle.std.specs.Prelude.{List, [], ◌∷◌, ◌++◌, length, take, drop, Option, Some, option_map, Result, Ok, Err}
use Rattle.dpx_base.specs.declared.pixel.Pixel.{Pixel}
use Rattle.dpx_base.specs.declared.pipe.PipeEnd.{PipeEnd}
use Rattle.dpx_base.specs.declared.pipe.PipeEnd.TheVariants.{Ended}
use Rattle.dpx_base.specs.declared.sym.Sym.{Sym}
use Rattle.dpx_base.specs.Beam.{Shown, pixels_before, pixels_in}
use Rattle.dpx_base.specs.Faults.{Rose}

-- What it was last begun with, how many clocks were called since, and whether a call since, `begin` itself included,
-- was refused; its count of faults; and, where it tells them, its pixels and the sets that it was handed since.
pub record PipeState : Type 0 where
  pub begun : Option Shown
  pub clocks : ℕ
  pub clock : ℕ
  pub refused : Bool
  pub faults : ℕ
  pub pixels : Option (List Pixel)
  pub sets : Option (List (List Sym))

-- `begin` took these, refused or not
pub record IsBegun (shown : Shown) (clocks : ℕ) (refused : Bool) (before now : PipeState) : Type 0 where
  pub begun : now.begun ≡ Some shown
  pub clocks_told : now.clocks ≡ clocks
  pub clock : now.clock ≡ 0
  pub refusal : now.refused ≡ refused
  pub pixels : now.pixels ≡ before.pixels
  pub sets : now.sets ≡ option_map (λ sets. []) before.sets

-- `clock` was handed this set, refused or not
pub record IsClocked (sent : List Sym) (refused : Bool) (before now : PipeState) : Type 0 where
  pub begun : now.begun ≡ before.begun
  pub clocks_told : now.clocks ≡ before.clocks
  pub clock : now.clock ≡ before.clock + 1
  pub refusal : now.refused ≡ refused
  pub pixels : now.pixels ≡ before.pixels
  pub sets : now.sets ≡ option_map (λ sets. sets ++ sent ∷ []) before.sets

-- A count of faults never falls. It rose where a call failed, and nowhere else.
pub record CountsFaults (Failed : Type 0) (before now : ℕ) : Type 0 where
  pub kept : before ≤ now
  pub cause : Failed → Rose before now
  pub calm : (Failed → ⊥) → now ≡ before

-- what is given of pixels: so many, after so many were given; or that there are not so many
abbrev pub handed_over : (pixels : List Pixel) (given due : ℕ) → Result (List Pixel) PipeEnd
handed_over pixels given due =
    if nat_lt (length pixels) (given + due) then Err (Ended (length pixels)) else Ok (take due (drop given pixels))

-- what a clock gives where a pipe holds these pixels in all: those whose ticks lie in it
abbrev pub given_in : Shown → (clock : ℕ) → (pixels : List Pixel) → Result (List Pixel) PipeEnd
given_in shown clock pixels = handed_over pixels (pixels_before shown clock) (pixels_in shown clock)
