-- What a word is read as: ANSI X3.230, transmission code. That the first words decide a disparity is this project's
-- own.
use Rattle.std.specs.Prelude.{ℕ, Bool, true, false, if◌then◌else◌, Result, Ok, Err}
use Rattle.dpx_base.specs.Code.{StandsIn, next_disparity}
use Rattle.dpx_base.specs.declared.sym.Sym.{Sym}
use Rattle.dpx_code.specs.Back.{stands, is_candidate_control, candidate_byte}
use Rattle.dpx_code.specs.Disparity.{rd_of, Allows}
use Rattle.dpx_code.specs.declared.decoding.CodeBad.{CodeBad}
use Rattle.dpx_code.specs.declared.decoding.CodeBad.TheVariants.{NotAWord, WrongColumn}
use Rattle.dpx_code.specs.declared.disparity.Rd.{Rd}
use Rattle.dpx_code.specs.declared.disparity.Rd.TheVariants.{Minus, Plus, Unknown}

-- the word stands in a column that the disparity allows
pub record StandsAllowed (rd : Rd) (word : ℕ) : Type 0 where
  pub plus : Bool
  pub allowed : Allows rd plus
  pub stands : StandsIn plus word

-- the word stands in a column, and in none that the disparity allows
pub record StandsElsewhere (rd : Rd) (word : ℕ) : Type 0 where
  pub plus : Bool
  pub stands : StandsIn plus word
  pub not_here : (allowed : Bool) → Allows rd allowed → StandsIn allowed word → ⊥

abbrev pub candidate_of : (word : ℕ) → Sym
candidate_of word = record { control = is_candidate_control word; byte = candidate_byte word }

-- by whether the word stands at minus, and at plus
abbrev pub read_as : (word : ℕ) → Rd → (minus plus : Bool) → Result (Sym × Rd) CodeBad
read_as word Minus minus plus =
    if minus then Ok (candidate_of word, rd_of (next_disparity word false))
    else if plus then Err (WrongColumn word Minus)
    else Err (NotAWord word)
read_as word Plus minus plus =
    if plus then Ok (candidate_of word, rd_of (next_disparity word true))
    else if minus then Err (WrongColumn word Plus)
    else Err (NotAWord word)
read_as word Unknown minus plus =
    if minus
    then (if plus then Ok (candidate_of word, Unknown) else Ok (candidate_of word, rd_of (next_disparity word false)))
    else if plus then Ok (candidate_of word, rd_of (next_disparity word true))
    else Err (NotAWord word)

abbrev pub decoded : (word : ℕ) → Rd → Result (Sym × Rd) CodeBad
decoded word rd = read_as word rd (stands false word) (stands true word)
