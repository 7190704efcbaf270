-- A lane on the way out.
use Rattle.std.specs.Prelude.{◌≡◌, ℕ, Bool, false, List, ◌++◌, length, map, take, replicate}
use Rattle.dpx_base.specs.Code.{Coded}
use Rattle.dpx_base.specs.Key.{Keyed}
use Rattle.dpx_base.specs.Words.{fill}
use Rattle.dpx_base.specs.declared.sym.Sym.{Sym}
use Rattle.dpx_lane.specs.Codes.{symbol_of}
use Rattle.dpx_lane.specs.Scrambling.{HasTaken}
use Rattle.dpx_lane.specs.declared.coder.Coder.{Coder}
use Rattle.dpx_lane.specs.declared.lane_tx.LaneTx.{LaneTx}

-- the coder took these codes since it was made, and gave these words for them
pub record HasCoded (coder : Coder) (codes words : List ℕ) : Type 0 where
  pub keyed : List Sym
  pub key : Keyed (map symbol_of codes) keyed
  pub code : Coded false keyed words coder.plus
  pub taken : HasTaken coder.scrambler (map symbol_of codes)

-- The lane, which lags by so many clocks, took these codes since it was made and left these words in their places: the
-- words of its codes behind fills, as many as there were. The last codes wait.
pub record HasSent (lane : LaneTx) (lag : ℕ) (codes words : List ℕ) : Type 0 where
  pub sent : List ℕ
  pub parts : replicate lag 0 ++ codes ≡ sent ++ lane.waiting.items
  pub size : length sent ≡ length codes
  pub coded : HasCoded lane.coder sent words

-- a row's codes go on behind those that the lane took, and its words behind those that it left
abbrev pub SendsRow : LaneTx → List ℕ → LaneTx → List ℕ → Type 0
SendsRow old row new out =
    (lag : ℕ) (codes words : List ℕ) → HasSent old lag codes words → HasSent new lag (codes ++ row) (words ++ out)

-- The first words of a row that lags by so many clocks, as many as symbols are there: fills, and then the symbols, with
-- the key on them, coded from minus on.
pub record IsSent (lag : ℕ) (symbols : List Sym) (words : List ℕ) : Type 0 where
  pub keyed : List Sym
  pub end : Bool
  pub key : Keyed (take (length symbols) (replicate lag fill ++ symbols)) keyed
  pub code : Coded false keyed words end
