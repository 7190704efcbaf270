-- What a lane sent is read.
use Rattle.std.proofs.Common.{◌≡◌, ℕ, ◌<◌, ◌≤◌, ◌+◌, false, List, ◌++◌, length, take, replicate}
use Rattle.std.proofs.Common.{sym, subst, ◌∙◌, arith, ⊎_elim}
use Rattle.std.specs.Prelude.{slice_index_or}
use Rattle.dpx_base.specs.Code.{Listed}
use Rattle.dpx_base.specs.Key.{Keyed}
use Rattle.dpx_base.specs.Words.{fill, BadAt, LaneSymbols, NoneBad}
use Rattle.dpx_base.specs.declared.sym.Sym.{Sym}
use Rattle.dpx_code.proofs.Lists.{coded_map, listed_front}
use Rattle.dpx_code.proofs.Small.{coded_small}
use Rattle.dpx_lane.specs.Sending.{IsSent}
use Rattle.dpx_lane.proofs.Keyeds.{keyed_once, unkeyed}

pub read_there : (lag : ℕ) (symbols : List Sym) (words : List ℕ) → IsSent lag symbols words
    → LaneSymbols words (take (length symbols) (replicate lag fill ++ symbols))
read_there lag symbols words h = record {
  from = false;
  coded = h.keyed;
  end = h.end;
  code = h.code;
  key = unkeyed (take (length symbols) (replicate lag fill ++ symbols)) h.keyed h.key;
}

pub read_once : (lag : ℕ) (symbols plain : List Sym) (words : List ℕ) → IsSent lag symbols words
    → LaneSymbols words plain → plain ≡ take (length symbols) (replicate lag fill ++ symbols)
read_once lag symbols plain words h r =
    let row = take (length symbols) (replicate lag fill ++ symbols) in
    let e : r.coded ≡ h.keyed =
    coded_map r.from r.coded words r.end r.code ∙ sym (coded_map false h.keyed words h.end h.code) in
    let f : Keyed h.keyed plain = subst (λ (x : List Sym). Keyed x plain) e r.key in
    keyed_once h.keyed plain row f (unkeyed row h.keyed h.key)

pub read_well : (lag : ℕ) (symbols : List Sym) (words : List ℕ) → IsSent lag symbols words → NoneBad words
read_well lag symbols words h clock b =
    let small = coded_small false h.keyed words h.end clock h.code in
    ⊎_elim
    (λ (l : 1024 ≤ slice_index_or words clock 0). let z : ⊥ = omega arith in z)
    (λ (l : Listed (take (clock + 1) words) → ⊥). l (listed_front (clock + 1) false h.keyed words h.end h.code))
    b.bad
