-- What is sent is received.
use Rattle.std.proofs.Common.{◌≡◌, ℕ, ◌<◌, ◌≤◌, ◌+◌, ◌*◌, ⊎_elim, Bool, false, List, ◌++◌, length, take, sym, subst}
use Rattle.std.proofs.Common.{◌∙◌, arith}
use Rattle.std.specs.Prelude.{slice_index_or}
use Rattle.dpx_base.specs.Code.{Listed, Coded}
use Rattle.dpx_base.specs.Key.{is_reset, Keyed}
use Rattle.dpx_base.specs.Words.{fill, lane_row, words_of, LaneSymbols, column, LaneWords, SentWords}
use Rattle.dpx_base.specs.declared.sym.Sym.{Sym}
use Rattle.dpx_code.proofs.Lists.{coded_map, listed_front}
use Rattle.dpx_code.proofs.Small.{coded_small}
use Rattle.dpx_lane.proofs.Keyeds.{unkeyed, keyed_once}
use Rattle.dpx_align.proofs.SentRows.{front, back, length-front, quiet_front, row_parts, first_group, none_before}
use Rattle.dpx_align.specs.Faults.{NoFault, Symbols}
use Rattle.dpx_align.specs.Lock.{sr_group, HasAt, FirstFrom, IsLock, lane_of}
use Rattle.dpx_align.specs.Sent.{FirstGroup}

-- words have one list of symbols, from whichever disparity
same_symbols : (from other : Bool) (ss others : List Sym) (words : List ℕ) (end last : Bool)
    → Coded from ss words end → Coded other others words last → ss ≡ others
same_symbols from other ss others words end last a b =
    coded_map from ss words end a ∙ sym (coded_map other others words last b)

-- no word fault
pub no_fault : (lanes : ℕ) (sets : List (List Sym)) (words : List (List ℕ)) → SentWords lanes sets words → NoFault words
no_fault lanes sets words s j t l b =
    let w = s.each j (omega (arith, s.size)) in
    ⊎_elim
    (λ (h : 1024 ≤ slice_index_or (words_of words j) t 0).
    let k = coded_small false w.keyed (words_of words j) w.end t w.code in
    let f : ⊥ = omega arith in f)
    (λ (h : Listed (take (t + 1) (words_of words j)) → ⊥). h
    (listed_front (t + 1) false w.keyed (words_of words j) w.end w.code))
    b.bad

-- each lane's symbols are its row
pub row_back : (lanes j : ℕ) (ss : List Sym) (ws : List ℕ) (plain : List Sym) → LaneWords lanes j ss ws
    → LaneSymbols ws plain → plain ≡ lane_row lanes j ss
row_back lanes j ss ws plain w r =
    let e : r.coded ≡ w.keyed = same_symbols r.from false r.coded w.keyed ws r.end w.end r.code w.code in
    let f : Keyed w.keyed plain = subst (λ (x : List Sym). Keyed x plain) e r.key in
    keyed_once w.keyed plain (lane_row lanes j ss) f (unkeyed (lane_row lanes j ss) w.keyed w.key)

-- and they are there
pub row_there : (lanes j : ℕ) (ss : List Sym) (ws : List ℕ) → LaneWords lanes j ss ws
    → LaneSymbols ws (lane_row lanes j ss)
row_there lanes j ss ws w = record {
  from = false;
  coded = w.keyed;
  end = w.end;
  code = w.code;
  key = unkeyed (lane_row lanes j ss) w.keyed w.key;
}

-- the lanes as they stand: each is what stands before its group, the group, and what follows
pub record Lagged (enhanced : Bool) (lanes : ℕ) (sets plain : List (List Sym))
    (g : FirstGroup enhanced lanes sets) : Type 0 where
  pub size : length plain ≡ lanes
  pub each : (j : ℕ) → j < lanes → lane_of plain j
      ≡ front j g.before ++ (sr_group enhanced ++ (column j g.rest ++ back lanes j))

pub lagged : (enhanced : Bool) (lanes : ℕ) (sets plain : List (List Sym)) (words : List (List ℕ))
    (g : FirstGroup enhanced lanes sets) → SentWords lanes sets words → Symbols words plain
    → Lagged enhanced lanes sets plain g
lagged enhanced lanes sets plain words g s p = record {
  size = p.size ∙ s.size;
  each = λ j l.
      row_back lanes j (column j sets) (words_of words j) (lane_of plain j) (s.each j l)
      (p.each j (omega (arith, s.size)))
      ∙ row_parts enhanced lanes j sets g l;
}

pub quiet_before : (enhanced : Bool) (lanes : ℕ) (sets : List (List Sym)) (g : FirstGroup enhanced lanes sets) (j k : ℕ)
    → k < length (front j g.before) → is_reset (slice_index_or (front j g.before) k fill) ≡ false
quiet_before enhanced lanes sets g j k l = quiet_front j g.before (λ i m. g.none i j m) k l

-- the first group of lane j from the lock on
pub starts : (enhanced : Bool) (lanes : ℕ) (sets plain : List (List Sym)) (g : FirstGroup enhanced lanes sets)
    → Lagged enhanced lanes sets plain g → (j : ℕ) → j < lanes
    → FirstFrom (sr_group enhanced) (lane_of plain j) (length g.before) (2 * j + length g.before)
starts enhanced lanes sets plain g h j l =
    let p = front j g.before in
    let size = length-front j g.before in
    let f = first_group enhanced p (column j g.rest ++ back lanes j) (length g.before)
    (quiet_before enhanced lanes sets g j) (omega (arith, size)) in
    let e = subst (λ (x : List Sym). FirstFrom (sr_group enhanced) x (length g.before) (length p))
    (sym (h.each j l)) f in
    subst (λ (n : ℕ). FirstFrom (sr_group enhanced) (lane_of plain j) (length g.before) n) size e

-- the lock is the clock of that SR on lane 0
pub lock : (enhanced : Bool) (lanes : ℕ) (sets plain : List (List Sym)) (g : FirstGroup enhanced lanes sets) → 0 < lanes
    → lanes ≤ 4 → Lagged enhanced lanes sets plain g → IsLock (sr_group enhanced) plain (length g.before)
lock enhanced lanes sets plain g some few h =
    let group = sr_group enhanced in
    let r = length g.before in
    let z = starts enhanced lanes sets plain g h 0 some in
    let zero_there : HasAt group (lane_of plain 0) r =
    subst (λ (n : ℕ). HasAt group (lane_of plain 0) n) (omega arith) z.there in
    record {
      meets = record {
        every = λ j l.
            let i : j < lanes = omega (arith, h.size) in
            let f = starts enhanced lanes sets plain g h j i in
            record { at = 2 * j + r; from = f.from; within = omega arith; there = f.there };
        first = 0;
        within = omega (arith, h.size);
        there = zero_there;
      };
      least = λ k l m.
          let i : m.first < lanes = omega (arith, h.size, m.within) in
          let p = front m.first g.before in
          let there = subst (λ (x : List Sym). HasAt group x k) (h.each m.first i) m.there in
          let n = none_before enhanced p (group ++ (column m.first g.rest ++ back lanes m.first)) k
          (quiet_before enhanced lanes sets g m.first) there in
          let f : ⊥ = omega (arith, length-front m.first g.before) in f;
    }
