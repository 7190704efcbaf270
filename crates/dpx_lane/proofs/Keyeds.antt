-- Rows with the key on them.
use Rattle.std.proofs.Common.{◌≡◌, ℕ, zero, suc, ◌<◌, ◌≤◌, ◌+◌, Bool, if◌then◌else◌, List, [], ◌∷◌, ◌++◌, length, take}
use Rattle.std.proofs.Common.{map}
use Rattle.std.proofs.Common.{refl, sym, ap, subst, ◌∙◌, arith, add-one, inl, inr, length-append, ⊎_elim}
use Rattle.std.specs.Prelude.{slice_index_or}
use Rattle.std.specs.List.{range_with_len}
use Rattle.std.proofs.lemmas.Bool.{cases_lt}
use Rattle.std.proofs.lemmas.List.{get_or_default}
use Rattle.std.proofs.lemmas.List.FromFn.{get_or-map-range_with_len, length-map-range_with_len}
use Rattle.std.proofs.lemmas.List.{take_more, take_all, take-append-le, get_or_append_left, get_or_push, length_push}
use Rattle.std.proofs.lemmas.List.{ext_get_or}
use Rattle.std.proofs.lemmas.List.{take-take, get_or-take, length-take-le}
use Rattle.std.proofs.Math.Seq.{take-append_seam}
use Rattle.dpx_base.specs.Key.{is_reset, since_reset, scrambled, Keyed}
use Rattle.dpx_base.specs.Words.{fill}
use Rattle.dpx_base.specs.declared.sym.Sym.{Sym}
use Rattle.dpx_lane.proofs.Keys.{since_more, scrambled_twice, reset_kept}

pub keyed_none : Keyed [] []
keyed_none = record { size = refl; at = λ k d l. absurd (omega arith) }

-- a symbol more, with its byte of the key
pub keyed_more : (row keyed : List Sym) (s : Sym) → Keyed row keyed
    → Keyed (row ++ s ∷ []) (keyed ++ scrambled (since_reset row) s ∷ [])
keyed_more row keyed s h =
    let last = scrambled (since_reset row) s in
    record {
      size = omega (arith, h.size, length_push keyed last, length_push row s);
      at = λ k d l. ⊎_elim
          (λ (i : k < length row).
          let a = get_or_append_left keyed (last ∷ []) d k (omega (arith, h.size, i)) in
          let b = get_or_append_left row (s ∷ []) d k i in
          let c = take-append-le k row (s ∷ []) (omega (arith, i)) in
          rw (a, b, c) (h.at k d i))
          (λ (i : length row ≤ k).
          let e : length row ≡ k = omega (arith, i, l, length_push row s) in
          let a = get_or_push keyed last d k (h.size ∙ e) in
          let b = get_or_push row s d k e in
          let c : take k (row ++ s ∷ []) ≡ row =
          ap (λ n. take n (row ++ s ∷ [])) (sym e) ∙ take-append_seam row (s ∷ []) in
          rw (a, b, c) refl)
          (cases_lt k (length row));
    }

-- a row has one row with the key on it
pub keyed_once : (row a b : List Sym) → Keyed row a → Keyed row b → a ≡ b
keyed_once row a b h k =
    ext_get_or fill a b (h.size ∙ sym k.size)
    (λ i l.
    let j : i < length row = omega (arith, h.size, l) in
    h.at i fill j ∙ sym (k.at i fill j))

since_next : (row : List Sym) (k : ℕ) → k < length row
    → since_reset (take (k + 1) row) ≡ (if is_reset (slice_index_or row k fill) then 0 else since_reset
    (take k row) + 1)
since_next row k l = ap since_reset (take_more row k fill l) ∙ since_more (take k row) (slice_index_or row k fill)

-- with the key on them, symbols are as far from their last reset
pub same_since : (row keyed : List Sym) → Keyed row keyed → (k : ℕ) → k ≤ length row
    → since_reset (take k keyed) ≡ since_reset (take k row)
same_since row keyed h zero l = refl
same_since row keyed h (suc k) l =
    let i : k < length row = omega arith in
    let j : k < length keyed = omega (arith, h.size) in
    let s = slice_index_or row k fill in
    let m = since_reset (take k row) in
    let e : is_reset (slice_index_or keyed k fill) ≡ is_reset s =
    ap is_reset (h.at k fill i) ∙ reset_kept m s.control s.byte in
    let f = same_since row keyed h k (omega arith) in
    let next : Bool → ℕ → ℕ = λ r n. if r then 0 else n + 1 in
    let g : since_reset (take (k + 1) keyed) ≡ since_reset (take (k + 1) row) =
    since_next keyed k j
    ∙ (ap (λ (r : Bool). next r (since_reset (take k keyed))) e
    ∙ (ap (next (is_reset s)) f
    ∙ sym (since_next row k i))) in
    subst (λ (n : ℕ). since_reset (take n keyed) ≡ since_reset (take n row)) (add-one k) g

-- the key twice gives the row back
pub unkeyed : (row keyed : List Sym) → Keyed row keyed → Keyed keyed row
unkeyed row keyed h = record {
  size = sym h.size;
  at = λ k d l.
      let i : k < length row = omega (arith, h.size) in
      let s = slice_index_or row k d in
      let m = since_reset (take k row) in
      let e = same_since row keyed h k (omega arith) in
      sym (ap (λ (n : ℕ). scrambled n (slice_index_or keyed k d)) e
      ∙ (ap (scrambled m) (h.at k d i) ∙ scrambled_twice m s.control s.byte));
}

-- the first symbols have the first bytes
pub keyed_front : (n : ℕ) (row keyed : List Sym) → n ≤ length row → Keyed row keyed → Keyed (take n row) (take n keyed)
keyed_front n row keyed l h = record {
  size = length-take-le n keyed (omega (arith, h.size)) ∙ sym (length-take-le n row l);
  at = λ k d i.
      let j : k < n = omega (arith, length-take-le n row l, i) in
      let a = get_or-take n keyed k d j in
      let b = get_or-take n row k d j in
      let c = take-take k n row (omega (arith, j)) in
      rw (a, b, c) (h.at k d (omega (arith, j, l)));
}

-- each row has one
pub keyed_there : (row : List Sym) → (keyed : List Sym) × Keyed row keyed
keyed_there row =
    let at : ℕ → Sym = λ k. scrambled (since_reset (take k row)) (slice_index_or row k fill) in
    let n = length row in
    let keyed = map at (range_with_len 0 n) in (
      keyed,
      record {
        size = length-map-range_with_len at 0 n;
        at = λ k d l.
            let e : slice_index_or row k fill ≡ slice_index_or row k d = get_or_default row k fill d l in
            get_or-map-range_with_len at 0 n k k d l (omega arith) ∙ ap (scrambled (since_reset (take k row))) e;
      },
    )
