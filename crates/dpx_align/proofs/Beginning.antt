-- A group at a place, symbol by symbol.
use Rattle.std.proofs.Common.{◌≡◌, ℕ, zero, suc, ◌<◌, ◌≤◌, ◌+◌, Bool, true, false, ◌&&◌, List, [], ◌∷◌, length, drop}
use Rattle.std.proofs.Common.{refl, sym, ap, ◌∙◌, add-one, Some, None}
use Rattle.std.specs.Prelude.{slice_index_or, slice_get}
use Rattle.std.proofs.lemmas.List.{drop_more, drop_all}
use Rattle.std.proofs.lemmas.Bool.{and_left}
use Rattle.dpx_base.specs.Words.{fill}
use Rattle.dpx_base.specs.declared.sym.Sym.{Sym}
use Rattle.dpx_align.specs.Search.{sym_eq, begins_with}

begins_nil : (a : List Sym) → begins_with [] a ≡ true
unfolding begins_with
begins_nil a = refl

begins_short : (g : Sym) (gs : List Sym) → begins_with (g ∷ gs) [] ≡ false
unfolding begins_with
begins_short g gs = refl

begins_two : (g x : Sym) (gs xs : List Sym) → begins_with (g ∷ gs) (x ∷ xs) ≡ (sym_eq g x && begins_with gs xs)
unfolding begins_with
begins_two g x gs xs = refl

pub past : (xs : List Sym) (p : ℕ) → slice_get xs p ≡ None → drop p xs ≡ []
past [] zero e = refl
past [] (suc p) e = refl
past (x ∷ xs) zero e = cc
past (x ∷ xs) (suc p) e = past xs p e

there_suc : (xs : List Sym) (p : ℕ) (x : Sym) → slice_get xs p ≡ Some x → drop p xs ≡ x ∷ drop (suc p) xs
there_suc [] p x e = cc
there_suc (y ∷ ys) zero x e =
    let f : y ≡ x = cc in
    ap (λ (s : Sym). s ∷ ys) f
there_suc (y ∷ ys) (suc p) x e = there_suc ys p x e

pub there : (xs : List Sym) (p : ℕ) (x : Sym) → slice_get xs p ≡ Some x → drop p xs ≡ x ∷ drop (p + 1) xs
there xs p x e = there_suc xs p x e ∙ ap (λ (i : ℕ). x ∷ drop i xs) (sym (add-one p))

pub begins_end : (gs xs : List Sym) (i : ℕ) → length gs ≤ i → begins_with (drop i gs) xs ≡ true
begins_end gs xs i l = ap (λ (a : List Sym). begins_with a xs) (drop_all i gs l) ∙ begins_nil xs

pub begins_past : (gs xs : List Sym) (i p : ℕ) → i < length gs → slice_get xs p ≡ None
    → begins_with (drop i gs) (drop p xs) ≡ false
begins_past gs xs i p l e =
    ap (begins_with (drop i gs)) (past xs p e)
    ∙ (ap (λ (a : List Sym). begins_with a []) (drop_more gs i fill l)
    ∙ begins_short (slice_index_or gs i fill) (drop (i + 1) gs))

pub begins_here : (gs xs : List Sym) (i p : ℕ) (x : Sym) → i < length gs → slice_get xs p ≡ Some x
    → begins_with (drop i gs) (drop p xs) ≡ (sym_eq (slice_index_or gs i fill) x && begins_with (drop (i + 1) gs)
    (drop (p + 1) xs))
begins_here gs xs i p x l e =
    ap (begins_with (drop i gs)) (there xs p x e)
    ∙ (ap (λ (a : List Sym). begins_with a (x ∷ drop (p + 1) xs)) (drop_more gs i fill l)
    ∙ begins_two (slice_index_or gs i fill) x (drop (i + 1) gs) (drop (p + 1) xs))

pub begins_other : (gs xs : List Sym) (i p : ℕ) (x : Sym) → i < length gs → slice_get xs p ≡ Some x
    → sym_eq (slice_index_or gs i fill) x ≡ false → begins_with (drop i gs) (drop p xs) ≡ false
begins_other gs xs i p x l e h = begins_here gs xs i p x l e
    ∙ and_left (sym_eq (slice_index_or gs i fill) x) (begins_with (drop (i + 1) gs) (drop (p + 1) xs)) h

pub begins_more : (gs xs : List Sym) (i p : ℕ) (x : Sym) → i < length gs → slice_get xs p ≡ Some x
    → sym_eq (slice_index_or gs i fill) x ≡ true
    → begins_with (drop i gs) (drop p xs) ≡ begins_with (drop (i + 1) gs) (drop (p + 1) xs)
begins_more gs xs i p x l e h = begins_here gs xs i p x l e
    ∙ ap (λ (b : Bool). b && begins_with (drop (i + 1) gs) (drop (p + 1) xs)) h
