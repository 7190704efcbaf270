-- A set has one reason at most.
use Rattle.std.proofs.Common.{ℕ, ◌≤◌, ◌≡◌, ◌∙◌, List, [], ◌∷◌, ◌++◌, Option, Some, Bool, length, reverse, refl, sym, ap}
use Rattle.std.proofs.Common.{subst}
use Rattle.std.proofs.Common.{inl, inr}
use Rattle.std.specs.List.{flat_map}
use Rattle.std.proofs.lemmas.List.{length-replicate}
use Rattle.dpx_base.specs.declared.lanes.Lanes.{Lanes}
use Rattle.dpx_base.specs.declared.sym.Sym.{Sym}
use Rattle.dpx_base.specs.Lanes.{lanes_count}
use Rattle.dpx_base.specs.Symbols.{control_symbol}
use Rattle.dpx_grammar.specs.Machine.{Token, row, code, byte_of, token_set}
use Rattle.dpx_grammar.specs.Parts.{Part, group, sets_of, control_set}
use Rattle.dpx_parse.specs.Faults.{newest}
use Rattle.dpx_parse.specs.FirstFault.{Tells, IsUniform, IsInGroup, IsUnframed, IsReason}
use Rattle.dpx_parse.specs.Laws.{IsOneReason}
use Rattle.dpx_parse.specs.declared.bad.ParseWhy.{ParseWhy}
use Rattle.dpx_parse.specs.declared.bad.ParseWhy.TheVariants.{BadControl, BadGroup, Protected}
use Rattle.dpx_parse.proofs.Places.{CutRead, cut_read, cut_is, cancel}
use Rattle.dpx_parse.proofs.Reading.{Parted, parted, tells_is}

-- a list of sets tells its parts, and no others
pub told_one : (l : Lanes) (e : Bool) (sets : List (List Sym)) (parts others : List Part)
    → Tells e (lanes_count l) sets parts → Tells e (lanes_count l) sets others → reverse parts ≡ reverse others
told_one l e sets parts others t u =
    let x : CutRead e l sets t.whole t.next t.front = cut_read l e sets t.whole t.next t.front t.cut in
    tells_is l e sets t.whole x.place parts x.reads t ∙ sym (tells_is l e sets t.whole x.place others x.reads u)

-- so many sets of a group stand at the end, and no other number
in_group_one : (l : Lanes) (e : Bool) (sets : List (List Sym)) (n m : ℕ) → IsInGroup e (lanes_count l) sets n
    → IsInGroup e (lanes_count l) sets m → n ≡ m
in_group_one l e sets n m (whole, reset, front, cut, long) (others, other, back, split, size) =
    let x : CutRead e l sets whole (group reset) front = cut_read l e sets whole (group reset) front cut in
    let same = cut_is l e sets whole others x.place (group other) back x.reads split in
    let joined : flat_map (sets_of e (lanes_count l)) whole ++ front
    ≡ flat_map (sets_of e (lanes_count l)) whole ++ back =
    sym cut.joined ∙ split.joined ∙ ap (λ w. flat_map (sets_of e (lanes_count l)) w ++ back) same.0 in
    sym long ∙ ap length (cancel (flat_map (sets_of e (lanes_count l)) whole) front back joined) ∙ size

unframed_one : (l : Lanes) (e : Bool) (sets : List (List Sym)) (set : List Sym) (why other : ParseWhy)
    → IsUnframed e (lanes_count l) sets set why → IsUnframed e (lanes_count l) sets set other → why ≡ other
unframed_one l e sets set Protected Protected a b = refl
unframed_one l e sets set Protected BadGroup (n, some, few, group_n, is_cp) (m, any, most, group_m, no_cp) =
    absurd (no_cp (subst (λ k. k ≤ 2) (in_group_one l e sets n m group_n group_m) few) is_cp)
unframed_one l e sets set Protected BadControl (n, some, few, group_n, is_cp) b = absurd (b n some group_n)
unframed_one l e sets set Protected other a b = absurd b
unframed_one l e sets set BadGroup BadGroup a b = refl
unframed_one l e sets set BadGroup Protected (m, any, most, group_m, no_cp) (n, some, few, group_n, is_cp) =
    absurd (no_cp (subst (λ k. k ≤ 2) (in_group_one l e sets n m group_n group_m) few) is_cp)
unframed_one l e sets set BadGroup BadControl (n, some, few, group_n, no_cp) b = absurd (b n some group_n)
unframed_one l e sets set BadGroup other a b = absurd b
unframed_one l e sets set BadControl BadControl a b = refl
unframed_one l e sets set BadControl Protected a (n, some, few, group_n, is_cp) = absurd (a n some group_n)
unframed_one l e sets set BadControl BadGroup a (n, some, few, group_n, no_cp) = absurd (a n some group_n)
unframed_one l e sets set BadControl other a b = absurd b
unframed_one l e sets set why other a b = absurd a

-- a set of a list that tells parts is uniform
last_uniform : (l : Lanes) (e : Bool) (sets : List (List Sym)) (set : List Sym) (parts : List Part)
    → Tells e (lanes_count l) (sets ++ set ∷ []) parts → IsUniform set
last_uniform l e sets set parts t =
    let x : CutRead e l (sets ++ set ∷ []) t.whole t.next t.front =
    cut_read l e (sets ++ set ∷ []) t.whole t.next t.front t.cut in
    let p : Parted (token_set (lanes_count l)) x.reads.tokens sets set =
    parted (token_set (lanes_count l)) x.reads.tokens sets set x.reads.sets_are in
    by_token p.last p.lasts
  where
    by_token : (token : Token) → token_set (lanes_count l) token ≡ set → IsUniform set
    by_token (row bytes) is = inl (bytes, sym is)
    by_token (code c) is =
        let long : lanes_count l ≡ length set =
        sym (length-replicate (lanes_count l) (control_symbol (byte_of c))) ∙ ap length is in
        inr (byte_of c, sym is ∙ ap (λ n. control_set n (byte_of c)) long)

some_one : (x y : ParseWhy) → ◌≡◌ {A = Option ParseWhy} (Some x) (Some y) → x ≡ y
some_one x y e = cc

pub one_reason : IsOneReason
one_reason e l sets set why other a b = by_kind a b
  where
    by_kind : IsReason e (lanes_count l) sets set why → IsReason e (lanes_count l) sets set other → why ≡ other
    by_kind (inl m) (inl k) = m.is_mixed ∙ sym k.is_mixed
    by_kind (inl m) (inr (inl s)) = absurd (m.mixed s.uniform)
    by_kind (inl m) (inr (inr w)) = absurd (m.mixed (last_uniform l e sets set w.parts w.tells))
    by_kind (inr (inl s)) (inl k) = absurd (k.mixed s.uniform)
    by_kind (inr (inl s)) (inr (inl t)) = unframed_one l e sets set why other s.unframed t.unframed
    by_kind (inr (inl s)) (inr (inr w)) = absurd (s.stray w.parts w.tells)
    by_kind (inr (inr w)) (inl k) = absurd (k.mixed (last_uniform l e sets set w.parts w.tells))
    by_kind (inr (inr w)) (inr (inl t)) = absurd (t.stray w.parts w.tells)
    by_kind (inr (inr w)) (inr (inr v)) =
        some_one why other
        (sym w.wrong ∙ ap (newest (lanes_count l)) (told_one l e (sets ++ set ∷ []) w.parts v.parts w.tells v.tells)
        ∙ v.wrong)
