-- A set that is refused.
use Rattle.std.proofs.Common.{ℕ, zero, suc, ◌/◌, ◌≤◌, ◌≡◌, ◌∙◌, List, [], ◌∷◌, ◌++◌, Option, Some, None, Ok, Err}
use Rattle.std.proofs.Common.{Bool, true, false, length, reverse, refl, sym, ap, subst, arith, inl}
use Rattle.std.proofs.Common.{inr}
use Rattle.std.specs.Prelude.{⊤, Result}
use Rattle.std.proofs.lemmas.List.{length-map}
use Rattle.dpx_base.specs.declared.lanes.Lanes.{Lanes}
use Rattle.dpx_base.specs.declared.sym.Sym.{Sym}
use Rattle.dpx_base.specs.Lanes.{lanes_count}
use Rattle.dpx_grammar.specs.Machine.{token_set}
use Rattle.dpx_grammar.specs.Machine.{Place, start, head, ids, blank, opened, numbers, packet, active, fill}
use Rattle.dpx_grammar.specs.Machine.{grown}
use Rattle.dpx_grammar.specs.Parts.{Part, group, block, filler, attributes, secondary, begins, valid, stuffing, begun}
use Rattle.dpx_grammar.specs.Machine.{begun_of}
use Rattle.dpx_grammar.proofs.Sound.{front_of}
use Rattle.dpx_parse.specs.Core.{Taken, by_fault, by_next, by_kind, taken_by}
use Rattle.dpx_parse.specs.Counts.{fault_by}
use Rattle.dpx_parse.specs.Faults.{newest}
use Rattle.dpx_parse.specs.FirstFault.{Tells, HasNoFault, IsFirstFault, IsUnframed, IsInGroup}
use Rattle.dpx_base.specs.Symbols.{bytes_of}
use Rattle.dpx_parse.specs.Kind.{kind_of}
use Rattle.dpx_parse.specs.Stands.{told, state_of, Stands}
use Rattle.dpx_parse.specs.State.{next, unframed, protected_or_group}
use Rattle.dpx_parse.specs.declared.bad.ParseWhy.{ParseWhy}
use Rattle.dpx_parse.specs.declared.bad.ParseWhy.TheVariants.{Mixed, BadControl}
use Rattle.dpx_parse.specs.declared.machine.Core.{Core}
use Rattle.dpx_parse.specs.declared.kind.Kind.{Kind}
use Rattle.dpx_parse.specs.declared.kind.Kind.TheVariants.{Cp}
use Rattle.dpx_parse.specs.declared.state.State.{State}
use Rattle.dpx_parse.specs.declared.state.Mark.{Mark}
use Rattle.dpx_parse.proofs.Steps.{IsAt}
use Rattle.dpx_parse.proofs.Places.{cut_is, read_cut}
use Rattle.dpx_grammar.proofs.Exact.{ReadCut}
use Rattle.dpx_grammar.specs.Machine.{Reads}
use Rattle.dpx_grammar.specs.Parts.{IsCut}
use Rattle.dpx_parse.proofs.Accepting.{accepts_exactly}
use Rattle.dpx_parse.proofs.Keeps.{none_newest}
use Rattle.dpx_parse.proofs.Tokens.{uniform_of, mixed_of, cp_set}
use Rattle.dpx_parse.proofs.Tokens.{cp_kind}
use Rattle.dpx_parse.proofs.Reading.{back_told, tells_of, tells_is, Continues, continues, is_at, no_fault, lanes_some}
use Rattle.dpx_parse.proofs.Taken.{Step, not_some, a_step}

-- ---- refused

err_one : (x y : ParseWhy) → ◌≡◌ {A = Result Taken ParseWhy} (Err x) (Err y) → x ≡ y
err_one x y e = cc

no_taken : (x : Taken) (y : ParseWhy) → ◌≡◌ {A = Result Taken ParseWhy} (Ok x) (Err y) → ⊥
no_taken x y e = cc

no_kind : (k : Kind) → ◌≡◌ {A = Option Kind} None (Some k) → ⊥
no_kind k e = cc

kind_one : (j k : Kind) → ◌≡◌ {A = Option Kind} (Some j) (Some k) → j ≡ k
kind_one j k e = cc

no_why : (w : ParseWhy) → ◌≡◌ {A = Option ParseWhy} None (Some w) → ⊥
no_why w e = cc

-- a set that continues nothing
stray_of : (c : Core) (sets : List (List Sym)) (set : List Sym) (s : Stands c sets) (kind : Kind)
    → kind_of set ≡ Some kind
    → next c.enhanced (12 / lanes_count c.lanes) (36 / lanes_count c.lanes) c.state kind ≡ None → (parts : List Part)
    → Tells c.enhanced (lanes_count c.lanes) (sets ++ set ∷ []) parts → ⊥
stray_of c sets set s kind k x parts t =
    let d : Continues c.lanes c.enhanced set s.place =
    continues c.lanes c.enhanced sets set s.whole s.place parts s.reads
    (is_at (lanes_count c.lanes) c.counts s.place s.knows.at) t in
    let e : d.kind ≡ kind = kind_one d.kind kind (sym d.kind_is ∙ k) in
    not_some d.to
    (sym x ∙ ap (λ z. next c.enhanced (12 / lanes_count c.lanes) (36 / lanes_count c.lanes) z kind) s.state
    ∙ ap (next c.enhanced (12 / lanes_count c.lanes) (36 / lanes_count c.lanes) (state_of s.place)) (sym e) ∙ d.to_is)

-- a place within a group
in_group : (l : Lanes) (e : Bool) (sets : List (List Sym)) (whole : List Part) (reset : Bool) (n : ℕ) → 1 ≤ n → n ≤ 3
    → Reads e (lanes_count l) sets whole (head reset n)
    → IsInGroup e (lanes_count l) sets n
in_group l e sets whole reset n a b r =
    let c : ReadCut e (lanes_count l) sets whole (head reset n) = read_cut l e sets whole (head reset n) r in
    go c.next c.front c.cut
    (ap length c.front_is ∙ length-map (front_of (head reset n)) (token_set (lanes_count l)) ∙ sizes reset n a b)
    (sym c.tells)
  where
    sizes : (reset : Bool) (n : ℕ) → 1 ≤ n → n ≤ 3 → length (front_of (head reset n)) ≡ n
    sizes true (suc zero) a b = refl
    sizes true (suc (suc zero)) a b = refl
    sizes true (suc (suc (suc zero))) a b = refl
    sizes false (suc zero) a b = refl
    sizes false (suc (suc zero)) a b = refl
    sizes false (suc (suc (suc zero))) a b = refl
    sizes reset zero a b = absurd (omega arith)
    sizes reset (suc (suc (suc (suc n)))) a b = absurd (omega arith)

    go : (next : Part) (front : List (List Sym)) → IsCut e (lanes_count l) sets whole next front → length front ≡ n
        → group reset ∷ [] ≡ begun next front
        → IsInGroup e (lanes_count l) sets n
    go next [] c q t = absurd (omega (arith, q, a))
    go (group other) (x ∷ front) c q t = (whole, other, x ∷ front, c, q)
    go (block rows) (x ∷ front) c q t = absurd (cc)
    go (filler bytes) (x ∷ front) c q t = absurd (cc)
    go (attributes rows) (x ∷ front) c q t = absurd (cc)
    go (secondary rows) (x ∷ front) c q t = absurd (cc)
    go begins (x ∷ front) c q t = absurd (cc)
    go (valid bytes) (x ∷ front) c q t = absurd (cc)
    go (stuffing rows) (x ∷ front) c q t = absurd (cc)

-- in a group every place is within
group_at : (l : Lanes) (e : Bool) (sets : List (List Sym)) (whole : List Part) (place : Place) (n : ℕ) → 1 ≤ n
    → Reads e (lanes_count l) sets whole place
    → IsInGroup e (lanes_count l) sets n → (reset : Bool) × (begun_of place ≡ group reset ∷ [])
group_at l e sets whole place n a r (others, reset, [], c, q) = absurd (omega (arith, q, a))
group_at l e sets whole place n a r (others, reset, x ∷ front, c, q) =
    (reset, (cut_is l e sets whole others place (group reset) (x ∷ front) r c).1)

abbrev IsNotGroup : Place → Type 0
IsNotGroup (head reset n) = ⊥
IsNotGroup _ = ⊤

no_group : (place : Place) (reset : Bool) → IsNotGroup place → begun_of place ≡ group reset ∷ [] → ⊥
no_group start reset h e = cc
no_group (head other n) reset h e = h
no_group (ids [] n) reset h e = cc
no_group (ids (r ∷ rows) n) reset h e = cc
no_group blank reset h e = cc
no_group opened reset h e = cc
no_group (numbers rows n) reset h e = cc
no_group (packet rows) reset h e = cc
no_group active reset h e = cc
no_group (fill rows) reset h e = cc

bad_control : (l : Lanes) (e : Bool) (sets : List (List Sym)) (set : List Sym) (whole : List Part) (place : Place)
    → Reads e (lanes_count l) sets whole place → IsNotGroup place
    → IsUnframed e (lanes_count l) sets set BadControl
bad_control l e sets set whole place r h n a g = let x = group_at l e sets whole place n a r g in
    no_group place x.0 h x.1

protected_or : (l : Lanes) (e : Bool) (sets : List (List Sym)) (set : List Sym) (kind : Kind) (n : ℕ) → 1 ≤ n → n ≤ 2
    → length set ≡ lanes_count l → kind_of set ≡ Some kind
    → IsInGroup e (lanes_count l) sets n → IsUnframed e (lanes_count l) sets set (protected_or_group kind)
protected_or l e sets set Cp n a b q k g = (n, a, b, g, cp_set (lanes_count l) set q k)
protected_or l e sets set kind n a b q k g =
    (n, a, omega (arith, b), g, λ z x. not_cp (cp_kind (lanes_count l) set kind (lanes_some l) k x))
  where
    not_cp : kind ≡ Cp → ⊥
    not_cp e = cc

unframed_of : (l : Lanes) (e : Bool) (sets : List (List Sym)) (set : List Sym) (whole : List Part) (place : Place)
    (kind : Kind) → length set ≡ lanes_count l → kind_of set ≡ Some kind
    → IsAt place → Reads e (lanes_count l) sets whole place
    → IsUnframed e (lanes_count l) sets set (unframed (state_of place) kind)
unframed_of l e sets set whole (head reset zero) kind q k h r = absurd (omega (arith, h.0))
unframed_of l e sets set whole (head reset (suc zero)) kind q k h r =
    protected_or l e sets set kind 1 (omega arith) (omega arith) q k
    (in_group l e sets whole reset 1 (omega arith) (omega arith) r)
unframed_of l e sets set whole (head reset (suc (suc zero))) kind q k h r =
    protected_or l e sets set kind 2 (omega arith) (omega arith) q k
    (in_group l e sets whole reset 2 (omega arith) (omega arith) r)
unframed_of l e sets set whole (head reset (suc (suc (suc zero)))) kind q k h r = (
  3,
  omega arith,
  omega arith,
  in_group l e sets whole reset 3 (omega arith) (omega arith) r,
  λ z x. omega (arith, z),
)
unframed_of l e sets set whole (head reset (suc (suc (suc (suc n))))) kind q k h r = absurd (omega (arith, h.1))
unframed_of l e sets set whole start kind q k h r = bad_control l e sets set whole start r tt
unframed_of l e sets set whole (ids rows n) kind q k h r = bad_control l e sets set whole (ids rows n) r tt
unframed_of l e sets set whole blank kind q k h r = bad_control l e sets set whole blank r tt
unframed_of l e sets set whole opened kind q k h r = bad_control l e sets set whole opened r tt
unframed_of l e sets set whole (numbers rows n) kind q k h r = bad_control l e sets set whole (numbers rows n) r tt
unframed_of l e sets set whole (packet rows) kind q k h r = bad_control l e sets set whole (packet rows) r tt
unframed_of l e sets set whole active kind q k h r = bad_control l e sets set whole active r tt
unframed_of l e sets set whole (fill rows) kind q k h r = bad_control l e sets set whole (fill rows) r tt

-- ---- the first fault

wrong : (c : Core) (sets : List (List Sym)) (set : List Sym) (s : Stands c sets) (mark : Mark) (state : State)
    (why : ParseWhy) → Step c sets set s mark state
    → (o : Option ParseWhy) → fault_by (lanes_count c.lanes) c.counts mark (bytes_of set) ≡ o
    → by_fault c set mark state o ≡ Err why
    → IsFirstFault c.enhanced (lanes_count c.lanes) sets set why
wrong c sets set s mark state why x None f h = absurd (no_taken _ why h)
wrong c sets set s mark state why x (Some w) f h =
    let n : newest (lanes_count c.lanes) (told (reverse (grown s.whole x.part)) x.now) ≡ Some why =
    sym x.kept.fault ∙ f ∙ ap (λ y. Some y) (err_one w why h) in
    record {
      before = (accepts_exactly c.enhanced c.lanes sets).0 (no_fault c sets s);
      fault = λ a.
          let g : HasNoFault c.enhanced (lanes_count c.lanes) (sets ++ set ∷ []) =
          (accepts_exactly c.enhanced c.lanes (sets ++ set ∷ [])).1 a in
          no_why why
          (sym (none_newest (lanes_count c.lanes) (reverse g.parts) g.stand)
          ∙ ap (newest (lanes_count c.lanes)) (tells_is c.lanes c.enhanced (sets ++ set ∷ [])
          (grown s.whole x.part) x.now g.parts x.reads g.tells) ∙ n);
      reason = inr (inr (record {
        parts = grown s.whole x.part ++ begun_of x.now;
        tells = tells_of c.lanes c.enhanced (sets ++ set ∷ []) (grown s.whole x.part) x.now x.reads;
        wrong = ap (newest (lanes_count c.lanes)) (back_told (grown s.whole x.part) x.now) ∙ n;
      }));
    }

stray : (c : Core) (sets : List (List Sym)) (set : List Sym) (s : Stands c sets) (kind : Kind) (why : ParseWhy)
    → length set ≡ lanes_count c.lanes
    → kind_of set ≡ Some kind → (o : Option (Mark × State))
    → next c.enhanced (12 / lanes_count c.lanes) (36 / lanes_count c.lanes) c.state kind ≡ o
    → by_next c set kind o ≡ Err why → IsFirstFault c.enhanced (lanes_count c.lanes) sets set why
stray c sets set s kind why l k (Some to) x h =
    wrong c sets set s to.0 to.1 why (a_step c sets set s kind to.0 to.1 l k x)
    (fault_by (lanes_count c.lanes) c.counts to.0 (bytes_of set)) refl h
stray c sets set s kind why l k None x h = record {
  before = (accepts_exactly c.enhanced c.lanes sets).0 (no_fault c sets s);
  fault = λ a.
      let g : HasNoFault c.enhanced (lanes_count c.lanes) (sets ++ set ∷ []) =
      (accepts_exactly c.enhanced c.lanes (sets ++ set ∷ [])).1 a in
      stray_of c sets set s kind k x g.parts g.tells;
  reason = inr (inl (record {
    uniform = uniform_of set kind k;
    stray = stray_of c sets set s kind k x;
    unframed =
        subst (IsUnframed c.enhanced (lanes_count c.lanes) sets set)
        (ap (λ z. unframed z kind) (sym s.state) ∙ err_one (unframed c.state kind) why h)
        (unframed_of c.lanes c.enhanced sets set s.whole s.place kind l k
        (is_at (lanes_count c.lanes) c.counts s.place s.knows.at) s.reads);
  }));
}

mixed : (c : Core) (sets : List (List Sym)) (set : List Sym) (s : Stands c sets) (why : ParseWhy)
    → length set ≡ lanes_count c.lanes
    → (o : Option Kind) → kind_of set ≡ o → by_kind c set o ≡ Err why
    → IsFirstFault c.enhanced (lanes_count c.lanes) sets set why
mixed c sets set s why l (Some kind) k h =
    stray c sets set s kind why l k (next c.enhanced (12 / lanes_count c.lanes)
    (36 / lanes_count c.lanes) c.state kind) refl h
mixed c sets set s why l None k h = record {
  before = (accepts_exactly c.enhanced c.lanes sets).0 (no_fault c sets s);
  fault = λ a.
      let g : HasNoFault c.enhanced (lanes_count c.lanes) (sets ++ set ∷ []) =
      (accepts_exactly c.enhanced c.lanes (sets ++ set ∷ [])).1 a in
      let d : Continues c.lanes c.enhanced set s.place =
      continues c.lanes c.enhanced sets set s.whole s.place g.parts s.reads
      (is_at (lanes_count c.lanes) c.counts s.place s.knows.at) g.tells in
      no_kind d.kind (sym k ∙ d.kind_is);
  reason = inl (record {
    mixed = mixed_of set (omega (arith, l, lanes_some c.lanes)) k;
    is_mixed =
        sym (err_one Mixed why h);
  });
}

pub refuses : (c : Core) (sets : List (List Sym)) (set : List Sym) (why : ParseWhy) → length set ≡ lanes_count c.lanes
    → ◌≡◌ {A = Result Taken ParseWhy} (taken_by c set) (Err why) → Stands c sets
    → IsFirstFault c.enhanced (lanes_count c.lanes) sets set why
refuses c sets set why l h s = mixed c sets set s why l (kind_of set) refl h
