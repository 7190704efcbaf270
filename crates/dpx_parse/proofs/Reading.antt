-- What has been read, and one set more.
use Rattle.std.proofs.Common.{ℕ, ◌/◌, ◌≤◌, ◌≡◌, ◌∙◌, List, [], ◌∷◌, ◌++◌, Option, Some, None}
use Rattle.std.proofs.Common.{Bool, map, reverse, refl, sym, ap, subst, arith}
use Rattle.std.specs.List.{AllByRecursion}
use Rattle.std.proofs.lemmas.List.{map-append, reverse-append, append-nil}
use Rattle.dpx_base.specs.declared.lanes.Lanes.{Lanes}
use Rattle.dpx_base.specs.declared.lanes.Lanes.TheVariants.{One, Two, Four}
use Rattle.dpx_base.specs.declared.sym.Sym.{Sym}
use Rattle.dpx_base.specs.Lanes.{lanes_count}
use Rattle.dpx_grammar.specs.Machine.{Token, token_set}
use Rattle.dpx_grammar.specs.Machine.{IsToken, Place, start, head, ids, blank, opened, numbers, packet, active, fill}
use Rattle.dpx_grammar.specs.Machine.{step, run, grown, go_on}
use Rattle.dpx_grammar.specs.Parts.{Part, group, block, begun}
use Rattle.dpx_grammar.specs.Machine.{begun_of}
use Rattle.dpx_grammar.proofs.Lists.{all_append}
use Rattle.dpx_grammar.proofs.Unique.{some_lanes, tokens_one, pair_one}
use Rattle.dpx_parse.specs.Faults.{AllStand}
use Rattle.dpx_parse.specs.FirstFault.{Tells, HasNoFault}
use Rattle.dpx_parse.specs.Kind.{kind_of}
use Rattle.dpx_parse.specs.Stands.{told, state_of, AtPlace, Stands}
use Rattle.dpx_parse.specs.State.{next}
use Rattle.dpx_parse.specs.declared.counts.Counts.{Counts}
use Rattle.dpx_parse.specs.declared.machine.Core.{Core}
use Rattle.dpx_parse.specs.declared.kind.Kind.{Kind}
use Rattle.dpx_parse.specs.declared.state.State.{State}
use Rattle.dpx_parse.specs.declared.state.Mark.{Mark}
use Rattle.dpx_parse.proofs.Steps.{Same, same, token_kind, mark_at, IsAt, IsAtEnd, step_at}
use Rattle.dpx_parse.proofs.Places.{cut_is, cut_read, CutRead, read_cut}
use Rattle.dpx_grammar.proofs.Exact.{ReadCut}
use Rattle.dpx_grammar.specs.Machine.{Reads}
use Rattle.dpx_parse.proofs.Takes.{grown_back}
use Rattle.dpx_parse.proofs.Tokens.{token_kinds}

-- ---- runs

pub run_join : (en : Bool) (b a : ℕ) (whole w : List Part) (s p : Place) (ts us : List Token)
    → run en b a whole s ts ≡ Some (w, p)
    → run en b a whole s (ts ++ us) ≡ run en b a w p us
run_join en b a whole w s p [] us e =
    let q = pair_one whole w s p e in
    ap (λ x. run en b a x s us) q.0 ∙ ap (λ y. run en b a w y us) q.1
run_join en b a whole w s p (t ∷ ts) us e = go (step en b a s t) e (λ v q h. run_join en b a v w q p ts us h)
  where
    go : (o : Option (Option Part × Place)) → go_on whole o (λ w' p'. run en b a w' p' ts) ≡ Some (w, p)
        → ((v : List Part) (q : Place) → run en b a v q ts ≡ Some (w, p)
        → run en b a v q (ts ++ us) ≡ run en b a w p us)
        → go_on whole o (λ w' p'. run en b a w' p' (ts ++ us)) ≡ run en b a w p us
    go None e more = absurd (cc)
    go (Some to) e more = more (grown whole to.0) to.1 e

-- ---- what is told

pub back_told : (whole : List Part) (place : Place) → reverse (whole ++ begun_of place) ≡ told (reverse whole) place
back_told whole start = ap reverse (append-nil whole)
back_told whole (head reset n) = reverse-append whole (group reset ∷ [])
back_told whole (ids [] n) = ap reverse (append-nil whole)
back_told whole (ids (r ∷ rows) n) = reverse-append whole (block (r ∷ rows) ∷ [])
back_told whole blank = ap reverse (append-nil whole)
back_told whole opened = ap reverse (append-nil whole)
back_told whole (numbers rows n) = ap reverse (append-nil whole)
back_told whole (packet rows) = ap reverse (append-nil whole)
back_told whole active = ap reverse (append-nil whole)
back_told whole (fill rows) = ap reverse (append-nil whole)

pub tells_of : (l : Lanes) (e : Bool) (sets : List (List Sym)) (whole : List Part) (place : Place)
    → Reads e (lanes_count l) sets whole place
    → Tells e (lanes_count l) sets (whole ++ begun_of place)
tells_of l e sets whole place r =
    let c : ReadCut e (lanes_count l) sets whole place = read_cut l e sets whole place r in
    record {
      whole = whole;
      next = c.next;
      front = c.front;
      cut = c.cut;
      parts_are =
          ap (λ t. whole ++ t) (sym c.tells);
    }

pub tells_is : (l : Lanes) (e : Bool) (sets : List (List Sym)) (whole : List Part) (place : Place) (parts : List Part)
    → Reads e (lanes_count l) sets whole place
    → Tells e (lanes_count l) sets parts → reverse parts ≡ told (reverse whole) place
tells_is l e sets whole place parts r t =
    let c = cut_is l e sets whole t.whole place t.next t.front r t.cut in
    ap reverse (t.parts_are ∙ ap (λ w. w ++ begun t.next t.front) c.0 ∙ ap (λ x. whole ++ x) (sym c.1))
    ∙ back_told whole place

-- ---- a set more

pub grown_told : (whole : List Part) (o : Option Part) → reverse (grown whole o) ≡ grown_back (reverse whole) o
grown_told whole None = refl
grown_told whole (Some x) = reverse-append whole (x ∷ [])

pub last_run : (l : Lanes) (e : Bool) (whole : List Part) (s : Place) (t : Token) (ts : List Token)
    → run e (12 / lanes_count l) (36 / lanes_count l) [] start ts ≡ Some (whole, s)
    → run e (12 / lanes_count l) (36 / lanes_count l) [] start (ts ++ t ∷ [])
    ≡ go_on whole (step e (12 / lanes_count l) (36 / lanes_count l) s t) (λ w p. Some (w, p))
last_run l e whole s t ts h = run_join e (12 / lanes_count l) (36 / lanes_count l) [] whole start s ts (t ∷ []) h

pub more_reads : (l : Lanes) (e : Bool) (sets : List (List Sym)) (set : List Sym) (whole : List Part) (s : Place)
    (t : Token) (part : Option Part) (now : Place)
    → Reads e (lanes_count l) sets whole s → IsAt s → token_set (lanes_count l) t ≡ set → IsToken (lanes_count l) t
    → step e (12 / lanes_count l) (36 / lanes_count l) s t ≡ Some (part, now)
    → Reads e (lanes_count l) (sets ++ set ∷ []) (grown whole part) now
more_reads l e sets set whole s t part now r i q g h = record {
  tokens = r.tokens ++ t ∷ [];
  sets_are =
      map-append (token_set (lanes_count l)) r.tokens (t ∷ [])
      ∙ ap (λ xs. xs ++ token_set (lanes_count l) t ∷ []) r.sets_are
      ∙ ap (λ x. sets ++ x ∷ []) q;
  uniform = all_append (IsToken (lanes_count l)) r.tokens (t ∷ []) r.uniform (g, tt);
  reached = last_run l e whole s t r.tokens r.reached ∙ ap (λ o. go_on whole o (λ w p. Some (w, p))) h;
}

-- ---- a set that continues what was read

pub record Parted {X Y : Type 0} (f : X → Y) (ts : List X) (ys : List Y) (y : Y) : Type 0 where
  pub front : List X
  pub last : X
  pub joined : ts ≡ front ++ last ∷ []
  pub fronts : map f front ≡ ys
  pub lasts : f last ≡ y

cons_one : {X : Type 0} (x y : X) (xs ys : List X) → x ∷ xs ≡ y ∷ ys → (x ≡ y) × (xs ≡ ys)
cons_one x y xs ys e = (cc, cc)

pub parted : {X Y : Type 0} (f : X → Y) (ts : List X) (ys : List Y) (y : Y) → map f ts ≡ ys ++ y ∷ [] → Parted f ts ys y
parted f [] [] y e = absurd (cc)
parted f [] (z ∷ ys) y e = absurd (cc)
parted f (t ∷ []) [] y e = record {
  front = [];
  last = t;
  joined = refl;
  fronts = refl;
  lasts =
      (cons_one (f t) y [] [] e).0;
}
parted f (t ∷ u ∷ ts) [] y e = absurd (cc)
parted f (t ∷ ts) (z ∷ ys) y e =
    let c = cons_one (f t) z (map f ts) (ys ++ y ∷ []) e in
    let p : Parted f ts ys y = parted f ts ys y c.1 in
    record {
      front = t ∷ p.front;
      last = p.last;
      joined = ap (λ xs. t ∷ xs) p.joined;
      fronts = ap (λ x. x ∷ map f p.front) c.0 ∙ ap (λ xs. z ∷ xs) p.fronts;
      lasts = p.lasts;
    }

pub record Continues (l : Lanes) (e : Bool) (set : List Sym) (s : Place) : Type 0 where
  pub kind : Kind
  pub kind_is : kind_of set ≡ Some kind
  pub to : Mark × State
  pub to_is : next e (12 / lanes_count l) (36 / lanes_count l) (state_of s) kind ≡ Some to

step_same : (en : Bool) (b a : ℕ) (s : Place) (t : Token) (whole w : List Part) (p : Place)
    (o : Option (Option Part × Place)) → Same en b a s t o
    → go_on {R = List Part × Place} whole o (λ x y. Some (x, y)) ≡ Some (w, p)
    → (to : Mark × State) × (next en b a (state_of s) (token_kind t) ≡ Some to)
step_same en b a s t whole w p None h e = absurd (cc)
step_same en b a s t whole w p (Some to) h e = ((mark_at s t, state_of to.1), h)

-- the token at the end of the longer list
record Last (l : Lanes) (e : Bool) (set : List Sym) (whole : List Part) (s : Place) (w : List Part)
    (p : Place) : Type 0 where
  token : Token
  sets : token_set (lanes_count l) token ≡ set
  good : IsToken (lanes_count l) token
  reached : go_on {R = List Part × Place} whole (step e (12 / lanes_count l) (36 / lanes_count l) s token)
      (λ x y. Some (x, y)) ≡ Some (w, p)

pub last_good : (n : ℕ) (xs : List Token) (x : Token) → AllByRecursion (IsToken n) (xs ++ x ∷ [])
    → AllByRecursion (IsToken n) xs × IsToken n x
last_good n [] x h = (tt, h.0)
last_good n (y ∷ xs) x h = let i = last_good n xs x h.1 in ((h.0, i.0), i.1)

last_of : (l : Lanes) (e : Bool) (sets : List (List Sym)) (set : List Sym) (whole : List Part) (s : Place)
    (w : List Part) (p : Place)
    → Reads e (lanes_count l) sets whole s → IsAt s → Reads e (lanes_count l) (sets ++ set ∷ []) w p
    → Last l e set whole s w p
last_of l e sets set whole s w p r at q =
    let m = some_lanes l in
    let x : Parted (token_set (lanes_count l)) q.tokens sets set =
    parted (token_set (lanes_count l)) q.tokens sets set q.sets_are in
    let good : AllByRecursion (IsToken (lanes_count l)) x.front × IsToken (lanes_count l) x.last =
    last_good (lanes_count l) x.front x.last (subst (AllByRecursion (IsToken (lanes_count l))) x.joined q.uniform) in
    let fronts : x.front ≡ r.tokens =
    tokens_one m.0 x.front r.tokens (subst (λ n. AllByRecursion (IsToken n) x.front) m.1 good.0)
    (subst (λ n. AllByRecursion (IsToken n) r.tokens) m.1 r.uniform)
    (ap (λ n. map (token_set n) x.front) (sym m.1) ∙ x.fronts ∙ sym r.sets_are
    ∙ ap (λ n. map (token_set n) r.tokens) m.1) in
    record {
      token = x.last;
      sets = x.lasts;
      good = good.1;
      reached =
          sym (last_run l e whole s x.last r.tokens r.reached)
          ∙ ap (λ ts. run e (12 / lanes_count l) (36 / lanes_count l) [] start (ts ++ x.last ∷ [])) (sym fronts)
          ∙ ap (run e (12 / lanes_count l) (36 / lanes_count l) [] start) (sym x.joined) ∙ q.reached;
    }

pub continues : (l : Lanes) (e : Bool) (sets : List (List Sym)) (set : List Sym) (whole : List Part) (s : Place)
    (parts : List Part)
    → Reads e (lanes_count l) sets whole s → IsAt s → Tells e (lanes_count l) (sets ++ set ∷ []) parts
    → Continues l e set s
continues l e sets set whole s parts r at t =
    let m = some_lanes l in
    let q : CutRead e l (sets ++ set ∷ []) t.whole t.next t.front =
    cut_read l e (sets ++ set ∷ []) t.whole t.next t.front t.cut in
    let x : Last l e set whole s t.whole q.place = last_of l e sets set whole s t.whole q.place r at q.reads in
    let kind : kind_of (token_set (lanes_count l) x.token) ≡ Some (token_kind x.token) =
    ap (λ n. kind_of (token_set n x.token)) m.1 ∙ token_kinds m.0 x.token (subst (λ n. IsToken n x.token) m.1 x.good) in
    let to = step_same e (12 / lanes_count l) (36 / lanes_count l) s x.token whole t.whole q.place
    (step e (12 / lanes_count l) (36 / lanes_count l) s x.token)
    (same e (12 / lanes_count l) (36 / lanes_count l) s x.token at) x.reached in
    record { kind = token_kind x.token; kind_is = ap kind_of (sym x.sets) ∙ kind; to = to.0; to_is = to.1 }

pub is_at : (lanes : ℕ) (c : Counts) (s : Place) → AtPlace lanes c s → IsAt s
is_at lanes c start h = tt
is_at lanes c (head reset n) h = (h.0, h.1)
is_at lanes c (ids rows n) h = h.2
is_at lanes c blank h = tt
is_at lanes c opened h = tt
is_at lanes c (numbers rows n) h = tt
is_at lanes c (packet rows) h = tt
is_at lanes c active h = tt
is_at lanes c (fill rows) h = tt

-- ---- what the machine stands for has no fault

pub no_fault : (c : Core) (sets : List (List Sym)) → Stands c sets → HasNoFault c.enhanced (lanes_count c.lanes) sets
no_fault c sets s = record {
  parts = s.whole ++ begun_of s.place;
  tells = tells_of c.lanes c.enhanced sets s.whole s.place s.reads;
  stand = subst (AllStand (lanes_count c.lanes)) (sym (back_told s.whole s.place)) s.stand;
}

pub block_some : (l : Lanes) → 1 ≤ 12 / lanes_count l
block_some One = omega arith
block_some Two = omega arith
block_some Four = omega arith

pub lanes_some : (l : Lanes) → 1 ≤ lanes_count l
lanes_some One = omega arith
lanes_some Two = omega arith
lanes_some Four = omega arith

-- ---- a set more, where the longer list tells parts

some_sets : (l : Lanes) → 1 ≤ 12 / lanes_count l
some_sets One = omega arith
some_sets Two = omega arith
some_sets Four = omega arith

pub record Longer (l : Lanes) (e : Bool) (sets : List (List Sym)) (set : List Sym) (whole : List Part)
    (s : Place) : Type 0 where
  pub token : Token
  pub part : Option Part
  pub now : Place
  pub step_is : step e (12 / lanes_count l) (36 / lanes_count l) s token ≡ Some (part, now)
  pub reads : Reads e (lanes_count l) (sets ++ set ∷ []) (grown whole part) now
  pub grown_is : reverse (grown whole part) ≡ grown_back (reverse whole) part
  pub at : IsAt now

pub longer_of : (l : Lanes) (e : Bool) (sets : List (List Sym)) (set : List Sym) (whole : List Part) (s : Place)
    (parts : List Part)
    → Reads e (lanes_count l) sets whole s → IsAt s → Tells e (lanes_count l) (sets ++ set ∷ []) parts
    → Longer l e sets set whole s
longer_of l e sets set whole s parts r at t =
    let q : CutRead e l (sets ++ set ∷ []) t.whole t.next t.front =
    cut_read l e (sets ++ set ∷ []) t.whole t.next t.front t.cut in
    let x : Last l e set whole s t.whole q.place = last_of l e sets set whole s t.whole q.place r at q.reads in
    go x.token x.sets x.good t.whole q.place (step e (12 / lanes_count l) (36 / lanes_count l) s x.token) refl x.reached
  where
    go : (u : Token) → token_set (lanes_count l) u ≡ set → IsToken (lanes_count l) u
        → (w : List Part) (p : Place) (o : Option (Option Part × Place))
        → step e (12 / lanes_count l) (36 / lanes_count l) s u ≡ o
        → go_on {R = List Part × Place} whole o (λ x y. Some (x, y)) ≡ Some (w, p) → Longer l e sets set whole s
    go u i g w p None k h = absurd (cc)
    go u i g w p (Some to) k h =
        record {
          token = u;
          part = to.0;
          now = to.1;
          step_is = k;
          reads =
              more_reads l e sets set whole s u to.0 to.1 r at i g k;
          grown_is = grown_told whole to.0;
          at =
              subst IsAtEnd k (step_at e (12 / lanes_count l) (36 / lanes_count l) s u (some_sets l) at);
        }
