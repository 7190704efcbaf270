-- The place that the reading has come to, and the prefix of a list of periods that stands before it.
use Rattle.std.proofs.Common.{◌/◌, ◌≡◌, ◌∙◌, List, [], ◌∷◌, ◌++◌, Bool, map, sym, ap, subst}
use Rattle.std.specs.List.{AllByRecursion, flat_map}
use Rattle.dpx_base.specs.declared.lanes.Lanes.{Lanes}
use Rattle.dpx_base.specs.declared.sym.Sym.{Sym}
use Rattle.dpx_base.specs.Lanes.{lanes_count}
use Rattle.dpx_grammar.specs.Machine.{token_set, IsToken, Place, start, begun_of, run, Reads}
use Rattle.dpx_grammar.specs.Parts.{Part, begun, IsCut, sets_of}
use Rattle.dpx_grammar.proofs.Exact.{ReadCut, reads_cut}
use Rattle.dpx_grammar.proofs.Sound.{front_of}
use Rattle.dpx_grammar.proofs.Unique.{IsRun, cut_runs, blocks, some_lanes, tokens_one, pair_one}

cons_one : {X : Type 0} (x y : X) (xs ys : List X) → x ∷ xs ≡ y ∷ ys → (x ≡ y) × (xs ≡ ys)
cons_one x y xs ys e = (cc, cc)

pub cancel : {X : Type 0} (xs ys zs : List X) → xs ++ ys ≡ xs ++ zs → ys ≡ zs
cancel [] ys zs e = e
cancel (x ∷ xs) ys zs e = cancel xs ys zs (cons_one x x (xs ++ ys) (xs ++ zs) e).1

-- a prefix can be read
pub record CutRead (e : Bool) (l : Lanes) (sets : List (List Sym)) (whole : List Part) (next : Part)
    (front : List (List Sym)) : Type 0 where
  pub place : Place
  pub reads : Reads e (lanes_count l) sets whole place
  pub begun_is : begun_of place ≡ begun next front

pub cut_read : (l : Lanes) (e : Bool) (sets : List (List Sym)) (whole : List Part) (next : Part)
    (front : List (List Sym))
    → IsCut e (lanes_count l) sets whole next front → CutRead e l sets whole next front
cut_read l e sets whole next front c =
    let b = blocks l in
    let r : IsRun e (lanes_count l) b.0 sets whole next front =
    cut_runs e (lanes_count l) b.0 sets whole next front b.1 c in
    record {
      place = r.place;
      reads = record {
        tokens = r.taken;
        sets_are = r.taken_sets;
        uniform = r.good;
        reached = ap (λ k. run e k (36 / lanes_count l) [] start r.taken) b.1 ∙ r.reached;
      };
      begun_is = r.tells;
    }

-- a prefix of the sets that were read has their whole parts and their place
pub cut_is : (l : Lanes) (e : Bool) (sets : List (List Sym)) (whole others : List Part) (place : Place) (next : Part)
    (front : List (List Sym)) → Reads e (lanes_count l) sets whole place
    → IsCut e (lanes_count l) sets others next front
    → (others ≡ whole) × (begun_of place ≡ begun next front)
cut_is l e sets whole others place next front r c =
    let q : CutRead e l sets others next front = cut_read l e sets others next front c in
    let m = some_lanes l in
    let ts : q.reads.tokens ≡ r.tokens =
    tokens_one m.0 q.reads.tokens r.tokens (subst (λ n. AllByRecursion (IsToken n) q.reads.tokens) m.1 q.reads.uniform)
    (subst (λ n. AllByRecursion (IsToken n) r.tokens) m.1 r.uniform)
    (ap (λ n. map (token_set n) q.reads.tokens) (sym m.1) ∙ q.reads.sets_are ∙ sym r.sets_are
    ∙ ap (λ n. map (token_set n) r.tokens) m.1) in
    let p : (others ≡ whole) × (q.place ≡ place) =
    pair_one others whole q.place place
    (sym q.reads.reached ∙ ap (run e (12 / lanes_count l) (36 / lanes_count l) [] start) ts ∙ r.reached) in
    (p.0, ap begun_of (sym p.1) ∙ q.begun_is)

pub read_cut : (l : Lanes) (e : Bool) (sets : List (List Sym)) (whole : List Part) (place : Place)
    → Reads e (lanes_count l) sets whole place → ReadCut e (lanes_count l) sets whole place
read_cut l e sets whole place r = reads_cut e l sets whole place r

pub reads_joined : (l : Lanes) (e : Bool) (sets : List (List Sym)) (whole : List Part) (place : Place)
    → Reads e (lanes_count l) sets whole place
    → sets ≡ flat_map (sets_of e (lanes_count l)) whole ++ map (token_set (lanes_count l)) (front_of place)
reads_joined l e sets whole place r =
    let c : ReadCut e (lanes_count l) sets whole place = reads_cut e l sets whole place r in
    c.cut.joined ∙ ap (λ xs. flat_map (sets_of e (lanes_count l)) whole ++ xs) c.front_is
