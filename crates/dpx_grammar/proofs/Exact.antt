-- The machine reads exactly the prefixes of lists of periods.
use Rattle.std.proofs.Common.{ℕ, ◌/◌, ◌≤◌, ◌≡◌, ◌≢◌, ◌∙◌, Bool, List, [], ◌∷◌, ◌++◌, map, replicate, refl, sym, ap}
use Rattle.std.proofs.Common.{subst, arith}
use Rattle.std.specs.Prelude.{⊤}
use Rattle.std.specs.List.{AllByRecursion, flat_map}
use Rattle.std.proofs.lemmas.List.{length-map, map-append, length-replicate}
use Rattle.dpx_base.specs.declared.lanes.Lanes.{Lanes}
use Rattle.dpx_base.specs.declared.lanes.Lanes.TheVariants.{One, Two, Four}
use Rattle.dpx_base.specs.declared.sym.Sym.{Sym}
use Rattle.dpx_base.specs.Lanes.{lanes_count}
use Rattle.dpx_grammar.specs.Parts.{Part, group, block, filler, attributes, secondary, begins, valid, stuffing, sets_of}
use Rattle.dpx_grammar.specs.Parts.{IsBlock, IsBlank, IsActive, MayBeActive, IsPeriod, ArePeriods, StartsWithSr, IsCut}
use Rattle.dpx_grammar.specs.Parts.{begun}
use Rattle.dpx_grammar.specs.Machine.{begun_of, token_set, Place, start, run, Reads, ReadsExactly}
use Rattle.dpx_grammar.proofs.Runs.{tokens, Mode, opening, headed, blanking, showing, after, Chain, end}
use Rattle.dpx_grammar.proofs.Cuts.{chain_join, begun_is, told_in}
use Rattle.dpx_grammar.proofs.Unique.{part_sets, parts_sets, cut_runs, blocks, IsRun}
use Rattle.dpx_grammar.proofs.Sound.{front_of, Ran, run_sound}
use Rattle.dpx_grammar.proofs.GoingOn.{Goes, goes, zero_rows, zeros}

-- ---- a chain that ends behind a block is a list of periods

abbrev flat : List (List Part) → List Part
flat ps = flat_map (λ period. period) ps

record Periods (lanes : ℕ) (xs : List Part) : Type 0 where
  periods : List (List Part)
  joined : xs ≡ flat periods
  each : AllByRecursion (IsPeriod lanes) periods

record Shown (lanes : ℕ) (xs : List Part) : Type 0 where
  acts : List Part
  rest : List Part
  joined : xs ≡ acts ++ rest
  are : AllByRecursion (IsActive lanes) acts
  then_periods : Periods lanes rest

record Blanks (lanes : ℕ) (xs : List Part) : Type 0 where
  us : List Part
  vs : List Part
  rest : List Part
  joined : xs ≡ (us ++ vs) ++ rest
  are_blank : AllByRecursion (IsBlank lanes) us
  are_active : MayBeActive lanes vs
  then_periods : Periods lanes rest

record Headed (lanes : ℕ) (xs : List Part) : Type 0 where
  y : Part
  ys : List Part
  joined : xs ≡ y ∷ ys
  is_block : IsBlock lanes y
  body : Blanks lanes ys

abbrev Splits : ℕ → Mode → List Part → Type 0
Splits lanes opening xs = Periods lanes xs
Splits lanes headed xs = Headed lanes xs
Splits lanes blanking xs = Blanks lanes xs
Splits lanes showing xs = Shown lanes xs

abbrev IsBehind : Mode → Type 0
IsBehind blanking = ⊤
IsBehind showing = ⊤
IsBehind _ = ⊥

no_periods : (lanes : ℕ) → Periods lanes []
no_periods lanes = record { periods = []; joined = refl; each = tt }

-- a group and what stands behind it
period_from : (lanes : ℕ) (reset : Bool) (xs : List Part) → Headed lanes xs → Periods lanes (group reset ∷ xs)
period_from lanes reset xs h = record {
  periods = (group reset ∷ h.y ∷ (h.body.us ++ h.body.vs)) ∷ h.body.then_periods.periods;
  joined =
      ap (λ zs. group reset ∷ zs) (h.joined ∙ ap (λ zs. h.y ∷ zs)
      (h.body.joined ∙ ap (λ zs. (h.body.us ++ h.body.vs) ++ zs) h.body.then_periods.joined));
  each = (
    record {
      head = group reset;
      ids = h.y;
      blank = h.body.us;
      active = h.body.vs;
      joined = refl;
      is_group = tt;
      is_block = h.is_block;
      is_blank = h.body.are_blank;
      may_be_active = h.body.are_active;
    },
    h.body.then_periods.each,
  );
}

show_one : (lanes : ℕ) (x : Part) (xs : List Part) → IsActive lanes x → Shown lanes xs → Shown lanes (x ∷ xs)
show_one lanes x xs a s = record {
  acts = x ∷ s.acts;
  rest = s.rest;
  joined = ap (λ zs. x ∷ zs) s.joined;
  are =
      (a, s.are);
  then_periods = s.then_periods;
}

blank_one : (lanes : ℕ) (x : Part) (xs : List Part) → IsBlank lanes x → Blanks lanes xs → Blanks lanes (x ∷ xs)
blank_one lanes x xs a s = record {
  us = x ∷ s.us;
  vs = s.vs;
  rest = s.rest;
  joined = ap (λ zs. x ∷ zs) s.joined;
  are_blank = (a, s.are_blank);
  are_active = s.are_active;
  then_periods = s.then_periods;
}

split : (lanes : ℕ) (m : Mode) (xs : List Part) → Chain lanes m xs → IsBehind (end m xs) → Splits lanes m xs
split lanes showing [] c b = record { acts = []; rest = []; joined = refl; are = tt; then_periods = no_periods lanes }
split lanes showing (valid bytes ∷ xs) c b = show_one lanes (valid bytes) xs c.0 (split lanes showing xs c.1 b)
split lanes showing (stuffing rows ∷ xs) c b = show_one lanes (stuffing rows) xs c.0 (split lanes showing xs c.1 b)
split lanes showing (group reset ∷ xs) c b =
    record {
      acts = [];
      rest = group reset ∷ xs;
      joined = refl;
      are = tt;
      then_periods =
          period_from lanes reset xs (split lanes headed xs c.1 b);
    }
split lanes blanking [] c b =
    record {
      us = [];
      vs = [];
      rest = [];
      joined = refl;
      are_blank = tt;
      are_active = tt;
      then_periods =
          no_periods lanes;
    }
split lanes blanking (filler bytes ∷ xs) c b = blank_one lanes (filler bytes) xs c.0 (split lanes blanking xs c.1 b)
split lanes blanking (attributes rows ∷ xs) c b =
    blank_one lanes (attributes rows) xs c.0 (split lanes blanking xs c.1 b)
split lanes blanking (secondary rows ∷ xs) c b = blank_one lanes (secondary rows) xs c.0 (split lanes blanking xs c.1 b)
split lanes blanking (begins ∷ xs) c b =
    let s : Shown lanes xs = split lanes showing xs c.1 b in
    record {
      us = [];
      vs = begins ∷ s.acts;
      rest = s.rest;
      joined = ap (λ zs. begins ∷ zs) s.joined;
      are_blank = tt;
      are_active = s.are;
      then_periods = s.then_periods;
    }
split lanes blanking (group reset ∷ xs) c b =
    record {
      us = [];
      vs = [];
      rest = group reset ∷ xs;
      joined = refl;
      are_blank = tt;
      are_active = tt;
      then_periods =
          period_from lanes reset xs (split lanes headed xs c.1 b);
    }
split lanes headed (block rows ∷ xs) c b =
    record { y = block rows; ys = xs; joined = refl; is_block = c.0; body = split lanes blanking xs c.1 b }
split lanes opening (group reset ∷ xs) c b = period_from lanes reset xs (split lanes headed xs c.1 b)
split lanes headed [] c b = absurd b
split lanes opening [] c b = absurd b
split lanes m (x ∷ xs) c b = absurd c.0

starts_with : (lanes : ℕ) (xs : List Part) → Chain lanes opening xs → IsBehind (end opening xs) → StartsWithSr xs
starts_with lanes [] c b = absurd b
starts_with lanes (group reset ∷ xs) c b = c.0
starts_with lanes (x ∷ xs) c b = absurd c.0

chain_periods : (lanes : ℕ) (xs : List Part) → Chain lanes opening xs → IsBehind (end opening xs) → ArePeriods lanes xs
chain_periods lanes xs c b =
    let s : Periods lanes xs = split lanes opening xs c b in
    record { periods = s.periods; joined = s.joined; each = s.each; first = starts_with lanes xs c b }

-- ---- a part that is begun goes on to whole periods

more_of : ℕ → Mode → List Part
more_of lanes headed = block (replicate (12 / lanes) (zeros lanes)) ∷ []
more_of lanes _ = []

never_opening : (x : Part) → after x ≢ opening
never_opening (group reset) = λ e. cc
never_opening (block rows) = λ e. cc
never_opening (filler bytes) = λ e. cc
never_opening (attributes rows) = λ e. cc
never_opening (secondary rows) = λ e. cc
never_opening begins = λ e. cc
never_opening (valid bytes) = λ e. cc
never_opening (stuffing rows) = λ e. cc

more_chain : (lanes : ℕ) (m : Mode) → m ≢ opening → Chain lanes m (more_of lanes m) × IsBehind (end m (more_of lanes m))
unfolding more_of
more_chain lanes opening h = absurd (h refl)
more_chain lanes headed h = (((zero_rows lanes (12 / lanes), length-replicate (12 / lanes) (zeros lanes)), tt), tt)
more_chain lanes blanking h = (tt, tt)
more_chain lanes showing h = (tt, tt)

end_join : (m : Mode) (xs ys : List Part) → end m (xs ++ ys) ≡ end (end m xs) ys
end_join m [] ys = refl
end_join m (x ∷ xs) ys = end_join (after x) xs ys

some_map : {X Y : Type 0} (f : X → Y) (xs : List X) → xs ≢ [] → map f xs ≢ []
some_map f [] h = absurd (h refl)
some_map f (x ∷ xs) h = λ e. cc

block_some : (l : Lanes) → 1 ≤ 12 / lanes_count l
block_some One = omega arith
block_some Two = omega arith
block_some Four = omega arith

-- a cut that tells what the machine's place tells
pub record ReadCut (enhanced : Bool) (lanes : ℕ) (sets : List (List Sym)) (whole : List Part)
    (place : Place) : Type 0 where
  pub next : Part
  pub front : List (List Sym)
  pub cut : IsCut enhanced lanes sets whole next front
  pub tells : begun next front ≡ begun_of place
  pub front_is : front ≡ map (token_set lanes) (front_of place)

pub reads_cut : (enhanced : Bool) (lanes : Lanes) (sets : List (List Sym)) (whole : List Part) (place : Place)
    → Reads enhanced (lanes_count lanes) sets whole place
    → ReadCut enhanced (lanes_count lanes) sets whole place
reads_cut enhanced lanes sets whole place r =
    let n : ℕ = lanes_count lanes in
    let ran : Ran enhanced (lanes_count lanes) opening start r.tokens [] whole place =
    run_sound enhanced (lanes_count lanes) r.tokens whole place r.uniform
    (block_some lanes) opening start [] tt r.reached in
    let goes_on : Goes enhanced (lanes_count lanes) (end opening ran.parts) place =
    goes enhanced (lanes_count lanes) (end opening ran.parts) place ran.stands in
    let back : List Part = goes_on.next ∷ more_of (lanes_count lanes) (after goes_on.next) in
    let more = more_chain (lanes_count lanes) (after goes_on.next) (never_opening goes_on.next) in
    let chain : Chain (lanes_count lanes) opening (ran.parts ++ back) =
    chain_join (lanes_count lanes) opening ran.parts back ran.chain (goes_on.follows, more.0) in
    let behind : IsBehind (end opening (ran.parts ++ back)) =
    subst (λ m. IsBehind m) (sym (end_join opening ran.parts back)) more.1 in
    let same : ran.parts ≡ whole = sym ran.grew in
    record {
      next = goes_on.next;
      front = map (token_set (lanes_count lanes)) (front_of place);
      cut = record {
        back = map (token_set (lanes_count lanes)) goes_on.back;
        more = more_of (lanes_count lanes) (after goes_on.next);
        joined =
            sym r.sets_are ∙ ap (map (token_set (lanes_count lanes))) ran.spelled
            ∙ map-append (token_set (lanes_count lanes)) (flat_map (tokens enhanced) ran.parts) (front_of place)
            ∙ ap (λ zs. zs ++ map (token_set (lanes_count lanes)) (front_of place))
            (parts_sets enhanced (lanes_count lanes) ran.parts)
            ∙ ap (λ w. flat_map (sets_of enhanced (lanes_count lanes)) w ++ map (token_set (lanes_count lanes))
            (front_of place)) same;
        of_next =
            sym (part_sets enhanced (lanes_count lanes) goes_on.next)
            ∙ ap (map (token_set (lanes_count lanes))) goes_on.spelled
            ∙ map-append (token_set (lanes_count lanes)) (front_of place) goes_on.back;
        unfinished = some_map (token_set (lanes_count lanes)) goes_on.back goes_on.unfinished;
        are_periods = subst (λ w. ArePeriods (lanes_count lanes) (w ++ back)) same
            (chain_periods (lanes_count lanes) (ran.parts ++ back) chain behind);
      };
      tells =
          begun_is goes_on.next (map (token_set (lanes_count lanes)) (front_of place))
          ∙ ap (told_in goes_on.next) (length-map (front_of place) (token_set (lanes_count lanes)))
          ∙ goes_on.tells;
      front_is = refl;
    }

cut_reads : (enhanced : Bool) (lanes : Lanes) (sets : List (List Sym)) (whole : List Part) (next : Part)
    (front : List (List Sym)) → IsCut enhanced (lanes_count lanes) sets whole next front
    → (place : Place) × Reads enhanced (lanes_count lanes) sets whole place
cut_reads enhanced lanes sets whole next front c =
    let b = blocks lanes in
    let r : IsRun enhanced (lanes_count lanes) b.0 sets whole next front =
    cut_runs enhanced (lanes_count lanes) b.0 sets whole next front b.1 c in (
      r.place,
      record {
        tokens = r.taken;
        sets_are = r.taken_sets;
        uniform = r.good;
        reached = ap (λ k. run enhanced k (36 / lanes_count lanes) [] start r.taken) b.1 ∙ r.reached;
      },
    )

pub reads_exactly : ReadsExactly
reads_exactly enhanced lanes sets whole = (
  λ r. let c = reads_cut enhanced lanes sets whole r.0 r.1 in
      (c.next, c.front, c.cut),
  λ next front c. cut_reads enhanced lanes sets whole next front c,
)
