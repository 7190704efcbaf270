use Rattle.std.proofs.Common.{◌<◌, ◌≤◌, ◌+◌, List, [], length, slice_index_or, arith, sym, subst}
use Rattle.std.proofs.lemmas.List.{length-map}
use Rattle.std.proofs.lemmas.Bool.{both_ways}
use Rattle.std.proofs.Common.{drop}
use Rattle.dpx_base.specs.declared.sym.Sym.{Sym}
use Rattle.dpx_align.proofs.Answered.{ready_set, ready_on}
use Rattle.dpx_align.proofs.Stepping.{level_drop, count_drop}
use Rattle.dpx_align.specs.Lock.{sr_group, SetOf}
use Rattle.dpx_align.specs.Search.{Level, Holds}
use Rattle.dpx_align.proofs.deskew.Deskew.hand_out.Goals as goal

pub invariant_of-self : goal.invariant_of-self
invariant_of-self c =
    let old = c.args.self.now.rings in
    let k = c.take_heads-set.ensures.rest in
    let n = length-map old (λ (ring : List Sym). drop 1 ring) in
    record {
      lanes = subst (λ (x : List (List Sym)). (0 < length x) × (length x ≤ 4)) (sym k)
          (omega (arith, c.args.self.now.lanes, n), omega (arith, c.args.self.now.lanes, n));
      even = λ f. absurd (both_ways c.args.self.now.locked f c.requires.locked);
      level = subst (λ (x : List (List Sym)). Level x) (sym k) (level_drop old c.requires.wait c.args.self.now.level);
      count = subst (λ (x : List (List Sym)). c.args.self.now.given + 1 + length
          (slice_index_or x 0 []) ≤ c.args.self.now.taken) (sym k)
          (count_drop old c.args.self.now.given c.args.self.now.taken c.args.self.now.lanes.0 c.requires.wait
          c.args.self.now.count);
      few = c.args.self.now.few;
    }

pub returns-clause-set : goal.returns-clause-set
returns-clause-set c lanes h =
    subst (λ (x : List Sym). SetOf (sr_group c.args.self.now.enhanced) lanes c.args.self.now.given x)
    (sym c.take_heads-set.ensures.set)
    (ready_set c.args.self.now.locked
    (sr_group c.args.self.now.enhanced) lanes c.args.self.now.rings c.args.self.now.given
    c.requires.locked c.requires.wait h)

pub returns-clause-state : goal.returns-clause-state
returns-clause-state c lanes h =
    subst (λ (x : List (List Sym)). Holds c.args.self.now.locked (sr_group c.args.self.now.enhanced) lanes x
    (c.args.self.now.given + 1)) (sym c.take_heads-set.ensures.rest)
    (ready_on c.args.self.now.locked
    (sr_group c.args.self.now.enhanced) lanes c.args.self.now.rings c.args.self.now.given c.requires.locked
    c.requires.wait h)
