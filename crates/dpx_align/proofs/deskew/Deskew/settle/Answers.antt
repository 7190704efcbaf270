use Rattle.std.proofs.Common.{◌<◌, ◌≤◌, ℕ, List, length, arith, sym, subst, ap, ◌∙◌, refl}
use Rattle.dpx_base.specs.declared.sym.Sym.{Sym}
use Rattle.dpx_align.proofs.Answered.{kept_length, kept_shorter, even_after, level_after, settled, unlocked, few_group}
use Rattle.dpx_align.proofs.Answered.{short_after}
use Rattle.dpx_align.specs.Lock.{lane_of}
use Rattle.dpx_align.specs.Search.{lock_in, Even, Level}
use Rattle.dpx_align.proofs.deskew.Deskew.settle.Goals as goal

pub invariant_of-self : goal.invariant_of-self
invariant_of-self c =
    let g = c.sr_group.result.now in
    let old = c.args.self.now.rings in
    let o = lock_in g old in
    let k = c.seek-self.ensures.kept in
    let n = kept_length g old o in
    let e = c.args.self.now.even c.if-not-self.true in
    record {
      lanes = subst (λ (x : List (List Sym)). (0 < length x) × (length x ≤ 4)) (sym k)
          (omega (arith, c.args.self.now.lanes, n), omega (arith, c.args.self.now.lanes, n));
      even = λ f. subst (λ (x : List (List Sym)). Even x) (sym k)
          (even_after g old o (sym c.seek-self.ensures.found ∙ f) e);
      level = subst (λ (x : List (List Sym)). Level x) (sym k) (level_after g old o refl e);
      count = omega (
        arith,
        ap (λ (x : List (List Sym)). length (lane_of x 0)) k,
        kept_shorter g old o c.args.self.now.lanes.0,
        c.args.self.now.count,
      );
      few = c.args.self.now.few;
    }

pub returns-then-not-self-clause-state : goal.returns-then-not-self-clause-state
returns-then-not-self-clause-state c lanes h =
    settled c.args.self.now.locked c.args.self.now.enhanced c.seek-self.result c.sr_group.result.now lanes
    c.args.self.now.rings c.seek-self.new.self c.args.self.now.given
    c.if-not-self.true c.sr_group.ensures c.args.self.now.lanes.0 c.seek-self.ensures.found c.seek-self.ensures.kept h

pub returns-then-not-self-clause-none : goal.returns-then-not-self-clause-none
returns-then-not-self-clause-none c f lanes h m k =
    unlocked c.args.self.now.locked c.args.self.now.enhanced c.sr_group.result.now lanes c.args.self.now.rings
    c.args.self.now.given
    c.if-not-self.true c.sr_group.ensures c.args.self.now.lanes.0 (sym c.seek-self.ensures.found ∙ f) h m k

pub returns-then-not-self-clause-short : goal.returns-then-not-self-clause-short
returns-then-not-self-clause-short c f =
    let g = c.sr_group.result.now in
    let old = c.args.self.now.rings in
    let q : length g ≤ 4 = omega (arith, ap length c.sr_group.ensures, few_group c.args.self.now.enhanced) in
    subst (λ (x : List (List Sym)). (j : ℕ) → j < length x → length (lane_of x j) ≤ 19) (sym c.seek-self.ensures.kept)
    (short_after g old (lock_in g old) q (c.args.self.now.even c.if-not-self.true) (sym c.seek-self.ensures.found ∙ f))
