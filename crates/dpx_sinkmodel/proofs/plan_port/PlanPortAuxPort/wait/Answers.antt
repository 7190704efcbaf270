use Rattle.std.proofs.Common.{refl, arith}
use Rattle.dpx_sinkmodel.specs.Loaded.{answers_next}
use Rattle.dpx_sinkmodel.proofs.PlanPlayed.{plays_on}
use Rattle.dpx_sinkmodel.proofs.plan_port.PlanPortAuxPort.wait.Goals as goal

pub invariant_of-self : goal.invariant_of-self
invariant_of-self c = record {
  room = omega (arith, c.keep.ensures.room, c.args.self.now.room);
  few = omega (arith, c.args.self.now.few);
  plays = plays_on _ _ _ _ _ _ _ (answers_next c.args.self.now.loaded)
      (answers_next c.args.self.now.loaded) c.args.self.now.plays
      (λ later. refl) refl c.keep.ensures.entries c.keep.ensures.all;
}
