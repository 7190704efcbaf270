use Rattle.std.proofs.Common.{◌∷◌, ap, sym, ◌∙◌, arith}
use Rattle.dpx_sinkmodel.specs.Loaded.{answers_next}
use Rattle.dpx_sinkmodel.proofs.PlanPlayed.{plays_on}
use Rattle.dpx_sinkmodel.proofs.plan_port.PlanPortAuxPort.ask.Goals as goal

pub invariant_of-self : goal.invariant_of-self
invariant_of-self c = record {
  room = omega (arith, c.keep.ensures.room, c.args.self.now.room);
  few = omega (arith, c.answer-answer.ensures.requests, c.args.self.now.few);
  plays = plays_on _ _ _ _ _ _ _ (answers_next c.args.self.now.loaded)
      (answers_next c.answer-answer.new.self) c.args.self.now.plays
      (λ later. ap (λ bytes. answers_next c.args.self.now.loaded (bytes ∷ later)) c.from_slice.ensures
      ∙ (c.answer-answer.ensures.answers later
      ∙ ap (λ answer. answer ∷ answers_next c.answer-answer.new.self later)
      (sym c.copy.ensures))) c.answer-answer.ensures.plan c.keep.ensures.entries c.keep.ensures.all;
}
