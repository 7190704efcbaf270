use Rattle.std.proofs.Common.{ap, ◌∙◌, ◌∷◌}
use Rattle.dpx_sinkmodel.specs.Loaded.{answers_next}
use Rattle.dpx_sinkmodel.proofs.loaded.Loaded.answer.Goals as goal

pub returns-in-Script-clause-answers : goal.returns-in-Script-clause-answers
returns-in-Script-clause-answers c = λ later.
    ap (λ loaded. answers_next loaded (c.args.bytes.now ∷ later)) c.in-Script.is
    ∙ c.next_of_script.ensures c.args.bytes.now later
