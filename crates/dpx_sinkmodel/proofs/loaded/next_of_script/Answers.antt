use Rattle.std.proofs.Common.{◌<◌, length, get_or, sym, ap, ◌∙◌, arith}
use Rattle.std.proofs.lemmas.Grind.{common_steps}
use Rattle.dpx_sinkmodel.proofs.PlanPlayed.{script_goes_on}
use Rattle.dpx_sinkmodel.proofs.loaded.next_of_script.Goals as goal

pub returns : goal.returns
returns c = λ bytes later.
    let answers = c.args.answers.now in
    let next = c.args.next.now in
    let lookup = c.in-Some.ensures.lookup in
    let inside : next < length answers = grind (arith, common_steps, lookup.0, c.as_slice.ensures) in
    script_goes_on answers next c.copy.result bytes later inside
    (c.copy.ensures ∙ (lookup.1 ∙ (ap (λ xs. get_or xs next c.in-Some.answer.now) c.as_slice.ensures
    ∙ ap (λ x. get_or answers next x) (sym c.copy.ensures))))
