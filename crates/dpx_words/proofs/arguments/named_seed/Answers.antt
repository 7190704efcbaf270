use Rattle.std.proofs.Common.{◌∙◌, arith, slice_index, sym}
use Rattle.std.specs.Prelude.{◌≢◌}
use Rattle.std.proofs.lemmas.Bool.{eq-eqb, eqb-true, true≢false}
use Rattle.dpx_words.proofs.Seeds.{none_longer, none_signed, short_is_parsed}
use Rattle.dpx_words.proofs.arguments.named_seed.Goals as goal

pub returns-then-word-gt-MOST_DIGITS : goal.returns-then-word-gt-MOST_DIGITS
returns-then-word-gt-MOST_DIGITS c = none_longer c.args.word.now (omega (arith, c.if-word-gt-MOST_DIGITS.true))

pub returns-then-starts_with : goal.returns-then-starts_with
returns-then-starts_with c =
    let plus = c.starts_with.ensures.byte (omega arith) (omega arith) (λ w o found. found) in
    none_signed c.args.word.now (eqb-true _ _ (sym plus ∙ c.if-starts_with.true))

pub returns : goal.returns
returns c =
    let plus = c.starts_with.ensures.byte (omega arith) (omega arith) (λ w o found. found) in
    let plain : slice_index c.args.word.now 0 ≢ 43 =
    λ first. true≢false (sym (eq-eqb _ _ first) ∙ (sym plus ∙ c.if-starts_with.false)) in
    c.ok.ensures.value
    ∙ short_is_parsed c.args.word.now c.parse.result c.if-word-gt-MOST_DIGITS.false plain c.parse.ensures.value.0
