use Rattle.std.proofs.Common.{rules, ◌≡◌, ◌∙◌, ap, ap₂, map, List, codes, string_bytes, unwrap_or, [], ◌≤◌, length, true, arith, Option, Some, None}
use Rattle.std.proofs.lemmas.List.{length-map}
use Rattle.std.specs.Option.{IsSomeAnd}
use Rattle.clap.specs.declared.builder.range.ValueRange.{ValueRange}
use Rattle.clap.specs.declared.builder.action.ArgAction.TheVariants.{Append}
use Rattle.std.proofs.lemmas.Result.{IfErr-weaker, IfOk-weaker}
use Rattle.clap.specs.Lexer.{usize_max}
use Rattle.clap.specs.Words.{Rule, Text, app_of, is_simple, takes, rule_of, all_of, matches_of}
use Rattle.clap.specs.Simple.{app_of_fields, new_app, on_top, with_rule}
use Rattle.dpx_words.proofs.WalkOfWords.{range, app, rule, simple, matches_are, takes_all}
use Rattle.dpx_words.proofs.positional.parse_positional.Goals as goal

some_range : (o : Option ValueRange) → IsSomeAnd o (λ r. r ≡ range) → o ≡ Some range
some_range None h = absurd h
some_range (Some r) h = ap (λ x. Some x) h

pub returns : goal.returns
returns c =
    let rule_is : rule_of c.num_args-arg.result ≡ rule =
    ap rule_of c.num_args-arg.ensures.0
    ∙ ap (λ (r : Rule). record r { range = c.num_args-arg.result.num_vals })
    (ap rule_of c.action.ensures ∙ ap (λ (r : Rule). record r { action = Some Append }) c.new.ensures.rule)
    ∙ ap (λ o. record rule { range = o }) (some_range c.num_args-arg.result.num_vals c.num_args-arg.ensures.1) in
    let bare : app_of c.no_binary_name.result ≡ on_top (λ s. record s { no_binary_name = true }) (new_app (codes "dp_replay")) =
    ap app_of_fields c.no_binary_name.ensures ∙ ap (on_top (λ s. record s { no_binary_name = true })) c.new-2.ensures.app in
    let app_is : app_of c.in_ok-command.command ≡ app = c.in_ok-command.ensures.shape (search rules) ∙ ap₂ with_rule bare rule_is in
    let parse = c.try_get_matches_from in
    let words : List Text = map (λ s. string_bytes s) c.args.words.now in
    let room : length words ≤ usize_max = omega (arith, length-map c.args.words.now (λ s. string_bytes s)) in
    record {
      ok = IfOk-weaker parse.result _ _ (λ m h.
          ap (λ rows. unwrap_or (all_of (codes "words") rows) []) ((h (ap is_simple app_is ∙ simple)).0 ∙ ap (λ a. matches_of a words) app_is)
          ∙ matches_are words c.requires) parse.ensures.matches;
      memory = IfErr-weaker parse.result _ _ (λ e h. h (ap (λ a. takes a words) app_is ∙ takes_all words c.requires room)) parse.ensures.passes;
    }
