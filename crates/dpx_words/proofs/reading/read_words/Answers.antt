use Rattle.std.proofs.Common.{◌≡◌, ◌∙◌, sym, map, string_bytes, List, ℕ, false, Option, refl, subst, String}
use Rattle.std.specs.List.{list_any}
use Rattle.std.specs.declared.alloc.Global.{Global}
use Rattle.dpx_words.specs.Dashes.{has_dash}
use Rattle.dpx_words.specs.Reading.{WordsRead, command_of, command_in}
use Rattle.dpx_words.specs.declared.command.Command.{Command}
use Rattle.dpx_words.proofs.WalkOfWords.{dash_none}
use Rattle.dpx_words.proofs.reading.read_words.Goals as goal

pub parse_positional-requires : goal.parse_positional-requires
parse_positional-requires c = dash_none _ (sym c.any_dash.ensures ∙ c.if-any_dash.false)

reads : (words : List (String Global)) (list : List (List ℕ)) → list_any has_dash (map string_bytes words) ≡ false
    → list ≡ map string_bytes words → command_of list ≡ command_in words
unfolding command_in
reads words list none same = rw (none, same) refl

pub returns-in-Ok : goal.returns-in-Ok
returns-in-Ok c =
    subst (λ (read : Option Command). WordsRead read c.read_matches.result)
    (reads _ _ (sym c.any_dash.ensures ∙ c.if-any_dash.false) c.in-Ok.ensures.ok) c.read_matches.ensures
