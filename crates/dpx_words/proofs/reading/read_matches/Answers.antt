use Rattle.std.proofs.Common.{◌∙◌, List, ℕ, Option, codes, unwrap_or, [], subst}
use Rattle.clap.specs.Words.{found_of}
use Rattle.clap.proofs.WalkLemmas.{raw_values-rows}
use Rattle.dpx_words.specs.Reading.{WordsRead, command_of}
use Rattle.dpx_words.proofs.reading.read_matches.Goals as goal

pub returns-in-Some : goal.returns-in-Some
returns-in-Some c =
    subst (λ (o : Option (List (List ℕ))). WordsRead (command_of (unwrap_or o [])) c.read_command.result)
    (c.in-Some.ensures ∙ raw_values-rows (found_of c.args.matches.now) (codes "words")) c.read_command.ensures

pub returns-in-None : goal.returns-in-None
returns-in-None c =
    subst (λ (o : Option (List (List ℕ))). WordsRead (command_of (unwrap_or o [])) c.read_command-in-None.result)
    (c.in-None.ensures ∙ raw_values-rows (found_of c.args.matches.now) (codes "words"))
    c.read_command-in-None.ensures
