-- A set tells one thing at most.
use Rattle.std.proofs.Common.{◌∙◌, [], ◌∷◌, ◌++◌, reverse, sym, ap}
use Rattle.dpx_base.specs.Lanes.{lanes_count}
use Rattle.dpx_parse.specs.Events.{event_told}
use Rattle.dpx_parse.specs.Laws.{IsOneEvent}
use Rattle.dpx_parse.proofs.OneReason.{told_one}

pub one_event : IsOneEvent
one_event e l sets set event other a b =
    a.event_is
    ∙ ap (λ old. event_told (lanes_count l) old (reverse a.new)) (told_one l e sets a.old b.old a.old_are b.old_are)
    ∙ ap (event_told (lanes_count l) (reverse b.old))
    (told_one l e (sets ++ set ∷ []) a.new b.new a.new_are b.new_are)
    ∙ sym b.event_is
