use Rattle.std.proofs.Common.{map, ap, sym, ◌∙◌}
use Rattle.std.specs.Prelude.{Some, option_map}
use Rattle.serde_json.specs.View.{view}
use Rattle.dpx_files.specs.Members.{list_of}
use Rattle.dpx_files.proofs.Texts.{list_of-items_of}
use Rattle.dpx_files.proofs.members.elements.Goals as goal

pub returns-in-Some : goal.returns-in-Some
returns-in-Some c =
    rw c.as_slice.ensures.value (ap Some (sym (list_of-items_of (map view c.in-Some.values.now.items))) ∙ ap (option_map list_of) c.in-Some.ensures)
