use Rattle.std.proofs.Common.{◌≡◌, map, drop, length}
use Rattle.serde_json.specs.View.{view}
use Rattle.dpx_files.proofs.ItemsRead.{HasRead}
use Rattle.dpx_files.proofs.items.read_items.Given as goal

abbrev pub invariant-loop-value : goal.invariant-loop-value
invariant-loop-value g l = record {
  read : HasRead g.T.Item.item_of (map view l.values) (map view (drop l.value-index l.values)) l.items.items;
  count : length l.items.items ≡ l.value-index;
}
