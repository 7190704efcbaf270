use Rattle.std.proofs.Common.{◌≡◌, ℕ, ◌<◌, length, get_or}
use Rattle.dpx_lane.specs.SymbolTable.{IsEntryAt}
use Rattle.dpx_lane.proofs.symbol_table.SymbolTable.new.Given as goal

abbrev pub invariant-loop-index : goal.invariant-loop-index
invariant-loop-index l = (length l.entries ≡ 3072) × ((k : ℕ) → k < l.index → IsEntryAt k (get_or l.entries k 0))
