-- Sets have a symbol for each lane.
use Rattle.std.proofs.Common.{ℕ, ◌≡◌, List, length, refl}
use Rattle.std.proofs.lemmas.List.{length-replicate}
use Rattle.std.proofs.lemmas.List.FromFn.{length-map-range_with_len}
use Rattle.dpx_base.specs.declared.slot.Slot.{Slot}
use Rattle.dpx_base.specs.declared.slot.Slot.TheVariants.{Fill, Group, VbId, Msa, Be, Valid, Stuff, Ended}
use Rattle.dpx_base.specs.declared.slot.Stuffing.TheVariants.{Fs, Zero, Fe}
use Rattle.dpx_base.specs.Lanes.{lanes_count}
use Rattle.dpx_base.specs.Plan.{PlanFacts}
use Rattle.dpx_base.specs.Sets.{set_of, attribute_symbol}
use Rattle.dpx_source.specs.Framing.{HasNoBytes}

pub set_length : (p : PlanFacts) (slot : Slot) (bytes : List ℕ) → HasNoBytes slot
    → length (set_of p slot bytes) ≡ lanes_count p.link.lanes
unfolding set_of
set_length p Fill bytes h = length-replicate _ _
set_length p (Group index reset) bytes h = length-replicate _ _
set_length p (VbId index blank) bytes h = length-replicate _ _
set_length p (Msa index) bytes h = length-map-range_with_len (attribute_symbol p index) 0 _
set_length p Be bytes h = length-replicate _ _
set_length p Valid bytes h = absurd (h.0 refl)
set_length p (Stuff Fs) bytes h = length-replicate _ _
set_length p (Stuff Zero) bytes h = length-replicate _ _
set_length p (Stuff Fe) bytes h = length-replicate _ _
set_length p Ended bytes h = absurd (h.1 refl)
