use Rattle.std.proofs.Common.{◌≡◌, get_or, take}
use Rattle.dpx_base.specs.Unpacking.{carried_pixel}
use Rattle.dpx_pack.specs.Lanes.{LeftOfBytes, whole_pixel_count}
use Rattle.dpx_pack.specs.Positions.{span}
use Rattle.dpx_pack.proofs.unpacking.unpack_lane.Given as goal

abbrev pub invariant-loop-byte : goal.invariant-loop-byte
invariant-loop-byte g l =
    record {
      taken : LeftOfBytes g.row.C (take l.byte-index l.bytes) l.unpacker;
      pixels : l.pixels.items
          ≡ span (carried_pixel g.row.C (λ j. get_or l.bytes j 0)) 0 (whole_pixel_count g.row.C l.byte-index);
    }
