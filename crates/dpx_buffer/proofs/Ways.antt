-- The three ways on with a pixel: the group stays open, the group is packed, the line ends.
use Rattle.std.proofs.Common.{◌≡◌, ℕ, ◌<◌, ◌+◌, List, [], ◌∷◌, ◌++◌, length, refl, arith, All}
use Rattle.std.proofs.lemmas.List.Elements.{All-append, All-replicate}
use Rattle.dpx_base.specs.declared.pixel.Pixel.{Pixel}
use Rattle.dpx_base.specs.Lanes.{lanes_count}
use Rattle.dpx_base.specs.Mode.{depth_bits}
use Rattle.dpx_base.specs.Unpacking.{InRange}
use Rattle.dpx_buffer.specs.Buffer.{BufferState, Holds, Reached}
use Rattle.dpx_buffer.specs.Lane.{LaneState}
use Rattle.dpx_buffer.proofs.Next.{PacksGroup, FinishesLines, is_at, next_open, next_group, next_line}
use Rattle.dpx_buffer.proofs.Room.{CanTake, depth_pos}

-- the buffer after one more pixel
pub record TakesOn (b : BufferState) (q : Pixel) (after : BufferState) : Type 0 where
  pub reached : Reached after
  pub holds : (pixels : List Pixel) (taken : ℕ) → Holds pixels taken b → Holds (pixels ++ q ∷ []) taken after

takes_on : (b : BufferState) (q : Pixel) (after : BufferState) → CanTake b q → after.plan ≡ b.plan
    → ((pixels : List Pixel) (taken : ℕ) → Holds pixels taken b → Holds (pixels ++ q ∷ []) taken after)
    → TakesOn b q after
takes_on b q after f same holds = record {
  reached = record {
    planned = rw same f.reached.planned;
    pixels = f.reached.pixels ++ q ∷ [];
    taken = f.reached.taken;
    holds = holds f.reached.pixels f.reached.taken f.reached.holds;
    in_range = rw same in_range;
  };
  holds = holds;
}
  where
    in_range : All (InRange (depth_bits b.plan.mode.depth)) (f.reached.pixels ++ q ∷ [])
    in_range =
        All-append (InRange (depth_bits b.plan.mode.depth)) f.reached.pixels (q ∷ []) f.reached.in_range
        (All-replicate (InRange (depth_bits b.plan.mode.depth)) 1 q f.range)

pub stays_open : (b : BufferState) (q : Pixel) → CanTake b q → b.column + 1 < b.plan.mode.width
    → length b.group + 1 < lanes_count b.plan.link.lanes
    → TakesOn b q (record b { group = b.group ++ q ∷ []; column = b.column + 1 })
stays_open b q f inside open_ =
    takes_on b q _ f refl
    (λ pixels taken h.
    let at = is_at b pixels taken f.possible h in
    next_open b pixels q taken _ _ _ f.possible h at (omega (arith, inside, at.column)) open_)

pub packs_group : (b : BufferState) (q : Pixel) (lanes : List LaneState) → CanTake b q
    → b.column + 1 < b.plan.mode.width → length b.group + 1 ≡ lanes_count b.plan.link.lanes
    → length lanes ≡ length b.lanes → PacksGroup b q lanes
    → TakesOn b q (record b { lanes = lanes; group = []; column = b.column + 1 })
packs_group b q lanes f inside full same packs =
    takes_on b q _ f refl
    (λ pixels taken h.
    let at = is_at b pixels taken f.possible h in
    next_group b pixels q taken _ _ _ lanes f.possible (depth_pos b.plan.mode.depth) h at
    (omega (arith, inside, at.column)) full same packs)

pub ends_line : (b : BufferState) (q : Pixel) (middle lanes : List LaneState) → CanTake b q
    → b.column + 1 ≡ b.plan.mode.width → length middle ≡ length b.lanes → PacksGroup b q middle
    → length lanes ≡ length middle → FinishesLines middle lanes
    → TakesOn b q (record b { lanes = lanes; group = []; column = 0 })
ends_line b q middle lanes f ends same packs alike finishes =
    takes_on b q _ f refl
    (λ pixels taken h.
    let at = is_at b pixels taken f.possible h in
    next_line b pixels q taken _ _ _ middle lanes f.possible (depth_pos b.plan.mode.depth) h at
    (omega (arith, ends, at.column)) same packs alike finishes)
