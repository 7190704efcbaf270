-- What a source sends is received.
use Rattle.std.specs.Prelude.{ℕ, Bool, true, not, ◌==◌, ◌||◌, replicate, ◌≡◌, ◌<◌, ◌+◌, ◌*◌, ◌++◌}
use Rattle.std.specs.Prelude.{List, map, drop, length, slice_index_or}
use Rattle.std.specs.List.{AllByRecursion, range_with_len, flat_map}
use Rattle.dpx_base.specs.declared.pixel.Pixel.{Pixel}
use Rattle.dpx_base.specs.declared.sym.Sym.{Sym}
use Rattle.dpx_base.specs.Mode.{depth_bits}
use Rattle.dpx_base.specs.Plan.{PlanFacts, IsPlan}
use Rattle.dpx_base.specs.Sets.{black, set_at, sets}
use Rattle.dpx_base.specs.Symbols.{cp, bs, be, sr, bf, ss, se, fs, fe}
use Rattle.dpx_grammar.specs.Parts.{data_set, control_set, group_sets}
use Rattle.dpx_msa.specs.Reading.{attributes_of}
use Rattle.dpx_base.specs.Unpacking.{InRange}
use Rattle.dpx_base.specs.Slots.{header_start}
use Rattle.dpx_inversion.specs.Source.{plan_lanes, zero_row}
use Rattle.dpx_grammar.specs.Accepted.{Frame, Receives}

-- line y of all lines that have pixels
unfoldable pub row_of_pixels : PlanFacts → List Pixel → (y : ℕ) → List Pixel
row_of_pixels p pixels y = map (λ x. slice_index_or pixels (y * p.mode.width + x) black) (range_with_len 0 p.mode.width)

-- the frames that were handed to the source
unfoldable pub sent_frames : PlanFacts → List Pixel → List Frame
sent_frames p pixels =
    map (λ f. record {
      attributes = attributes_of p.mode p.link;
      lines = map (λ y. row_of_pixels p pixels (f * p.mode.height + y)) (range_with_len 0 p.mode.height);
    }) (range_with_len 0 p.frames)

-- each pixel of so many frames, and within the depth
pub record AreWhole (p : PlanFacts) (pixels : List Pixel) : Type 0 where
  pub count : length pixels ≡ p.frames * p.mode.height * p.mode.width
  pub in_range : AllByRecursion (InRange (depth_bits p.mode.depth)) pixels

-- The sets of a plan that fits and of exactly its pixels, from the first SR on, are accepted and give back the frames.
abbrev pub Inverts : Type 0
Inverts =
    (p : PlanFacts) (pixels : List Pixel) → IsPlan p → AreWhole p pixels
    → Receives p.link.enhanced (plan_lanes p) (drop (header_start p 0) (sets p pixels)) (sent_frames p pixels) 0

-- the pixels of frames, line by line
abbrev pub pixels_in : List Frame → List Pixel
pixels_in frames = flat_map (λ frame. flat_map (λ line. line) frame.lines) frames

-- Whatever is received of a source's sets from the first SR on is its frames, with its pixels in their order.
abbrev pub IsReceived : Type 0
IsReceived =
    (p : PlanFacts) (pixels : List Pixel) (frames : List Frame) (tail : ℕ) → IsPlan p → AreWhole p pixels
    → Receives p.link.enhanced (plan_lanes p) (drop (header_start p 0) (sets p pixels)) frames tail
    → (frames ≡ sent_frames p pixels) × (pixels_in frames ≡ pixels) × (tail ≡ 0)

-- Before the first header a source sends zeros, and the header begins with SR: so its first SR stands there.
abbrev pub StartsAtSr : Type 0
StartsAtSr =
    (p : PlanFacts) (pixels : List Pixel) → IsPlan p
    → ((t : ℕ) → t < header_start p 0 → set_at p pixels t ≡ data_set (zero_row p))
    × (set_at p pixels (header_start p 0) ≡ control_set (plan_lanes p) sr)

-- And so its sets are zeros, then the first header's whole group, which has SR, and the rest.
abbrev pub StartsWithGroup : Type 0
StartsWithGroup =
    (p : PlanFacts) (pixels : List Pixel) → IsPlan p
    → (rest : List (List Sym))
    × (sets p pixels ≡ map data_set (replicate (header_start p 0) (zero_row p)) ++
    (group_sets p.link.enhanced (plan_lanes p) sr ++ rest))

-- the nine control symbols
abbrev pub is_control : ℕ → Bool
is_control byte =
    byte == bs || byte == be || byte == sr || byte == bf || byte == ss || byte == se || byte == fs || byte ==
    fe || byte == cp

-- a data symbol of a byte, or one of the nine
abbrev pub CanBeSent : Sym → Type 0
CanBeSent symbol = (symbol.byte < 256) × ((not symbol.control || is_control symbol.byte) ≡ true)

-- a symbol for each lane
abbrev pub IsSet : ℕ → List Sym → Type 0
IsSet lanes set = (length set ≡ lanes) × AllByRecursion CanBeSent set

-- Each of a source's sets has a symbol for each lane, and each symbol can be sent.
abbrev pub SetsCanBeSent : Type 0
SetsCanBeSent = (p : PlanFacts) (pixels : List Pixel) → IsPlan p → AllByRecursion (IsSet (plan_lanes p)) (sets p pixels)
