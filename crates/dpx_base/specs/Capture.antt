-- The bytes of a capture: this project's own.
use Rattle.std.specs.Prelude.{◌≡◌, ℕ, ◌+◌, ◌-◌, ◌*◌, ◌/◌, ◌%◌, if◌then◌else◌}
use Rattle.std.specs.Prelude.{List, [], ◌∷◌, ◌++◌, map, flat_map, slice_index, slice_index_or}
use Rattle.std.specs.List.{range_with_len}
use Rattle.dpx_base.specs.declared.link.Link.{Link}
use Rattle.dpx_base.specs.declared.pixel.Pixel.{Pixel}
use Rattle.dpx_base.specs.Attributes.{two_bytes}
use Rattle.dpx_base.specs.Lanes.{lanes_count}
use Rattle.dpx_base.specs.Plan.{PlanFacts, clocks}
use Rattle.dpx_base.specs.Rate.{rate_code}
use Rattle.dpx_base.specs.Sets.{sets}
use Rattle.dpx_base.specs.Words.{SentWords, words_of}

-- DPX1, the number of lanes, the rate, the framing, and 00
abbrev pub header_bytes : Link → List ℕ
header_bytes link =
    0x44 ∷ 0x50 ∷ 0x58 ∷ 0x31 ∷ lanes_count link.lanes ∷ rate_code link.rate ∷ (if link.enhanced then 1 else 0) ∷ 0 ∷ []

-- Word k of a capture: clock by clock, and lane by lane within a clock
abbrev pub word_at : (lanes : ℕ) → (words : List (List ℕ)) → (k : ℕ) → ℕ
word_at lanes words k = slice_index_or (words_of words (k % lanes)) (k / lanes) 0

-- the bytes of the lanes' words, over so many clocks
unfoldable pub word_bytes : (lanes clocks : ℕ) → (words : List (List ℕ)) → List ℕ
word_bytes lanes clocks words = flat_map two_bytes (map (word_at lanes words) (range_with_len 0 (lanes * clocks)))

-- the other way round: a lane's word of a clock in such bytes, and each lane's words of so many clocks
abbrev pub word_in : (lanes : ℕ) → (bytes : List ℕ) → (lane clock : ℕ) → ℕ
word_in lanes bytes lane clock =
    let place = 2 * (lanes * clock + lane) in
    256 * slice_index bytes place + slice_index bytes (place + 1)

unfoldable pub words_in : (lanes clocks : ℕ) → (bytes : List ℕ) → List (List ℕ)
words_in lanes clocks bytes =
    map (λ lane. map (word_in lanes bytes lane) (range_with_len 0 clocks)) (range_with_len 0 lanes)

-- the clocks of a capture: those of the sets, and two for each lane but the first
abbrev pub capture_clocks : PlanFacts → ℕ
capture_clocks p = clocks p + 2 * (lanes_count p.link.lanes - 1)

-- the capture of a plan's frames with these pixels
pub record IsCapture (p : PlanFacts) (pixels : List Pixel) (bytes : List ℕ) : Type 0 where
  pub words : List (List ℕ)
  pub sent : SentWords (lanes_count p.link.lanes) (sets p pixels) words
  pub bytes_are : bytes ≡ header_bytes p.link ++ word_bytes (lanes_count p.link.lanes) (capture_clocks p) words
