-- The attributes that were sent are read.
use Rattle.std.proofs.Common.{ℕ, ◌≡◌, ◌∙◌, ◌+◌, ◌*◌, ◌/◌, ◌%◌, ◌<◌, Bool, true, false, List, [], map, length, get_or}
use Rattle.std.proofs.Common.{Ok, Some, refl, ap, arith}
use Rattle.std.specs.List.{range_with_len}
use Rattle.std.proofs.lemmas.List.FromFn.{get_or-map-range_with_len}
use Rattle.dpx_base.specs.declared.lanes.Lanes.{Lanes}
use Rattle.dpx_base.specs.declared.lanes.Lanes.TheVariants.{One, Two, Four}
use Rattle.dpx_base.specs.declared.link.Link.{Link}
use Rattle.dpx_base.specs.Attributes.{attributes_bytes, column_symbol}
use Rattle.dpx_base.specs.Lanes.{lanes_count}
use Rattle.dpx_base.specs.Mode.{ModeFacts, IsLegal}
use Rattle.dpx_base.specs.Plan.{PlanFacts}
use Rattle.dpx_grammar.specs.Gathered.{gathered}
use Rattle.dpx_msa.specs.Reading.{attributes_of, read_attributes}
use Rattle.dpx_inversion.specs.Source.{attribute_rows}
use Rattle.dpx_grammar.proofs.Lists.{map_range_is}
use Rattle.dpx_msa.proofs.ReadBack.{reads_back}

-- ---- lanes

dealt : Lanes → List ℕ → List (List ℕ)
dealt lanes bytes =
    map (λ index. map (λ lane. get_or bytes (column_symbol lanes lane index) 0) (range_with_len 0 (lanes_count lanes)))
    (range_with_len 0 (36 / lanes_count lanes))

-- the byte at a place comes back, where the place is that of the lane's byte at its index
byte_back : (lanes : Lanes) (bytes : List ℕ) (place lane index : ℕ) → index < 36 / lanes_count lanes
    → lane < lanes_count lanes
    → column_symbol lanes lane index ≡ place
    → get_or (get_or (dealt lanes bytes) index []) lane 0 ≡ get_or bytes place 0
unfolding dealt
byte_back lanes bytes place lane index i l e =
    ap (λ row. get_or row lane 0)
    (get_or-map-range_with_len (λ n. map (λ k. get_or bytes (column_symbol lanes k n) 0)
    (range_with_len 0 (lanes_count lanes))) 0 (36 / lanes_count lanes) index index [] i (omega arith))
    ∙ get_or-map-range_with_len (λ k. get_or bytes (column_symbol lanes k index) 0) 0 (lanes_count lanes) lane lane 0 l
    (omega arith)
    ∙ ap (λ z. get_or bytes z 0) e

gathered_back : (lanes : Lanes) (bytes : List ℕ) → length bytes ≡ 36
    → gathered (lanes_count lanes) (dealt lanes bytes) ≡ bytes
unfolding gathered
gathered_back One bytes h =
    map_range_is (λ place. get_or (get_or (dealt One bytes) (place / 9 / 1 * 9 + place % 9) [])
    (place / 9 % 1) 0) 0 36 bytes 0 h
    (λ p l. let z : 0 + p ≡ p = omega arith in
    rw z (byte_back One bytes p (p / 9 % 1) (p / 9 / 1 * 9 + p % 9) (omega arith) (omega arith) (omega arith)))
gathered_back Two bytes h =
    map_range_is (λ place. get_or (get_or (dealt Two bytes) (place / 9 / 2 * 9 + place % 9) [])
    (place / 9 % 2) 0) 0 36 bytes 0 h
    (λ p l. let z : 0 + p ≡ p = omega arith in
    rw z (byte_back Two bytes p (p / 9 % 2) (p / 9 / 2 * 9 + p % 9) (omega arith) (omega arith) (omega arith)))
gathered_back Four bytes h =
    map_range_is (λ place. get_or (get_or (dealt Four bytes) (place / 9 / 4 * 9 + place % 9) [])
    (place / 9 % 4) 0) 0 36 bytes 0 h
    (λ p l. let z : 0 + p ≡ p = omega arith in
    rw z (byte_back Four bytes p (p / 9 % 4) (p / 9 / 4 * 9 + p % 9) (omega arith) (omega arith) (omega arith)))

length_bytes : (m : ModeFacts) (link : Link) → length (attributes_bytes m link) ≡ 36
unfolding attributes_bytes
length_bytes m link = refl

pub read_back : (p : PlanFacts) → IsLegal p.mode
    → read_attributes (gathered (lanes_count p.link.lanes) (attribute_rows p)) ≡ Ok (attributes_of p.mode p.link)
unfolding attribute_rows dealt
read_back p h =
    ap read_attributes (gathered_back p.link.lanes (attributes_bytes p.mode p.link) (length_bytes p.mode p.link))
    ∙ reads_back p.mode p.link h
