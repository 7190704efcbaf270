-- The pixels of a line come back out of its rows.
use Rattle.std.proofs.Common.{ℕ, zero, suc, ◌+◌, ◌-◌, ◌*◌, ◌/◌, ◌%◌, ◌^◌, ◌<◌, ◌≤◌, ◌≡◌, ◌∙◌, Bool, true, false, List}
use Rattle.std.proofs.Common.{[], map, get_or, refl, ap, arith}
use Rattle.std.specs.Prelude.{nat_lt, if◌then◌else◌}
use Rattle.std.specs.Int.{bit_at}
use Rattle.std.specs.List.{range_with_len}
use Rattle.std.proofs.Math.Nat.{mul-le-mul_right, mod-lt, div-lt_iff_lt-mul}
use Rattle.std.proofs.lemmas.Nat.{div-mul-add, mod-mul-add}
use Rattle.std.proofs.lemmas.Bool.{lt-ltb}
use Rattle.std.proofs.lemmas.List.FromFn.{get_or-map-range_with_len}
use Rattle.dpx_base.specs.declared.pixel.Pixel.{Pixel}
use Rattle.dpx_base.specs.Packing.{Line, component, line_bit, line_byte, number_of}
use Rattle.dpx_base.specs.Timing.{ceil_div, symbols_of}
use Rattle.dpx_timing.proofs.Floors.{ceil_high}
use Rattle.dpx_grammar.specs.Accepted.{pixels_in_rows}
use Rattle.dpx_base.specs.Unpacking.{InRange, carried_bit, carried_component, unpacked}
use Rattle.dpx_grammar.proofs.Lists.{map_range_same}
use Rattle.dpx_inversion.proofs.Bits.{bit_small, bit_of_number, number_back}

-- what a lane carries in these rows
abbrev byte_in : List (List ℕ) → (lane j : ℕ) → ℕ
byte_in rows lane j = get_or (get_or rows j []) lane 0

-- row j of a line, and all its rows
unfoldable pub row_of : Line → ℕ → List ℕ
row_of line j = map (λ lane. line_byte line lane j) (range_with_len 0 line.lanes)

unfoldable pub rows_of : Line → List (List ℕ)
rows_of line = map (row_of line) (range_with_len 0 (symbols_of line.width line.lanes (3 * line.depth)))

pub line_small : (line : Line) (lane i : ℕ) → line_bit line lane i < 2
unfolding line_bit
line_small line lane i =
    small (nat_lt (lane + line.lanes * (i / (3 * line.depth))) line.width)
    (component (line.pixel (lane + line.lanes * (i / (3 * line.depth)))) (i % (3 * line.depth) / line.depth))
    (line.depth - 1 - i % line.depth)
  where
    small : (b : Bool) (v k : ℕ) → (if b then bit_at v k else 0) < 2
    small true v k = bit_small v k
    small false v k = omega arith

-- a lane's bit in the rows
bit_in_rows : (line : Line) (lane i : ℕ) → lane < line.lanes → i < 8 * symbols_of line.width line.lanes (3 * line.depth)
    → carried_bit (byte_in (rows_of line) lane) i ≡ line_bit line lane i
unfolding carried_bit rows_of row_of line_byte
bit_in_rows line lane i here within =
    let b : i / 8 < symbols_of line.width line.lanes (3 * line.depth) = omega arith in
    let row : get_or (rows_of line) (i / 8) [] ≡ row_of line (i / 8) =
    get_or-map-range_with_len (row_of line) 0 (symbols_of line.width line.lanes (3 * line.depth)) (i / 8) (i / 8) [] b
    (omega arith) in
    let byte : get_or (row_of line (i / 8)) lane 0
    ≡ number_of (map (line_bit line lane) (range_with_len (8 * (i / 8)) 8)) =
    get_or-map-range_with_len (λ l. number_of (map (line_bit line l) (range_with_len (8 * (i / 8)) 8))) 0
    line.lanes lane lane 0 here (omega arith) in
    let place : 8 * (i / 8) + i % 8 ≡ i = omega arith in
    ap (λ r. bit_at (get_or r lane 0) (7 - i % 8)) row
    ∙ ap (λ v. bit_at v (7 - i % 8)) byte
    ∙ bit_of_number (line_bit line lane) (8 * (i / 8)) 8 (i % 8) (line_small line lane) (omega arith)
    ∙ ap (line_bit line lane) place

-- where bit i of component k of pixel x stands
bit_stands : (line : Line) (x k i : ℕ) → 0 < line.lanes → k < 3 → i < line.depth → x < line.width
    → line_bit line (x % line.lanes) (x / line.lanes * (3 * line.depth) + k * line.depth + i)
    ≡ bit_at (component (line.pixel x) k) (line.depth - 1 - i)
unfolding line_bit
bit_stands line x k i pos some here within =
    let c : ℕ = line.depth in
    let g : ℕ = x / line.lanes in
    let room : suc k * line.depth ≤ 3 * line.depth = mul-le-mul_right line.depth some in
    let in_pixel : k * line.depth + i < 3 * line.depth = omega arith in
    let joined : x / line.lanes * (3 * line.depth) + k * line.depth + i
    ≡ x / line.lanes * (3 * line.depth) + (k * line.depth + i) = omega arith in
    let flat : x / line.lanes * (3 * line.depth) + (k * line.depth + i) ≡ (x / line.lanes * 3 + k) * line.depth + i =
    omega arith in
    let q : (x / line.lanes * (3 * line.depth) + (k * line.depth + i)) / (3 * line.depth) ≡ x / line.lanes =
    div-mul-add (x / line.lanes) (3 * line.depth) (k * line.depth + i) in_pixel in
    let m : (x / line.lanes * (3 * line.depth) + (k * line.depth + i)) % (3 * line.depth) ≡ k * line.depth + i =
    mod-mul-add (x / line.lanes) (3 * line.depth) (k * line.depth + i) in_pixel in
    let d : (k * line.depth + i) / line.depth ≡ k = div-mul-add k line.depth i here in
    let l : (x / line.lanes * (3 * line.depth) + (k * line.depth + i)) % line.depth ≡ i =
    ap (λ z. z % line.depth) flat ∙ mod-mul-add (x / line.lanes * 3 + k) line.depth i here in
    let back : x % line.lanes + line.lanes * (x / line.lanes) ≡ x = omega arith in
    let t : nat_lt x line.width ≡ true = lt-ltb x line.width within in
    rw (joined, q, m, d, l, back, t) refl

place_within : (depth lanes width x k i : ℕ) → 0 < lanes → k < 3 → i < depth → x < width
    → x / lanes * (3 * depth) + k * depth + i < 8 * symbols_of width lanes (3 * depth)
place_within c lanes width x k i pos some here within =
    let g : x / lanes < ceil_div width lanes = (div-lt_iff_lt-mul pos).1 (omega (arith, ceil_high width lanes pos)) in
    let room : suc k * c ≤ 3 * c = mul-le-mul_right c some in
    let rows : suc (x / lanes) * (3 * c) ≤ ceil_div width lanes * (3 * c) = mul-le-mul_right (3 * c) g in
    omega (arith, ceil_high (ceil_div width lanes * (3 * c)) 8 (omega arith))

component_fits : (c : ℕ) (p : Pixel) (k : ℕ) → InRange c p → component p k < 2 ^ c
component_fits c p zero h = h.r
component_fits c p (suc zero) h = h.g
component_fits c p (suc (suc k)) h = h.b

component_back : (line : Line) (x k : ℕ) → 0 < line.lanes → k < 3 → x < line.width → InRange line.depth (line.pixel x)
    → carried_component line.depth (byte_in (rows_of line) (x % line.lanes)) (x / line.lanes) k
    ≡ component (line.pixel x) k
unfolding carried_component
component_back line x k pos some within fits =
    number_back (carried_bit (byte_in (rows_of line) (x % line.lanes)))
    (x / line.lanes * (3 * line.depth) + k * line.depth) line.depth (component (line.pixel x) k)
    (component_fits line.depth (line.pixel x) k fits)
    (λ i l.
    bit_in_rows line (x % line.lanes) (x / line.lanes * (3 * line.depth) + k * line.depth + i) (mod-lt x pos)
    (place_within line.depth line.lanes line.width x k i pos some l within)
    ∙ bit_stands line x k i pos some l within)

-- the pixels of a line come back
pub line_back : (line : Line) → 0 < line.lanes → ((x : ℕ) → x < line.width → InRange line.depth (line.pixel x))
    → pixels_in_rows line.depth line.lanes line.width (rows_of line) ≡ map line.pixel (range_with_len 0 line.width)
unfolding unpacked
line_back line pos fits =
    map_range_same
    (λ x. record {
      r = carried_component line.depth (byte_in (rows_of line) (x % line.lanes)) (x / line.lanes) 0;
      g = carried_component line.depth (byte_in (rows_of line) (x % line.lanes)) (x / line.lanes) 1;
      b = carried_component line.depth (byte_in (rows_of line) (x % line.lanes)) (x / line.lanes) 2;
    })
    line.pixel 0 0 line.width
    (λ x l.
    let z : 0 + x ≡ x = omega arith in
    let f : InRange line.depth (line.pixel x) = fits x l in
    rw (
      z,
      component_back line x 0 pos (omega arith) l f,
      component_back line x 1 pos (omega arith) l f,
      component_back line x 2 pos (omega arith) l f,
    ) refl)
