-- A source's rows are bytes.
use Rattle.std.proofs.Common.{ℕ, zero, suc, ◌+◌, ◌*◌, ◌/◌, ◌%◌, ◌^◌, ◌<◌, ◌≡◌, ◌∙◌, Bool, true, false, List}
use Rattle.std.proofs.Common.{[], ◌∷◌, ◌++◌, map, length, get_or, replicate, Some, None, refl, arith}
use Rattle.std.specs.Prelude.{⊤, not, ◌&&◌}
use Rattle.std.specs.List.{AllByRecursion, range_with_len, flat_map}
use Rattle.std.proofs.lemmas.List.{length-map, length-replicate}
use Rattle.std.proofs.lemmas.List.FromFn.{length-map-range_with_len}
use Rattle.dpx_base.specs.declared.depth.Depth.{Depth}
use Rattle.dpx_base.specs.declared.depth.Depth.TheVariants.{Six, Eight, Ten, Twelve, Sixteen}
use Rattle.dpx_base.specs.declared.link.Link.{Link}
use Rattle.dpx_base.specs.declared.pixel.Pixel.{Pixel}
use Rattle.dpx_base.specs.declared.rate.Rate.{Rate}
use Rattle.dpx_base.specs.declared.rate.Rate.TheVariants.{Rbr, Hbr, Hbr2, Hbr3}
use Rattle.dpx_base.specs.Attributes.{attributes_bytes, column_symbol, block_byte, vb_id, with_polarity, misc0_of}
use Rattle.dpx_base.specs.Mode.{ModeFacts, IsLegal}
use Rattle.dpx_base.specs.Packing.{Line, line_byte, line_bit}
use Rattle.dpx_base.specs.Plan.{PlanFacts, IsPlan}
use Rattle.dpx_base.specs.Rate.{rate_clock_khz}
use Rattle.dpx_base.specs.Sets.{line_of, line_bytes}
use Rattle.dpx_base.specs.Slots.{is_active}
use Rattle.dpx_base.specs.Symbols.{data_symbol, control_symbol, bs, be, sr, bf, ss, se, fs, fe}
use Rattle.dpx_grammar.specs.Parts.{Part, group, block, filler, attributes, secondary, begins, valid, stuffing, sets_of}
use Rattle.dpx_grammar.specs.Parts.{data_set, control_set}
use Rattle.dpx_inversion.specs.Laws.{CanBeSent, is_control, IsSet}
use Rattle.dpx_inversion.specs.Source.{plan_lanes, zero_row, id_row, attribute_rows}
use Rattle.dpx_grammar.proofs.Lists.{all_append, all_map_range}
use Rattle.dpx_inversion.proofs.Bits.{number_small}
use Rattle.dpx_inversion.proofs.Packs.{line_small}
use Rattle.dpx_inversion.proofs.Periods.{id_rows}
use Rattle.dpx_inversion.proofs.Whole.{bytes_length}

-- ---- parts of bytes

abbrev pub Small : ℕ → List ℕ → Type 0
Small lanes row = (length row ≡ lanes) × AllByRecursion (λ byte. byte < 256) row

abbrev pub SmallPart : ℕ → Part → Type 0
SmallPart lanes (group reset) = ⊤
SmallPart lanes (block rows) = AllByRecursion (Small lanes) rows
SmallPart lanes (filler row) = Small lanes row
SmallPart lanes (attributes rows) = AllByRecursion (Small lanes) rows
SmallPart lanes (secondary rows) = AllByRecursion (Small lanes) rows
SmallPart lanes begins = ⊤
SmallPart lanes (valid row) = Small lanes row
SmallPart lanes (stuffing None) = ⊤
SmallPart lanes (stuffing (Some rows)) = AllByRecursion (Small lanes) rows

symbols_sent : (row : List ℕ) → AllByRecursion (λ byte. byte < 256) row → AllByRecursion CanBeSent (data_set row)
symbols_sent [] h = tt
symbols_sent (b ∷ row) h = ((h.0, refl), symbols_sent row h.1)

row_sent : (lanes : ℕ) (row : List ℕ) → Small lanes row → IsSet lanes (data_set row)
row_sent lanes row h = (length-map row data_symbol ∙ h.0, symbols_sent row h.1)

pub rows_sent : (lanes : ℕ) (rows : List (List ℕ)) → AllByRecursion (Small lanes) rows
    → AllByRecursion (IsSet lanes) (map data_set rows)
rows_sent lanes [] h = tt
rows_sent lanes (row ∷ rows) h = (row_sent lanes row h.0, rows_sent lanes rows h.1)

pub all_alike : {X : Type 0} (P : X → Type 0) (n : ℕ) (x : X) → P x → AllByRecursion P (replicate n x)
all_alike P zero x h = tt
all_alike P (suc n) x h = (h, all_alike P n x h)

code_sent : (lanes code : ℕ) → code < 256 → is_control code ≡ true → IsSet lanes (control_set lanes code)
code_sent lanes code small known =
    (length-replicate lanes (control_symbol code), all_alike CanBeSent lanes (control_symbol code) (small, known))

ended_sent : (lanes code : ℕ) (rows : List (List ℕ)) → AllByRecursion (Small lanes) rows → code < 256
    → is_control code ≡ true
    → AllByRecursion (IsSet lanes) (map data_set rows ++ control_set lanes code ∷ [])
ended_sent lanes code rows h small known =
    all_append (IsSet lanes) (map data_set rows) (control_set lanes code ∷ []) (rows_sent lanes rows h)
    (code_sent lanes code small known, tt)

part_sent : (enhanced : Bool) (lanes : ℕ) (x : Part) → SmallPart lanes x
    → AllByRecursion (IsSet lanes) (sets_of enhanced lanes x)
part_sent true lanes (group true) h =
    let x : IsSet lanes (control_set lanes sr) = code_sent lanes sr (omega arith) refl in
    let f : IsSet lanes (control_set lanes bf) = code_sent lanes bf (omega arith) refl in
    (x, (f, (f, (x, tt))))
part_sent true lanes (group false) h =
    let x : IsSet lanes (control_set lanes bs) = code_sent lanes bs (omega arith) refl in
    let f : IsSet lanes (control_set lanes bf) = code_sent lanes bf (omega arith) refl in
    (x, (f, (f, (x, tt))))
part_sent false lanes (group true) h = (code_sent lanes sr (omega arith) refl, tt)
part_sent false lanes (group false) h = (code_sent lanes bs (omega arith) refl, tt)
part_sent enhanced lanes (block rows) h = rows_sent lanes rows h
part_sent enhanced lanes (filler row) h = (row_sent lanes row h, tt)
part_sent enhanced lanes (attributes rows) h =
    let x : IsSet lanes (control_set lanes ss) = code_sent lanes ss (omega arith) refl in
    (x, (x, ended_sent lanes se rows h (omega arith) refl))
part_sent enhanced lanes (secondary rows) h =
    (code_sent lanes ss (omega arith) refl, ended_sent lanes se rows h (omega arith) refl)
part_sent enhanced lanes begins h = (code_sent lanes be (omega arith) refl, tt)
part_sent enhanced lanes (valid row) h = (row_sent lanes row h, tt)
part_sent enhanced lanes (stuffing None) h = (code_sent lanes fe (omega arith) refl, tt)
part_sent enhanced lanes (stuffing (Some rows)) h =
    (code_sent lanes fs (omega arith) refl, ended_sent lanes fe rows h (omega arith) refl)

pub parts_sent : (enhanced : Bool) (lanes : ℕ) (xs : List Part) → AllByRecursion (SmallPart lanes) xs
    → AllByRecursion (IsSet lanes) (flat_map (sets_of enhanced lanes) xs)
parts_sent enhanced lanes [] h = tt
parts_sent enhanced lanes (x ∷ xs) h =
    all_append (IsSet lanes) (sets_of enhanced lanes x) (flat_map (sets_of enhanced lanes) xs)
    (part_sent enhanced lanes x h.0) (parts_sent enhanced lanes xs h.1)

-- ---- a source's rows are bytes

byte_at : (bytes : List ℕ) (k : ℕ) → AllByRecursion (λ byte. byte < 256) bytes → get_or bytes k 0 < 256
byte_at [] k h = omega arith
byte_at (b ∷ bytes) zero h = h.0
byte_at (b ∷ bytes) (suc k) h = byte_at bytes k h.1

pub zero_small : (p : PlanFacts) → Small (plan_lanes p) (zero_row p)
unfolding zero_row
zero_small p = (length-replicate (plan_lanes p) 0, all_alike (λ byte. byte < 256) (plan_lanes p) 0 (omega arith))

block_small : (m : ModeFacts) (blank : Bool) (i : ℕ) → block_byte m blank i < 256
block_small m true i = byte_at (vb_id true ∷ m.clock_khz % 256 ∷ 0 ∷ []) (i % 3)
    (omega arith, (omega arith, (omega arith, tt)))
block_small m false i = byte_at (vb_id false ∷ m.clock_khz % 256 ∷ 0 ∷ []) (i % 3)
    (omega arith, (omega arith, (omega arith, tt)))

pub id_small : (p : PlanFacts) (line : ℕ) → AllByRecursion (Small (plan_lanes p)) (id_rows p line)
unfolding id_rows id_row
id_small p line =
    all_map_range (Small (plan_lanes p)) (id_row p line) 0 (12 / plan_lanes p)
    (λ i l. (
      length-replicate (plan_lanes p) (block_byte p.mode (not (is_active p line && is_active p (line + 1))) (0 + i)),
      all_alike (λ byte. byte < 256) (plan_lanes p)
          (block_byte p.mode (not (is_active p line && is_active p (line + 1))) (0 + i))
          (block_small p.mode (not (is_active p line && is_active p (line + 1))) (0 + i)),
    ))

two_small : (n : ℕ) → n < 65536 → (n / 256 < 256) × (n % 256 < 256)
two_small n h = (omega arith, omega arith)

three_small : (n : ℕ) → n < 16777216 → (n / 65536 < 256) × (n / 256 % 256 < 256) × (n % 256 < 256)
three_small n h = (omega arith, omega arith, omega arith)

polar : (b : Bool) (w : ℕ) → w < 32768 → with_polarity b w < 65536
polar true w h = omega arith
polar false w h = omega arith

misc_small : (d : Depth) → misc0_of d < 256
misc_small Six = omega arith
misc_small Eight = omega arith
misc_small Ten = omega arith
misc_small Twelve = omega arith
misc_small Sixteen = omega arith

rate_small : (r : Rate) → rate_clock_khz r < 16777216
rate_small Rbr = omega arith
rate_small Hbr = omega arith
rate_small Hbr2 = omega arith
rate_small Hbr3 = omega arith

bytes_small : (m : ModeFacts) (link : Link) → IsLegal m → AllByRecursion (λ byte. byte < 256) (attributes_bytes m link)
unfolding attributes_bytes
bytes_small m link legal =
    let c = three_small m.clock_khz (omega (arith, legal.clock_khz.1)) in
    let ht = two_small m.htotal (omega (arith, legal.htotal.1)) in
    let vt = two_small m.vtotal (omega (arith, legal.vtotal.1)) in
    let hw = two_small (with_polarity m.hsp m.hsw) (polar m.hsp m.hsw (omega (arith, legal.hsw.1))) in
    let hs = two_small m.hstart (omega (arith, legal.hstart.1, legal.htotal.1)) in
    let vs = two_small m.vstart (omega (arith, legal.vstart.1, legal.vtotal.1)) in
    let vw = two_small (with_polarity m.vsp m.vsw) (polar m.vsp m.vsw (omega (arith, legal.vsw.1))) in
    let w = two_small m.width (omega (arith, legal.width.1)) in
    let h = two_small m.height (omega (arith, legal.height.1)) in
    let r = three_small (rate_clock_khz link.rate) (rate_small link.rate) in
    let z : 0 < 256 = omega arith in (
      c.0,
      (
        c.1,
        (
          c.2,
          (
            ht.0,
            (
              ht.1,
              (
                vt.0,
                (
                  vt.1,
                  (
                    hw.0,
                    (
                      hw.1,
                      (
                        c.0,
                        (
                          c.1,
                          (
                            c.2,
                            (
                              hs.0,
                              (
                                hs.1,
                                (
                                  vs.0,
                                  (
                                    vs.1,
                                    (
                                      vw.0,
                                      (
                                        vw.1,
                                        (
                                          c.0,
                                          (
                                            c.1,
                                            (
                                              c.2,
                                              (
                                                w.0,
                                                (
                                                  w.1,
                                                  (
                                                    h.0,
                                                    (
                                                      h.1,
                                                      (
                                                        z,
                                                        (
                                                          z,
                                                          (
                                                            c.0,
                                                            (
                                                              c.1,
                                                              (
                                                                c.2,
                                                                (
                                                                  r.0,
                                                                  (r.1, (r.2, (misc_small m.depth, (z, (z, tt))))),
                                                                ),
                                                              ),
                                                            ),
                                                          ),
                                                        ),
                                                      ),
                                                    ),
                                                  ),
                                                ),
                                              ),
                                            ),
                                          ),
                                        ),
                                      ),
                                    ),
                                  ),
                                ),
                              ),
                            ),
                          ),
                        ),
                      ),
                    ),
                  ),
                ),
              ),
            ),
          ),
        ),
      ),
    )

pub attributes_small : (p : PlanFacts) → IsPlan p → AllByRecursion (Small (plan_lanes p)) (attribute_rows p)
unfolding attribute_rows
attributes_small p plan =
    all_map_range (Small (plan_lanes p))
    (λ index. map (λ lane. get_or (attributes_bytes p.mode p.link) (column_symbol p.link.lanes lane index) 0)
    (range_with_len 0 (plan_lanes p)))
    0 (36 / plan_lanes p)
    (λ i l. (
      length-map-range_with_len (λ lane. get_or (attributes_bytes p.mode p.link)
          (column_symbol p.link.lanes lane (0 + i)) 0) 0 (plan_lanes p),
      all_map_range (λ byte. byte < 256) (λ lane. get_or (attributes_bytes p.mode p.link)
          (column_symbol p.link.lanes lane (0 + i)) 0) 0 (plan_lanes p)
          (λ k h. byte_at (attributes_bytes p.mode p.link) (column_symbol p.link.lanes (0 + k) (0 + i))
          (bytes_small p.mode p.link plan.mode)),
    ))

byte_small : (line : Line) (lane j : ℕ) → line_byte line lane j < 256
unfolding line_byte
byte_small line lane j =
    let e : 2 ^ 8 ≡ 256 = refl in
    omega (arith, number_small (line_bit line lane) (8 * j) 8 (line_small line lane))

pub line_row_small : (p : PlanFacts) (pixels : List Pixel) (line j : ℕ)
    → Small (plan_lanes p) (line_bytes p pixels line j)
line_row_small p pixels line j = (
  bytes_length p pixels line j,
  all_map_range (λ byte. byte < 256) (λ lane. line_byte (line_of p pixels line) lane j) 0 (plan_lanes p)
      (λ i l. byte_small (line_of p pixels line) (0 + i) j),
)
