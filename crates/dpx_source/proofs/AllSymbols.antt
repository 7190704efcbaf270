-- All sets of a plan can be sent.
use Rattle.std.proofs.Common.{◌≡◌, ◌<◌, ◌≤◌, ℕ, zero, suc, ◌+◌, ◌-◌, ◌*◌, ◌/◌, ◌%◌, Bool, true, false, List, [], ◌∷◌, ◌++◌}
use Rattle.std.proofs.Common.{length, map, refl, sym, ap, subst, ◌∙◌, arith}
use Rattle.std.specs.Prelude.{slice_index, slice_index_or, if◌then◌else◌, nat_lt, ◌==◌, ◌||◌}
use Rattle.std.specs.List.{range_with_len}
use Rattle.std.proofs.lemmas.List.FromFn.{get_or-map-range_with_len, length-map-range_with_len}
use Rattle.dpx_base.specs.declared.depth.Depth.{Depth}
use Rattle.dpx_base.specs.declared.depth.Depth.TheVariants.{Six, Eight, Ten, Twelve, Sixteen}
use Rattle.dpx_base.specs.declared.link.Link.{Link}
use Rattle.dpx_base.specs.declared.pixel.Pixel.{Pixel}
use Rattle.dpx_base.specs.declared.rate.Rate.{Rate}
use Rattle.dpx_base.specs.declared.rate.Rate.TheVariants.{Rbr, Hbr, Hbr2, Hbr3}
use Rattle.dpx_base.specs.declared.slot.Slot.{Slot}
use Rattle.dpx_base.specs.declared.slot.Slot.TheVariants.{Fill, Group, VbId, Msa, Be, Valid, Stuff, Ended}
use Rattle.dpx_base.specs.declared.slot.Stuffing.TheVariants.{Fs, Zero, Fe}
use Rattle.dpx_base.specs.declared.sym.Sym.{Sym}
use Rattle.dpx_base.specs.Attributes.{attributes_bytes, column_symbol, block_byte, vb_id, two_bytes, three_bytes}
use Rattle.dpx_base.specs.Attributes.{with_polarity, misc0_of}
use Rattle.dpx_base.specs.Code.{IsSymbol, is_control, is_among, control_words}
use Rattle.dpx_base.specs.Lanes.{lanes_count}
use Rattle.dpx_base.specs.Mode.{ModeFacts, IsLegal}
use Rattle.dpx_base.specs.Packing.{line_byte}
use Rattle.dpx_base.specs.Plan.{PlanFacts, IsPlan, clocks}
use Rattle.dpx_base.specs.Rate.{rate_clock_khz}
use Rattle.dpx_base.specs.Sets.{sets, set_of, set_at, bytes_at, line_bytes, line_of, attribute_symbol, group_symbol}
use Rattle.dpx_base.specs.Slots.{slot_at}
use Rattle.dpx_base.specs.Symbols.{data_symbol, control_symbol, bs, be, sr, bf, ss, se, fs, fe}
use Rattle.dpx_base.specs.Words.{fill, Sendable}
use Rattle.dpx_source.specs.Framing.{AreSymbols}
use Rattle.dpx_source.specs.LineSums.{active_line}
use Rattle.dpx_source.proofs.SetSymbols.{on_each, none_are, data_set, byte_small, fill_symbol, control_is}
use Rattle.dpx_source.proofs.Table.{is_table}

-- ---- bytes

record Small (bytes : List ℕ) : Type 0 where
  pub at : (k : ℕ) → slice_index bytes k < 256

small_none : Small []
small_none = record { at = λ k. omega arith }

small_cons : (b : ℕ) (bytes : List ℕ) → b < 256 → Small bytes → Small (b ∷ bytes)
small_cons b bytes h rest = record { at = go }
  where
    go : (k : ℕ) → slice_index (b ∷ bytes) k < 256
    go zero = h
    go (suc k) = rest.at k

small_join : (xs ys : List ℕ) → Small xs → Small ys → Small (xs ++ ys)
small_join [] ys h k = k
small_join (x ∷ xs) ys h k =
    small_cons x (xs ++ ys) (h.at 0) (small_join xs ys (record { at = λ j. h.at (suc j) }) k)

two_small : (n : ℕ) → n < 65536 → Small (two_bytes n)
two_small n h = small_cons (n / 256) (n % 256 ∷ []) (omega (arith, h))
    (small_cons (n % 256) [] (omega arith) small_none)

three_small : (n : ℕ) → n < 16777216 → Small (three_bytes n)
three_small n h = small_cons (n / 65536) (n / 256 % 256 ∷ n % 256 ∷ []) (omega (arith, h))
    (small_cons (n / 256 % 256) (n % 256 ∷ []) (omega arith) (small_cons (n % 256) [] (omega arith) small_none))

polar : (b : Bool) (w : ℕ) → w < 32768 → with_polarity b w < 65536
polar true w h = omega (arith, h)
polar false w h = omega (arith, h)

misc_small : (d : Depth) → misc0_of d < 256
misc_small Six = omega arith
misc_small Eight = omega arith
misc_small Ten = omega arith
misc_small Twelve = omega arith
misc_small Sixteen = omega arith

rate_small : (rate : Rate) → rate_clock_khz rate < 16777216
rate_small Rbr = omega arith
rate_small Hbr = omega arith
rate_small Hbr2 = omega arith
rate_small Hbr3 = omega arith

attributes_small : (m : ModeFacts) (link : Link) → IsLegal m → Small (attributes_bytes m link)
unfolding attributes_bytes
attributes_small m link legal =
    let clock : Small (three_bytes m.clock_khz) = three_small m.clock_khz (omega (arith, legal.clock_khz)) in
    let nought : Small (0 ∷ 0 ∷ []) = small_cons 0 (0 ∷ []) (omega arith) (small_cons 0 [] (omega arith) small_none) in
    small_join (three_bytes m.clock_khz) _ clock
    (small_join (two_bytes m.htotal) _ (two_small m.htotal (omega (arith, legal.htotal)))
    (small_join (two_bytes m.vtotal) _ (two_small m.vtotal (omega (arith, legal.vtotal)))
    (small_join (two_bytes (with_polarity m.hsp m.hsw)) _
    (two_small (with_polarity m.hsp m.hsw) (polar m.hsp m.hsw (omega (arith, legal.hsw))))
    (small_join (three_bytes m.clock_khz) _ clock
    (small_join (two_bytes m.hstart) _ (two_small m.hstart (omega (arith, legal.hstart, legal.htotal)))
    (small_join (two_bytes m.vstart) _ (two_small m.vstart (omega (arith, legal.vstart, legal.vtotal)))
    (small_join (two_bytes (with_polarity m.vsp m.vsw)) _
    (two_small (with_polarity m.vsp m.vsw) (polar m.vsp m.vsw (omega (arith, legal.vsw))))
    (small_join (three_bytes m.clock_khz) _ clock
    (small_join (two_bytes m.width) _ (two_small m.width (omega (arith, legal.width)))
    (small_join (two_bytes m.height) _ (two_small m.height (omega (arith, legal.height)))
    (small_join (0 ∷ 0 ∷ []) _ nought
    (small_join (three_bytes m.clock_khz) _ clock
    (small_join (three_bytes (rate_clock_khz link.rate)) _
    (three_small (rate_clock_khz link.rate) (rate_small link.rate))
    (small_cons (misc0_of m.depth) (0 ∷ 0 ∷ []) (misc_small m.depth) nought))))))))))))))

abbrev block_at : {bytes : List ℕ} → (i : ℕ) → Small bytes → slice_index bytes (i % 3) < 256
block_at i h = h.at (i % 3)

block_small : (m : ModeFacts) (blank : Bool) (i : ℕ) → block_byte m blank i < 256
block_small m true i =
    block_at i (small_cons 0x11 (m.clock_khz % 256 ∷ 0 ∷ []) (omega arith)
    (small_cons (m.clock_khz % 256) (0 ∷ []) (omega arith) (small_cons 0 [] (omega arith) small_none)))
block_small m false i =
    block_at i (small_cons 0x10 (m.clock_khz % 256 ∷ 0 ∷ []) (omega arith)
    (small_cons (m.clock_khz % 256) (0 ∷ []) (omega arith) (small_cons 0 [] (omega arith) small_none)))

-- ---- symbols

choose : (b : Bool) (x y : Sym) → IsSymbol x → IsSymbol y → IsSymbol (if b then x else y)
choose true x y h k = h
choose false x y h k = k

data_is : (byte : ℕ) → byte < 256 → IsSymbol (data_symbol byte)
data_is byte h = (h, refl)

group_is : (index : ℕ) (reset : Bool) → IsSymbol (group_symbol index reset)
unfolding is_control is_among control_words
group_is index reset =
    choose ((index == 1) || (index == 2)) (control_symbol bf) (if reset then control_symbol sr else control_symbol bs)
    (control_is bf (omega arith) refl) (choose reset (control_symbol sr) (control_symbol bs) (control_is sr (omega arith) refl) (control_is bs (omega arith) refl))

attribute_is : (p : PlanFacts) (index lane : ℕ) → IsPlan p → IsSymbol (attribute_symbol p index lane)
unfolding is_control is_among control_words
attribute_is p index lane plan =
    let byte : Sym = data_symbol (slice_index (attributes_bytes p.mode p.link)
    (column_symbol p.link.lanes lane (index - 2))) in
    let last : Bool = index == 2 + 36 / lanes_count p.link.lanes in
    choose (nat_lt index 2) (control_symbol ss) (if last then control_symbol se else byte) (control_is ss (omega arith) refl)
    (choose last (control_symbol se) byte (control_is se (omega arith) refl)
    (data_is _ ((attributes_small p.mode p.link plan.mode).at (column_symbol p.link.lanes lane (index - 2)))))

map_are : (f : ℕ → Sym) (a n : ℕ) → ((i : ℕ) → IsSymbol (f i)) → AreSymbols (map f (range_with_len a n))
map_are f a zero h lane = fill_symbol
map_are f a (suc n) h zero = h a
map_are f a (suc n) h (suc lane) = map_are f (a + 1) n h lane

set_are : (p : PlanFacts) (slot : Slot) (bytes : List ℕ) → IsPlan p → (slot ≡ Valid → AreSymbols (map data_symbol bytes))
    → AreSymbols (set_of p slot bytes)
unfolding set_of is_control is_among control_words
set_are p Fill bytes plan h = on_each _ _ fill_symbol
set_are p (Group index reset) bytes plan h = on_each _ _ (group_is index reset)
set_are p (VbId index blank) bytes plan h = on_each _ _ (data_is _ (block_small p.mode blank index))
set_are p (Msa index) bytes plan h =
    map_are (attribute_symbol p index) 0 (lanes_count p.link.lanes) (λ lane. attribute_is p index lane plan)
set_are p Be bytes plan h = on_each _ _ (control_is be (omega arith) refl)
set_are p Valid bytes plan h = h refl
set_are p (Stuff Fs) bytes plan h = on_each _ _ (control_is fs (omega arith) refl)
set_are p (Stuff Zero) bytes plan h = on_each _ _ fill_symbol
set_are p (Stuff Fe) bytes plan h = on_each _ _ (control_is fe (omega arith) refl)
set_are p Ended bytes plan h = none_are

line_are : (p : PlanFacts) (pixels : List Pixel) (line j : ℕ) → AreSymbols (map data_symbol (line_bytes p pixels line j))
line_are p pixels line j =
    let n : ℕ = lanes_count p.link.lanes in
    let f : ℕ → ℕ = λ lane. line_byte (line_of p pixels line) lane j in
    data_set (line_bytes p pixels line j) (λ k few.
    let here : k < n = omega (arith, few, length-map-range_with_len f 0 n) in
    omega (
      arith,
      get_or-map-range_with_len f 0 n k k 0 here (omega arith),
      byte_small (line_of p pixels line) k j,
    ))

set_at_are : (p : PlanFacts) (pixels : List Pixel) (t : ℕ) → IsPlan p → AreSymbols (set_at p pixels t)
set_at_are p pixels t plan =
    set_are p (slot_at p t) (bytes_at p pixels t) plan (λ v.
    let table = is_table p plan in
    let d = table.valid t v in
    subst (λ (bytes : List ℕ). AreSymbols (map data_symbol bytes)) (sym (table.bytes t d.line d.symbol pixels d.due))
    (line_are p pixels (active_line p d.line) d.symbol))

pub sets_sendable : (p : PlanFacts) (pixels : List Pixel) → IsPlan p → Sendable (sets p pixels)
sets_sendable p pixels plan k lane few =
    let here : k < clocks p = omega (arith, few, length-map-range_with_len (set_at p pixels) 0 (clocks p)) in
    subst (λ (set : List Sym). IsSymbol (slice_index_or set lane fill))
    (sym (get_or-map-range_with_len (set_at p pixels) 0 (clocks p) k k [] here (omega arith)))
    (set_at_are p pixels k plan lane)
