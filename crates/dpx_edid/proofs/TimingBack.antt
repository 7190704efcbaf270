-- The timing of a mode says that mode.
use Rattle.std.proofs.Common.{◌≡◌, ℕ, ◌+◌, ◌-◌, ◌*◌, ◌/◌, ◌%◌, ◌<◌, ◌≤◌, ◌==◌, ◌&&◌, Bool, true, false, nat_le}
use Rattle.std.proofs.Common.{if◌then◌else◌, refl, sym, subst, ap, ◌∙◌, arith, min, Ok, Some, None, IfSome}
use Rattle.std.proofs.lemmas.Bool.{le-leb, leb-true}
use Rattle.std.proofs.lemmas.Grind.{common_steps}
use Rattle.dpx_base.specs.declared.depth.Depth.{Depth}
use Rattle.dpx_base.specs.declared.depth.Depth.TheVariants.{Six, Eight, Ten, Twelve, Sixteen}
use Rattle.dpx_base.specs.declared.raw_mode.RawMode.{RawMode}
use Rattle.dpx_base.specs.Mode.{ModeFacts, IsLegal, depth_bits}
use Rattle.dpx_base.specs.RawMode.{first_wrong, facts_of, answered, mode_read}
use Rattle.dpx_edid.specs.declared.extent.Extent.{Extent}
use Rattle.dpx_edid.specs.declared.timing.Slot.TheVariants.{Other, Interlaced, Timing}
use Rattle.dpx_edid.specs.Timing.{line_in, frame_in, clock_in, is_negative, raw_from, raw_mode, slot_of, read_timing, line_of, frame_of, has_room, has_timing}
use Rattle.dpx_edid.specs.Timing.{flags_of, timing_bytes, write_timing}

-- a low byte, and the high digits in the upper half of another
upper_back : (n m : ℕ) → m ≤ 4095 → n % 256 + 256 * ((n / 256 * 16 + m / 256) / 16) ≡ n
upper_back n m few = omega arith

lower_back : (n m : ℕ) → m ≤ 4095 → m % 256 + 256 * ((n / 256 * 16 + m / 256) % 16) ≡ m
lower_back n m few = omega arith

-- four pairs of bits in a byte
first_pair : (a b c d : ℕ) → b < 4 → c < 4 → d < 4 → ((a * 64 + b * 16) + (c * 4 + d)) / 64 ≡ a
first_pair a b c d hb hc hd = omega arith

second_pair : (a b c d : ℕ) → b < 4 → c < 4 → d < 4 → ((a * 64 + b * 16) + (c * 4 + d)) / 16 % 4 ≡ b
second_pair a b c d hb hc hd = omega arith

third_pair : (a b c d : ℕ) → b < 4 → c < 4 → d < 4 → ((a * 64 + b * 16) + (c * 4 + d)) / 4 % 4 ≡ c
third_pair a b c d hb hc hd = omega arith

fourth_pair : (a b c d : ℕ) → d < 4 → ((a * 64 + b * 16) + (c * 4 + d)) % 4 ≡ d
fourth_pair a b c d hd = omega arith

clock_back : (clock : ℕ) → clock % 10 ≡ 0 → 10 * (clock / 10 % 256 + 256 * (clock / 10 / 256)) ≡ clock
clock_back clock tens = omega arith

hsp_back : (hsp vsp : Bool) → is_negative 2 (flags_of hsp vsp) ≡ hsp
hsp_back true true = refl
hsp_back true false = refl
hsp_back false true = refl
hsp_back false false = refl

vsp_back : (hsp vsp : Bool) → is_negative 4 (flags_of hsp vsp) ≡ vsp
vsp_back true true = refl
vsp_back true false = refl
vsp_back false true = refl
vsp_back false false = refl

progressive : (hsp vsp : Bool) → nat_le 0x80 (flags_of hsp vsp) ≡ false
progressive true true = refl
progressive true false = refl
progressive false true = refl
progressive false false = refl

is_eight : (depth : Depth) → depth_bits depth == 8 ≡ true → depth ≡ Eight
is_eight Six e = absurd (cc)
is_eight Eight e = refl
is_eight Ten e = absurd (cc)
is_eight Twelve e = absurd (cc)
is_eight Sixteen e = absurd (cc)

both : (a b : Bool) → a && b ≡ true → (a ≡ true) × (b ≡ true)
both true true e = (refl, refl)
both true false e = absurd (cc)
both false b e = absurd (cc)

-- the numbers along a line or a frame have room
record Room (greatest : ℕ) (extent : Extent) : Type 0 where
  pub active : extent.active ≤ 4095
  pub blank : extent.blank ≤ 4095
  pub front : extent.front ≤ greatest
  pub sync : extent.sync ≤ greatest

room : (greatest : ℕ) (extent : Extent) → has_room greatest extent ≡ true → Room greatest extent
room greatest extent e =
    let a = both _ _ e in
    let b = both _ _ a.0 in
    let c = both _ _ b.0 in
    record {
      active = leb-true extent.active 4095 c.0;
      blank = leb-true extent.blank 4095 c.1;
      front = leb-true extent.front greatest b.1;
      sync = leb-true extent.sync greatest a.1;
    }

abbrev extent_of : ℕ → ℕ → ℕ → ℕ → Extent
extent_of active blank front sync = record { active = active; blank = blank; front = front; sync = sync }

same_extent : (x y : Extent) → x.active ≡ y.active → x.blank ≡ y.blank → x.front ≡ y.front → x.sync ≡ y.sync → x ≡ y
same_extent x y a b c d =
    ap (λ n. extent_of n x.blank x.front x.sync) a
    ∙ (ap (λ n. extent_of y.active n x.front x.sync) b
    ∙ (ap (λ n. extent_of y.active y.blank n x.sync) c
    ∙ ap (λ n. extent_of y.active y.blank y.front n) d))

line_back : (clock flags : ℕ) (line frame : Extent) → Room 1023 line → Room 63 frame
    → line_in (timing_bytes clock line frame flags) ≡ line
line_back clock flags line frame l f =
    let sync : line.sync / 256 < 4 = omega (arith, l.sync) in
    let frame_front : frame.front / 16 < 4 = omega (arith, f.front) in
    let frame_sync : frame.sync / 16 < 4 = omega (arith, f.sync) in
    same_extent (line_in (timing_bytes clock line frame flags)) line
    (upper_back line.active line.blank l.blank)
    (lower_back line.active line.blank l.blank)
    (omega (
      arith,
      first_pair (line.front / 256) (line.sync / 256) (frame.front / 16) (frame.sync / 16)
          sync frame_front frame_sync,
    ))
    (omega (
      arith,
      second_pair (line.front / 256) (line.sync / 256) (frame.front / 16) (frame.sync / 16)
          sync frame_front frame_sync,
    ))

frame_back : (clock flags : ℕ) (line frame : Extent) → Room 1023 line → Room 63 frame
    → frame_in (timing_bytes clock line frame flags) ≡ frame
frame_back clock flags line frame l f =
    let sync : line.sync / 256 < 4 = omega (arith, l.sync) in
    let frame_front : frame.front / 16 < 4 = omega (arith, f.front) in
    let frame_sync : frame.sync / 16 < 4 = omega (arith, f.sync) in
    same_extent (frame_in (timing_bytes clock line frame flags)) frame
    (upper_back frame.active frame.blank f.blank)
    (lower_back frame.active frame.blank f.blank)
    (omega (
      arith,
      third_pair (line.front / 256) (line.sync / 256) (frame.front / 16) (frame.sync / 16)
          sync frame_front frame_sync,
    ))
    (omega (
      arith,
      fourth_pair (line.front / 256) (line.sync / 256) (frame.front / 16) (frame.sync / 16)
          frame_sync,
    ))

abbrev with_fields : ModeFacts → ℕ → ℕ → ℕ → ℕ → Bool → Bool → Depth → ModeFacts
with_fields mode htotal vtotal hstart vstart hsp vsp depth = record {
  width = mode.width;
  height = mode.height;
  htotal = htotal;
  vtotal = vtotal;
  hsw = mode.hsw;
  hstart = hstart;
  vsw = mode.vsw;
  vstart = vstart;
  hsp = hsp;
  vsp = vsp;
  clock_khz = mode.clock_khz;
  depth = depth;
}

same_fields : (mode : ModeFacts) (htotal vtotal hstart vstart : ℕ) (hsp vsp : Bool) (depth : Depth)
    → htotal ≡ mode.htotal → vtotal ≡ mode.vtotal → hstart ≡ mode.hstart → vstart ≡ mode.vstart → hsp ≡ mode.hsp
    → vsp ≡ mode.vsp → depth ≡ mode.depth → with_fields mode htotal vtotal hstart vstart hsp vsp depth ≡ mode
same_fields mode htotal vtotal hstart vstart hsp vsp depth a b c d e f g =
    ap (λ n. with_fields mode n vtotal hstart vstart hsp vsp depth) a
    ∙ (ap (λ n. with_fields mode mode.htotal n hstart vstart hsp vsp depth) b
    ∙ (ap (λ n. with_fields mode mode.htotal mode.vtotal n vstart hsp vsp depth) c
    ∙ (ap (λ n. with_fields mode mode.htotal mode.vtotal mode.hstart n hsp vsp depth) d
    ∙ (ap (λ p. with_fields mode mode.htotal mode.vtotal mode.hstart mode.vstart p vsp depth) e
    ∙ (ap (λ p. with_fields mode mode.htotal mode.vtotal mode.hstart mode.vstart mode.hsp p depth) f
    ∙ ap (λ bits. with_fields mode mode.htotal mode.vtotal mode.hstart mode.vstart mode.hsp mode.vsp bits) g)))))

-- the numbers of a legal mode say that mode
facts_back : (mode : ModeFacts) → IsLegal mode → mode.depth ≡ Eight
    → facts_of (raw_from (line_of mode) (frame_of mode) (flags_of mode.hsp mode.vsp) mode.clock_khz) ≡ mode
facts_back mode legal depth =
    same_fields mode _ _ _ _ _ _ _ (omega (arith, legal.htotal.0)) (omega (arith, legal.vtotal.0))
    (omega (arith, legal.hstart.1)) (omega (arith, legal.vstart.1))
    (hsp_back mode.hsp mode.vsp) (vsp_back mode.hsp mode.vsp) (sym depth)

-- a legal mode is read
legal_reads : (raw : RawMode) → IsLegal (facts_of raw) → first_wrong raw ≡ None
unfolding first_wrong
legal_reads raw legal =
    rw (
      le-leb 16 raw.width legal.width.0,
      le-leb raw.width 8192 legal.width.1,
      le-leb 1 raw.height legal.height.0,
      le-leb raw.height 8192 legal.height.1,
      le-leb (raw.width + 1) raw.htotal legal.htotal.0,
      le-leb raw.htotal 65535 legal.htotal.1,
      le-leb (raw.height + 2) raw.vtotal legal.vtotal.0,
      le-leb raw.vtotal 65535 legal.vtotal.1,
      le-leb 1 raw.hsw legal.hsw.0,
      le-leb raw.hsw (min 32767 (raw.htotal - raw.width)) legal.hsw.1,
      le-leb raw.hsw raw.hstart legal.hstart.0,
      le-leb raw.hstart (raw.htotal - raw.width) legal.hstart.1,
      le-leb 1 raw.vsw legal.vsw.0,
      le-leb raw.vsw (min 32767 (raw.vtotal - raw.height)) legal.vsw.1,
      le-leb raw.vsw raw.vstart legal.vstart.0,
      le-leb raw.vstart (raw.vtotal - raw.height) legal.vstart.1,
      le-leb 1 raw.clock_khz legal.clock_khz.0,
      le-leb raw.clock_khz 1440000 legal.clock_khz.1,
    )
    refl

-- what a legal mode's fields are read as
mode_reads : (raw : RawMode) (mode : ModeFacts) → facts_of raw ≡ mode → IsLegal mode → mode_read raw ≡ Ok mode
mode_reads raw mode same legal =
    ap (λ wrong. answered (facts_of raw) wrong) (legal_reads raw (subst IsLegal (sym same) legal)) ∙ ap Ok same

-- a mode with a clock is something
has_clock : (tens : ℕ) → 1 ≤ tens → (tens % 256 == 0 && tens / 256 == 0) ≡ false
has_clock tens some = grind (arith, common_steps)

raw_back : (mode : ModeFacts) → mode.clock_khz % 10 ≡ 0 → Room 1023 (line_of mode) → Room 63 (frame_of mode)
    → raw_mode (timing_bytes (mode.clock_khz / 10) (line_of mode) (frame_of mode) (flags_of mode.hsp mode.vsp))
    ≡ raw_from (line_of mode) (frame_of mode) (flags_of mode.hsp mode.vsp) mode.clock_khz
raw_back mode tens line frame =
    let flags = flags_of mode.hsp mode.vsp in
    let bytes = timing_bytes (mode.clock_khz / 10) (line_of mode) (frame_of mode) flags in
    ap (λ extent. raw_from extent (frame_in bytes) flags (clock_in bytes))
    (line_back (mode.clock_khz / 10) flags (line_of mode) (frame_of mode) line frame)
    ∙ (ap (λ extent. raw_from (line_of mode) extent flags (clock_in bytes))
    (frame_back (mode.clock_khz / 10) flags (line_of mode) (frame_of mode) line frame)
    ∙ ap (λ clock. raw_from (line_of mode) (frame_of mode) flags clock) (clock_back mode.clock_khz tens))

read_back : (mode : ModeFacts) → IsLegal mode → mode.clock_khz % 10 ≡ 0 → mode.depth ≡ Eight
    → Room 1023 (line_of mode) → Room 63 (frame_of mode)
    → read_timing (timing_bytes (mode.clock_khz / 10) (line_of mode) (frame_of mode) (flags_of mode.hsp mode.vsp))
    ≡ Timing mode
read_back mode legal tens depth line frame =
    let flags = flags_of mode.hsp mode.vsp in
    let bytes = timing_bytes (mode.clock_khz / 10) (line_of mode) (frame_of mode) flags in
    ap (λ none. if none then Other else if nat_le 0x80 flags then Interlaced else slot_of (mode_read (raw_mode bytes)))
    (has_clock (mode.clock_khz / 10) (omega (arith, legal.clock_khz.0, tens)))
    ∙ (ap (λ two. if two then Interlaced else slot_of (mode_read (raw_mode bytes))) (progressive mode.hsp mode.vsp)
    ∙ ap slot_of (ap mode_read (raw_back mode tens line frame)
    ∙ mode_reads (raw_from (line_of mode) (frame_of mode) flags mode.clock_khz) mode (facts_back mode legal depth) legal))

is_tens : (clock : ℕ) → clock % 10 == 0 ≡ true → clock % 10 ≡ 0
is_tens clock e = grind (arith, common_steps)

written_back : (mode : ModeFacts) → IsLegal mode → (has : Bool) → has_timing mode ≡ has
    → IfSome (if has
    then Some (timing_bytes (mode.clock_khz / 10) (line_of mode) (frame_of mode) (flags_of mode.hsp mode.vsp))
    else None) (λ bytes. read_timing bytes ≡ Timing mode)
written_back mode legal false e = tt
written_back mode legal true e =
    let tens = mode.clock_khz % 10 == 0 in
    let clock = nat_le mode.clock_khz 655350 in
    let eight = depth_bits mode.depth == 8 in
    let line = has_room 1023 (line_of mode) in
    let frame = has_room 63 (frame_of mode) in
    let a = both (tens && clock && eight && line) frame e in
    let b = both (tens && clock && eight) line a.0 in
    let c = both (tens && clock) eight b.0 in
    let d = both tens clock c.0 in
    read_back mode legal (is_tens mode.clock_khz d.0) (is_eight mode.depth c.1) (room 1023 (line_of mode) b.1)
    (room 63 (frame_of mode) a.1)

pub timing_back : (mode : ModeFacts) → IsLegal mode → IfSome (write_timing mode) (λ bytes. read_timing bytes ≡ Timing mode)
timing_back mode legal = written_back mode legal (has_timing mode) refl
