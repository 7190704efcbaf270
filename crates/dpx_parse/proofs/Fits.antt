-- Attributes that have a reading are small.
use Rattle.std.proofs.Common.{ℕ, ◌*◌, ◌≤◌, ◌≡◌, List, Bool, true, false, Option, Some, None, Ok, Err, refl}
use Rattle.std.proofs.Common.{ap, subst, arith}
use Rattle.std.specs.Prelude.{Result, nat_le, not, ◌==◌, if◌then◌else◌}
use Rattle.std.specs.Result.{result_ok}
use Rattle.dpx_base.specs.declared.depth.Depth.{Depth}
use Rattle.dpx_base.specs.declared.depth.Depth.TheVariants.{Six, Eight, Ten, Twelve, Sixteen}
use Rattle.dpx_base.specs.declared.lanes.Lanes.{Lanes}
use Rattle.dpx_base.specs.declared.lanes.Lanes.TheVariants.{One, Two, Four}
use Rattle.dpx_base.specs.Lanes.{lanes_count}
use Rattle.dpx_base.specs.Mode.{depth_bits}
use Rattle.dpx_base.specs.Timing.{ceil_div}
use Rattle.dpx_msa.specs.declared.attributes.Attributes.{Attributes}
use Rattle.dpx_msa.specs.declared.msa_bad.MsaBad.{MsaBad}
use Rattle.dpx_msa.specs.declared.msa_bad.MsaBad.TheVariants.{Colour, DepthCode, Misc1, Width, Height, NvidZero}
use Rattle.dpx_grammar.specs.Accepted.{line_length}
use Rattle.dpx_base.specs.RawMode.{is_within}
use Rattle.dpx_msa.specs.Reading.{read_attributes, first_refusal, attributes_in, answered}
use Rattle.dpx_msa.specs.Reading.{colour, depth_code, misc0, misc1, width, height, nvid}
use Rattle.dpx_msa.proofs.Sizes.{range_shown}
use Rattle.dpx_base.specs.Timing.{symbols_of}

abbrev pub AreSmall : Attributes → Type 0
AreSmall a = (a.width ≤ 8192) × (a.height ≤ 8192)

ok_is : (x a : Attributes) → ◌≡◌ {A = Result Attributes MsaBad} (Ok x) (Ok a) → x ≡ a
ok_is x a e = cc

no_ok : (b : MsaBad) (a : Attributes) → ◌≡◌ {A = Result Attributes MsaBad} (Err b) (Ok a) → ⊥
no_ok b a e = cc

small_sizes : (b : List ℕ) → first_refusal b ≡ None → AreSmall (attributes_in b)
unfolding first_refusal attributes_in
small_sizes b e =
    by_tests (colour (misc0 b) == 0) (nat_le (depth_code (misc0 b)) 4) (misc1 b == 0) (is_within 16 8192 (width b))
    (is_within 1 8192 (height b)) (nvid b == 0) refl refl e
  where
    by_tests : (rgb coded plain wide high none : Bool) → wide ≡ is_within 16 8192 (width b)
        → high ≡ is_within 1 8192 (height b)
        → (if not rgb then Some (Colour (misc0 b))
        else if not coded then Some (DepthCode (misc0 b))
        else if not plain then Some (Misc1 (misc1 b))
        else if not wide then Some (Width (width b))
        else if not high then Some (Height (height b))
        else if none then Some NvidZero
        else None) ≡ None
        → AreSmall (attributes_in b)
    by_tests false coded plain wide high none w h e = absurd (cc)
    by_tests true false plain wide high none w h e = absurd (cc)
    by_tests true true false wide high none w h e = absurd (cc)
    by_tests true true true false high none w h e = absurd (cc)
    by_tests true true true true false none w h e = absurd (cc)
    by_tests true true true true true none w h e =
        ((range_shown 16 8192 (width b) true w refl).1, (range_shown 1 8192 (height b) true h refl).1)

small : (b : List ℕ) (a : Attributes) → read_attributes b ≡ Ok a → AreSmall a
small b a e = by_refusal (first_refusal b) refl e
  where
    by_refusal : (o : Option MsaBad) → first_refusal b ≡ o → answered (attributes_in b) o ≡ Ok a → AreSmall a
    by_refusal None f e = subst AreSmall (ok_is (attributes_in b) a e) (small_sizes b f)
    by_refusal (Some why) f e = absurd (no_ok why a e)

read_is : (r : Result Attributes MsaBad) (a : Attributes) → result_ok r ≡ Some a → r ≡ Ok a
read_is (Ok x) a e = let s : x ≡ a = cc in ap (λ y. Ok y) s
read_is (Err bad) a e = absurd (cc)

length_small : (l : Lanes) (a : Attributes) → a.width ≤ 8192 → line_length (lanes_count l) a ≤ 65536
unfolding ceil_div
length_small l a h = go l a.depth
  where
    go : (l : Lanes) (d : Depth) → symbols_of a.width (lanes_count l) (3 * depth_bits d) ≤ 65536
    go One Six = omega (arith, h)
    go One Eight = omega (arith, h)
    go One Ten = omega (arith, h)
    go One Twelve = omega (arith, h)
    go One Sixteen = omega (arith, h)
    go Two Six = omega (arith, h)
    go Two Eight = omega (arith, h)
    go Two Ten = omega (arith, h)
    go Two Twelve = omega (arith, h)
    go Two Sixteen = omega (arith, h)
    go Four Six = omega (arith, h)
    go Four Eight = omega (arith, h)
    go Four Ten = omega (arith, h)
    go Four Twelve = omega (arith, h)
    go Four Sixteen = omega (arith, h)

pub small_read : (l : Lanes) (b : List ℕ) (a : Attributes) → result_ok (read_attributes b) ≡ Some a
    → (a.height ≤ 8192) × (line_length (lanes_count l) a ≤ 65536)
small_read l b a e = let s = small b a (read_is (read_attributes b) a e) in (s.1, length_small l a s.0)
