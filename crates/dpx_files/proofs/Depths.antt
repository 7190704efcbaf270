-- The depth of so many bits is the one that a test of them all finds.
use Rattle.std.proofs.Common.{◌≡◌, ℕ, ◌≤◌, refl, arith}
use Rattle.std.specs.Prelude.{Option, Some, None, IfSome, IsNone, ◌≢◌}
use Rattle.std.proofs.lemmas.Bool.Decides.{nat_tests}
use Rattle.dpx_base.specs.declared.depth.Depth.{Depth}
use Rattle.dpx_base.specs.declared.depth.Depth.TheVariants.{Six, Eight, Ten, Twelve, Sixteen}
use Rattle.dpx_base.specs.Mode.{depth_bits}
use Rattle.dpx_files.specs.ModeFields.{depth_from}

pub some_depth : (depth : Depth) → depth_from (depth_bits depth) ≡ Some depth
some_depth Six = refl
some_depth Eight = refl
some_depth Ten = refl
some_depth Twelve = refl
some_depth Sixteen = refl

pub no_depth : (bits : ℕ) → ((depth : Depth) → depth_bits depth ≢ bits) → depth_from bits ≡ None
no_depth bits none =
    let six : 6 ≢ bits = none Six in
    let eight : 8 ≢ bits = none Eight in
    let ten : 10 ≢ bits = none Ten in
    let twelve : 12 ≢ bits = none Twelve in
    let sixteen : 16 ≢ bits = none Sixteen in
    grind (arith, nat_tests)

pub is_depth_from : (bits : ℕ) (found : Option Depth) → IfSome found (λ depth. depth_bits depth ≡ bits)
    → (IsNone found → (depth : Depth) → depth_bits depth ≢ bits) → found ≡ depth_from bits
is_depth_from bits (Some depth) some none = rw (← some) (rw (some_depth depth))
is_depth_from bits None some none = rw (no_depth bits (none refl))

pub many_bits : (bits : ℕ) → 256 ≤ bits → depth_from bits ≡ None
many_bits bits many = grind (arith, nat_tests)
