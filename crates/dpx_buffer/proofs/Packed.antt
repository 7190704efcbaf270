-- Bits that come behind a lane's, by their places.
use Rattle.std.proofs.Common.{◌≡◌, ℕ, ◌<◌, ◌≤◌, ◌+◌, ◌-◌, ◌*◌, List, ◌++◌, length}
use Rattle.std.proofs.Common.{sym, ap, arith, ◌∙◌, length-append}
use Rattle.dpx_pack.specs.Bits.{bits_of_bytes}
use Rattle.dpx_pack.specs.Positions.{span}
use Rattle.dpx_pack.proofs.Places.{byte_at}
use Rattle.dpx_pack.proofs.LowBits.{length-bits_of_bytes}
use Rattle.dpx_pack.proofs.Spans.{span-append, length-span}
use Rattle.dpx_pack.proofs.Places.{IsPacked, packed}
use Rattle.dpx_buffer.specs.Lane.{LaneState, Packs}

-- the whole bytes among the first bits
pub record IsWhole (bits bytes : ℕ) : Type 0 where
  pub low : 8 * bytes ≤ bits
  pub high : bits < 8 * bytes + 8

pub record IsBehind (f : ℕ → ℕ) (from to bits : ℕ) (before after : LaneState) : Type 0 where
  pub waiting : after.waiting ≡ before.waiting ++ span (byte_at f) from (to - from)
  pub left : after.bits ≡ span f (8 * to) (bits - 8 * to)
  pub few : from ≤ to

-- A lane has the bits from its last whole byte to `m`; those to `m + k` come.
pub comes_behind : (f : ℕ → ℕ) (from to m k : ℕ) (more : List ℕ) (before after : LaneState) → Packs more before after
    → 8 * from ≤ m → IsWhole (m + k) to → before.bits ≡ span f (8 * from) (m - 8 * from) → more ≡ span f m k
    → IsBehind f from to (m + k) before after
comes_behind f from to m k more before after p low whole was comes =
    let at : 8 * from + (m - 8 * from) ≡ m = omega (arith, low) in
    let all : span f (8 * from) (m - 8 * from + k) ≡ before.bits ++ more =
    span-append f (8 * from) (m - 8 * from) k ∙ (ap (λ j. span f (8 * from) (m - 8 * from) ++ span f j k) at
    ∙ (ap (λ xs. xs ++ span f m k) (sym was) ∙ ap (λ xs. before.bits ++ xs) (sym comes))) in
    let is : IsPacked f from p.bytes after.bits =
    packed f from (m - 8 * from + k) p.bytes after.bits (all ∙ p.bits) p.small in
    let count : m - 8 * from + k ≡ 8 * length p.bytes + length after.bits =
    sym (length-span f (8 * from) (m - 8 * from + k))
    ∙ (ap length (all ∙ p.bits) ∙ omega (
      arith,
      length-append (bits_of_bytes p.bytes) after.bits,
      length-bits_of_bytes p.bytes,
    )) in
    let bytes : length p.bytes ≡ to - from = omega (arith, count, p.short, whole.low, whole.high, low) in
    let end_ : from + length p.bytes ≡ to = omega (arith, count, p.short, whole.low, whole.high, low) in
    let rest : length after.bits ≡ m + k - 8 * to = omega (arith, count, end_, low) in
    record {
      waiting = p.waiting ∙ ap (λ xs. before.waiting ++ xs) (is.bytes_are ∙ ap (λ j. span (byte_at f) from j) bytes);
      left = is.left_are ∙ (ap (λ j. span f (8 * j) (length after.bits)) end_ ∙ ap (λ j. span f (8 * to) j) rest);
      few = omega (arith, end_);
    }
