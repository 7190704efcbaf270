-- The rows of the lanes in use are as many as these, and equally long.
use Rattle.std.proofs.Common.{◌≡◌, ℕ, zero, suc, ◌<◌, List, length, refl, arith}
use Rattle.dpx_base.specs.Lanes.{lanes_count}
use Rattle.dpx_base.specs.Words.{words_of}
use Rattle.dpx_base.specs.declared.lanes.Lanes.{Lanes}
use Rattle.dpx_base.specs.declared.lanes.Lanes.TheVariants.{One, Two, Four}
use Rattle.dpx_lane.specs.Rows.{in_use}

pub as_many : (lanes : Lanes) (a b c d : List ℕ) → length (in_use lanes a b c d) ≡ lanes_count lanes
as_many One a b c d = refl
as_many Two a b c d = refl
as_many Four a b c d = refl

pub even : (lanes : Lanes) (a b c d : List ℕ) → length b ≡ length a → length c ≡ length a → length d ≡ length a
    → (lane : ℕ) → lane < lanes_count lanes → length (words_of (in_use lanes a b c d) lane) ≡ length a
even One a b c d e f g zero l = refl
even One a b c d e f g (suc j) l = absurd (omega arith)
even Two a b c d e f g zero l = refl
even Two a b c d e f g (suc zero) l = e
even Two a b c d e f g (suc (suc j)) l = absurd (omega arith)
even Four a b c d e f g zero l = refl
even Four a b c d e f g (suc zero) l = e
even Four a b c d e f g (suc (suc zero)) l = f
even Four a b c d e f g (suc (suc (suc zero))) l = g
even Four a b c d e f g (suc (suc (suc (suc j)))) l = absurd (omega arith)
