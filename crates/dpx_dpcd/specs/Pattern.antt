-- Training patterns: VESA DisplayPort 1.4a, TRAINING_PATTERN_SET.
use Rattle.std.specs.Prelude.{ℕ}
use Rattle.dpx_dpcd.specs.declared.pattern.Pattern.{Pattern}
use Rattle.dpx_dpcd.specs.declared.pattern.Pattern.TheVariants.{Tps1, Tps2, Tps3, Tps4}

-- the pattern's number, and 20 for scrambling off; TPS4 is scrambled
abbrev pub pattern_register : Pattern → ℕ
pattern_register Tps1 = 0x21
pattern_register Tps2 = 0x22
pattern_register Tps3 = 0x23
pattern_register Tps4 = 0x07
