-- Replies to requests of I2C over AUX: VESA DisplayPort 1.4a, AUX reply commands. Which numbers of bytes an
-- acknowledgement may bring is this project's own.
use Rattle.std.specs.Prelude.{ℕ, ◌==◌, ◌&&◌, ◌||◌, Bool, true, false, nat_le, if◌then◌else◌, List, [], ◌∷◌, length}
use Rattle.dpx_edid.specs.declared.i2c.I2c.{I2c}
use Rattle.dpx_edid.specs.declared.i2c.I2c.TheVariants.{Start, Read}
use Rattle.dpx_edid.specs.declared.i2c_reply.I2cReply.{I2cReply}
use Rattle.dpx_edid.specs.declared.i2c_reply.I2cReply.TheVariants.{Ack, Nack, Defer, Malformed}

-- Whether an acknowledgement may bring so many bytes: to the start none; to the last read exactly those asked for; to
-- any other read one at least, and no more than asked for.
abbrev pub may_bring : I2c → ℕ → Bool
may_bring Start count = count == 0
may_bring (Read length true) count = count == length
may_bring (Read length false) count = nat_le 1 count && nat_le count length

-- 00, and behind it what is brought
abbrev pub acknowledged : I2c → List ℕ → I2cReply
acknowledged request payload = if may_bring request (length payload) then Ack payload else Malformed

-- a code with nothing behind it
abbrev pub alone : I2cReply → List ℕ → I2cReply
alone says [] = says
alone says (more ∷ rest) = Malformed

-- 10 and 20 are the AUX channel's refusal and deferral, 40 and 80 the device's; whatever is in no row is malformed
abbrev pub read_i2c_reply : I2c → List ℕ → I2cReply
read_i2c_reply request [] = Malformed
read_i2c_reply request (code ∷ rest) =
    if code == 0x00 then acknowledged request rest
    else if code == 0x10 || code == 0x40 then alone Nack rest
    else if code == 0x20 || code == 0x80 then alone Defer rest
    else Malformed
