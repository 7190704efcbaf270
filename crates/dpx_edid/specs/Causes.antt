-- Why a fetch ended: this project's own.
use Rattle.std.specs.Prelude.{◌≡◌, ℕ, ◌+◌, List, [], ◌∷◌, ◌++◌, length, Result, Ok, Err}
use Rattle.std.specs.List.{AllByRecursion}
use Rattle.dpx_base.specs.declared.aux_port.Answer.{Answer}
use Rattle.dpx_base.specs.declared.aux_port.Answer.TheVariants.{Bytes}
use Rattle.dpx_base.specs.declared.aux_port.Entry.{Entry}
use Rattle.dpx_base.specs.declared.aux_port.Entry.TheVariants.{Asked}
use Rattle.dpx_aux.specs.declared.asking.Heard.TheVariants.{InVain}
use Rattle.dpx_aux.specs.declared.asking.LastAnswer.{LastAnswer}
use Rattle.dpx_aux.specs.Asking.{IsInVain, asks_at_most, asked_with}
use Rattle.dpx_edid.specs.declared.i2c.I2c.{I2c}
use Rattle.dpx_edid.specs.declared.i2c_reply.I2cReply.TheVariants.{Nack}
use Rattle.dpx_edid.specs.declared.fetch.I2cEnd.{I2cEnd}
use Rattle.dpx_edid.specs.declared.fetch.I2cEnd.TheVariants.{Refused, Spent}
use Rattle.dpx_edid.specs.declared.fetch.Fetched.{Fetched}
use Rattle.dpx_edid.specs.declared.fetch.FetchEnd.{FetchEnd}
use Rattle.dpx_edid.specs.I2c.{encode_i2c}
use Rattle.dpx_edid.specs.I2cReply.{read_i2c_reply}
use Rattle.dpx_edid.specs.Fetch.{heard_from, block_length}

-- the last answer refused its request
pub record EndsRefused (history : List Entry) : Type 0 where
  pub before : List Entry
  pub request : I2c
  pub reply : List ℕ
  pub joined : history ≡ before ++ Asked (encode_i2c request) (Bytes reply) ∷ []
  pub refused : read_i2c_reply request reply ≡ Nack

-- the last request was asked as often as it may be, each time in vain, the last time so
pub record EndsSpent (last : LastAnswer) (history : List Entry) : Type 0 where
  pub before : List Entry
  pub request : I2c
  pub tried : List Answer
  pub answer : Answer
  pub joined : history ≡ before ++ asked_with (encode_i2c request) (tried ++ answer ∷ [])
  pub often : length tried + 1 ≡ asks_at_most
  pub in_vain : AllByRecursion (λ other. IsInVain (heard_from request other)) tried
  pub last_in_vain : heard_from request answer ≡ InVain last

abbrev pub CausedBy : I2cEnd → List Entry → Type 0
CausedBy Refused history = EndsRefused history
CausedBy (Spent last) history = EndsSpent last history

-- a block is whole, and a failed fetch has its cause at the end of its history
abbrev pub IsCaused : Result Fetched FetchEnd → List Entry → Type 0
IsCaused (Ok got) history = length got.block ≡ block_length
IsCaused (Err end) history = CausedBy end.why history
