-- One native AUX transaction: this project's own.
use Rattle.std.specs.Prelude.{ℕ, List, Result, Ok, Err}
use Rattle.dpx_base.specs.declared.aux_port.Answer.{Answer}
use Rattle.dpx_base.specs.declared.aux_port.Answer.TheVariants.{Silent, Bytes}
use Rattle.dpx_base.specs.declared.aux_port.Entry.{Entry}
use Rattle.dpx_aux.specs.declared.asking.LastAnswer.{LastAnswer}
use Rattle.dpx_aux.specs.declared.asking.LastAnswer.TheVariants as last
use Rattle.dpx_aux.specs.declared.asking.Heard.{Heard}
use Rattle.dpx_aux.specs.declared.asking.Heard.TheVariants.{End, InVain}
use Rattle.dpx_aux.specs.declared.request.Request.{Request}
use Rattle.dpx_aux.specs.declared.reply.Reply.{Reply}
use Rattle.dpx_aux.specs.declared.reply.Reply.TheVariants.{Ack, Nack, Defer, Malformed}
use Rattle.dpx_aux.specs.declared.transaction.AuxEnd.{AuxEnd}
use Rattle.dpx_aux.specs.declared.transaction.AuxEnd.TheVariants.{Refused, Spent}
use Rattle.dpx_aux.specs.Asking.{AsksInTurn}
use Rattle.dpx_aux.specs.Request.{address_of, encode_request}
use Rattle.dpx_aux.specs.Reply.{read_reply}

-- what a reply means for a transaction at this address
abbrev pub meaning : ℕ → Reply → Heard AuxEnd
meaning address (Ack bytes) = End (Ok bytes)
meaning address (Nack taken) = End (Err (Refused address taken))
meaning address Defer = InVain last.Defer
meaning address Malformed = InVain last.Malformed

-- what an answer means for a request
abbrev pub heard_from : Request → Answer → Heard AuxEnd
heard_from request Silent = InVain last.Silent
heard_from request (Bytes bytes) = meaning (address_of request) (read_reply request bytes)

-- how a transaction at this address fails where every ask was in vain
abbrev pub spent : ℕ → LastAnswer → AuxEnd
spent address last = Spent address last

-- The request's bytes are asked until an acknowledgement or a refusal, at most eight times.
unfoldable pub Transaction : Request → Result (List ℕ) AuxEnd → List Entry → Type 0
Transaction request = AsksInTurn (encode_request request) (heard_from request) (spent (address_of request))
