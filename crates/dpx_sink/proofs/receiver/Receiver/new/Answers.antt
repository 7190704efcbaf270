use Rattle.std.proofs.Common.{[], refl}
use Rattle.dpx_sink.proofs.FrontsDue.{taken_due}
use Rattle.dpx_sink.proofs.receiver.Receiver.new.Goals as goal

pub returns-clause-nothing : goal.returns-clause-nothing
returns-clause-nothing c = record {
  taken = c.in_ok-new.ensures.nothing;
  is_open = refl;
  due = taken_due c.in_ok-new.field-0 [] [] [] c.in_ok-new.ensures.nothing;
}
