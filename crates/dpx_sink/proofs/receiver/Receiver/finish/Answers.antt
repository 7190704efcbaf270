use Rattle.dpx_sink.proofs.receiver.Receiver.finish.Goals as goal

pub returns-clause-ends : goal.returns-clause-ends
returns-clause-ends c = λ taken records text h. c.finish.ensures taken records text h.taken
