use Rattle.dpx_lane.proofs.BadWords.{fault_is, is_reading}
use Rattle.dpx_lane.proofs.decoder.Decoder.fault.Goals as goal

pub returns-clause-first : goal.returns-clause-first
returns-clause-first c = fault_is c.args.self.now

pub returns-clause-reading : goal.returns-clause-reading
returns-clause-reading c = is_reading c.args.self.now
