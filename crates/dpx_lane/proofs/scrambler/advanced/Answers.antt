use Rattle.dpx_lane.proofs.KeyBytes.{register_ahead}
use Rattle.dpx_lane.proofs.scrambler.advanced.Goals as goal

pub returns : goal.returns
returns c n h = register_ahead n c.args.register h
