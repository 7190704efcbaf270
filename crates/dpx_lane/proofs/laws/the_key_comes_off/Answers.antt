use Rattle.dpx_lane.proofs.Keyeds.{keyed_there, keyed_once, unkeyed}
use Rattle.dpx_lane.proofs.laws.the_key_comes_off.Goals as goal

pub returns-clause-there : goal.returns-clause-there
returns-clause-there c row = keyed_there row

pub returns-clause-once : goal.returns-clause-once
returns-clause-once c row one other h k = keyed_once row one other h k

pub returns-clause-twice : goal.returns-clause-twice
returns-clause-twice c row keyed back h k = keyed_once keyed back row k (unkeyed row keyed h)
