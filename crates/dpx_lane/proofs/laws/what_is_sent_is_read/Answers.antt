use Rattle.dpx_lane.proofs.SentRead.{read_there, read_once, read_well}
use Rattle.dpx_lane.proofs.laws.what_is_sent_is_read.Goals as goal

pub returns-clause-there : goal.returns-clause-there
returns-clause-there c lag symbols words h = read_there lag symbols words h

pub returns-clause-once : goal.returns-clause-once
returns-clause-once c lag symbols plain words h r = read_once lag symbols plain words h r

pub returns-clause-none_bad : goal.returns-clause-none_bad
returns-clause-none_bad c lag symbols words h = read_well lag symbols words h
