use Rattle.dpx_lane.proofs.WholeRows.{sent_so_far, sent_whole, sent_once}
use Rattle.dpx_lane.proofs.laws.lanes_send_their_rows.Goals as goal

pub returns-clause-so_far : goal.returns-clause-so_far
returns-clause-so_far c lane lag codes words h = sent_so_far lane lag codes words h

pub returns-clause-whole : goal.returns-clause-whole
returns-clause-whole c lanes number symbols words l h = sent_whole lanes number symbols words l h

pub returns-clause-once : goal.returns-clause-once
returns-clause-once c lanes sets one other h k = sent_once lanes sets one other h k
