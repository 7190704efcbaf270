use Rattle.dpx_source.proofs.Endings.{bad_not_whole, short_not_whole, bad_not_short}
use Rattle.dpx_source.proofs.laws.sending_ends_once.Goals as goal

pub returns-clause-bad_not_whole : goal.returns-clause-bad_not_whole
returns-clause-bad_not_whole c = bad_not_whole

pub returns-clause-short_not_whole : goal.returns-clause-short_not_whole
returns-clause-short_not_whole c = short_not_whole

pub returns-clause-bad_not_short : goal.returns-clause-bad_not_short
returns-clause-bad_not_short c = bad_not_short
