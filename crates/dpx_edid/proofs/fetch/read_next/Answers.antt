use Rattle.dpx_edid.proofs.Brought.{ok_brings}
use Rattle.dpx_edid.proofs.fetch.read_next.Goals as goal

pub returns-clause-brings : goal.returns-clause-brings
returns-clause-brings g c =
    ok_brings c.args.missing c.read_for.result c.transact.result c.requires.some c.read_for.ensures.value
    c.transact.ensures.transacts
