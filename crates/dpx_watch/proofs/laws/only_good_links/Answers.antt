use Rattle.dpx_watch.proofs.LastStatus.{only_read_links}
use Rattle.dpx_watch.proofs.laws.only_good_links.Goals as goal

pub returns : goal.returns
returns c = only_read_links c.args.top
