use Rattle.std.proofs.Common.{inr}
use Rattle.dpx_cli.proofs.printing.print_stop.Goals as goal

pub returns : goal.returns
returns g c = inr (rw c.as_bytes-in-Err.ensures.value at c.end_with-in-Err.ensures)
