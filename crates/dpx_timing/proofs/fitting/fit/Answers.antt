use Rattle.std.proofs.Common.{sym, ◌∙◌}
use Rattle.dpx_timing.proofs.Fits.{fits}
use Rattle.dpx_timing.proofs.fitting.fit.Goals as goal

pub plan-requires-clause-fits : goal.plan-requires-clause-fits
plan-requires-clause-fits c = fits _ (sym c.unfit.ensures ∙ c.in-None.is)
