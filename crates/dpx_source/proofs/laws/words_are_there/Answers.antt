use Rattle.dpx_base.specs.Lanes.{lanes_count}
use Rattle.dpx_base.specs.Sets.{sets}
use Rattle.dpx_source.proofs.AllSymbols.{sets_sendable}
use Rattle.dpx_source.proofs.WordsThere.{words_there}
use Rattle.dpx_source.proofs.laws.words_are_there.Goals as goal

pub returns : goal.returns
returns c p pixels plan =
    words_there (lanes_count p.link.lanes) (sets p pixels) (sets_sendable p pixels plan)
