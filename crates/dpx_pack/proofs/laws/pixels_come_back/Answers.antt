use Rattle.dpx_pack.proofs.ComeBack.{pixels_back, packed_is_carried}
use Rattle.dpx_pack.proofs.laws.pixels_come_back.Goals as goal

pub returns-clause-come_back : goal.returns-clause-come_back
returns-clause-come_back c = pixels_back

pub returns-clause-packed : goal.returns-clause-packed
returns-clause-packed c = packed_is_carried
