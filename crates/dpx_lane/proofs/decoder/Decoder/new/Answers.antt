use Rattle.std.proofs.Common.{refl, []}
use Rattle.dpx_code.specs.Track.{ends}
use Rattle.dpx_lane.proofs.Keyeds.{keyed_none}
use Rattle.dpx_lane.proofs.decoder.Decoder.new.Goals as goal

pub returns-clause-nothing : goal.returns-clause-nothing
unfolding ends
returns-clause-nothing c = record {
  good = [];
  rest = [];
  plain = [];
  words_are = refl;
  left_is = refl;
  key = keyed_none;
  back = refl;
  tracks = (refl, refl);
  taken = c.new.ensures;
  clock = refl;
  end = refl;
}
