use Rattle.std.proofs.Common.{refl}
use Rattle.dpx_lane.proofs.Receives.{good_more}
use Rattle.dpx_lane.proofs.decoder.Decoder.go_on.Goals as goal

pub returns-clause-state : goal.returns-clause-state
returns-clause-state c words left h =
    good_more c.args.self.now _ c.args.word c.code_of.result c.args.sym c.next.result words left c.requires.fault refl
    c.requires.read c.next.ensures.state c.next.ensures.value c.code_of.ensures.value c.code_of.ensures.back refl h
