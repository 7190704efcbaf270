use Rattle.std.proofs.Common.{ap, ◌∙◌, ◌+◌, arith, length-set}
use Rattle.dpx_dpcd.specs.RegFile.{sink_facts, registers_of, shown}
use Rattle.dpx_dpcd.proofs.Written.{reads_more}
use Rattle.dpx_dpcd.proofs.register_file.RegFile.read.Goals as goal

pub loop-place-preserved : goal.loop-place-preserved
loop-place-preserved c = record {
  room = simp length-set c.loop-place.invariant.room;
  read = reads_more _ c.loop-place.bytes c.args.address c.loop-place.place _ _ (omega arith) (omega arith)
      (c.shown.ensures ∙ ap (λ n. shown (sink_facts c.args.self.now) (registers_of c.args.self.now)
      (c.args.address + n)) c.from.ensures) c.loop-place.invariant.read;
}
