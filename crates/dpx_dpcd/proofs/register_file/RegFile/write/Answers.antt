use Rattle.dpx_dpcd.proofs.Written.{writes_none, writes_more}
use Rattle.dpx_dpcd.proofs.register_file.RegFile.write.Goals as goal

pub loop-place-init : goal.loop-place-init
loop-place-init c = record { registers = λ x. writes_none _ c.args.address c.args.bytes.now x; facts = cc }

pub loop-place-preserved : goal.loop-place-preserved
loop-place-preserved c = record {
  registers = λ x. writes_more _ c.args.address c.args.bytes.now c.loop-place.place x _ _ c.loop-place-test.true
      (c.loop-place.invariant.registers x) (c.put.ensures.registers x);
  facts = cc;
}
