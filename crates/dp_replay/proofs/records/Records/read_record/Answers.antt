use Rattle.std.proofs.Common.{rules, ℕ, List, subst, sym, arith}
use Rattle.std.proofs.KnownBytes.{Consumes-trans}
use Rattle.std.specs.Io.KnownBytes.{Consumes}
use Rattle.dp_replay.specs.Records.{left_of}
use Rattle.dp_replay.proofs.Left.{record_more}
use Rattle.dp_replay.proofs.records.Records.read_record.Goals as goal

pub loop-have-preserved : goal.loop-have-preserved
loop-have-preserved g c =
    let read = c.in_ok-count.ensures in
    let more = record_more c.loop-have.bytes c.read_some.new.to c.loop-have.have c.in_ok-count.count
    (omega (arith, c.loop-have.invariant.few)) (omega (arith, read.few)) in
    record {
      few = omega (arith, read.few);
      consumed = subst (λ (bytes : List ℕ). Consumes (left_of c.args.self.now) (left_of c.read_some.new.self) bytes)
          (sym more) (Consumes-trans _ _ _ _ _ c.loop-have.invariant.consumed read.consumes.0);
      calm = search rules;
    }
