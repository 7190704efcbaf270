use Rattle.std.proofs.Common.{◌≡◌, ◌<◌, ℕ, List, ◌++◌, replicate, Option}
use Rattle.dpx_base.specs.declared.sym.Sym.{Sym}
use Rattle.dpx_base.specs.Lanes.{lanes_count}
use Rattle.dpx_base.specs.Words.{fill}
use Rattle.dpx_source.specs.WordWriter.{IsWriter, HasWritten}
use Rattle.dpx_source.proofs.word_writer.WordWriter.finish.Given as goal

abbrev pub invariant-loop-done : goal.invariant-loop-done
invariant-loop-done g l = record {
  writer : IsWriter l.self;
  room : l.self.rows.clocks < 8192;
  lanes : l.self.team.lanes ≡ l.initial.self.team.lanes;
  calm : (g.O.Sink.seen l.out).faults ≡ (g.O.Sink.seen l.initial.out).faults;
  wrote : (given : List (List Sym)) (before : Option (List ℕ))
      → HasWritten l.initial.self.rows l.initial.self.team given before (g.O.Sink.seen l.initial.out).taken
      → HasWritten l.self.rows l.self.team
      (given ++ replicate l.done (replicate (lanes_count l.initial.self.team.lanes) fill)) before
      (g.O.Sink.seen l.out).taken;
}
