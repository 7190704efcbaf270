use Rattle.std.proofs.Common.{◌≡◌, ℕ, List, length, sym, ap, ◌∙◌}
use Rattle.dpx_base.specs.Capture.{word_bytes}
use Rattle.dpx_base.specs.Lanes.{lanes_count}
use Rattle.dpx_base.specs.declared.lanes.Lanes.{Lanes}
use Rattle.dpx_source.proofs.Slices.{put_back}
use Rattle.dpx_source.proofs.Batches.{each_takes, batch_written, batch_front}
use Rattle.dpx_source.proofs.Outcomes.{on_ok, on_err}
use Rattle.dpx_source.proofs.word_writer.WordWriter.write_batch.Goals as goal

pub run-requires-clause-takes : goal.run-requires-clause-takes
run-requires-clause-takes g c κs within = each_takes _ _ c.requires.writer.codes

pub returns-clause-wrote : goal.returns-clause-wrote
returns-clause-wrote g c given before wrote =
    let rows = c.run.new.rows in
    let same = c.run.ensures.rows_lanes ∙ c.requires.writer.lanes in
    let new = c.put_words-size.new.bytes in
    let len =
    sym c.deref_mut.ensures.len
    ∙ (ap length c.deref_mut.ensures.value ∙ (c.requires.writer.room ∙ sym c.put_words-size.ensures.room)) in
    let there : c.deref.result.now ≡ new =
    c.deref.ensures.value ∙ put_back c.args.self.now.bytes.len new c.args.self.now.bytes.items len in
    let words : Lanes → List ℕ = λ l. word_bytes (lanes_count l) rows.clocks rows.rows in
    let bytes = c.put_words-size.ensures.words ∙ ap words same in
    let size = c.put_words-size.ensures.lanes ∙ ap lanes_count same in
    on_ok c.write_whole.result
    (λ taken. batch_written c.args.self.now.rows rows c.clear.new.self c.args.self.now.team c.run.new.self given before
    (g.O.Sink.seen c.args.out.now).taken (g.O.Sink.seen c.write_whole.new.out).taken wrote c.run.ensures.does
    c.run.ensures.lanes c.run.ensures.clocks size (rw same at c.clear.ensures) taken)
    (rw (there, bytes) at c.write_whole.ensures.whole)

pub returns-clause-front : goal.returns-clause-front
returns-clause-front g c given before wrote =
    let rows = c.run.new.rows in
    let same = c.run.ensures.rows_lanes ∙ c.requires.writer.lanes in
    let new = c.put_words-size.new.bytes in
    let len =
    sym c.deref_mut.ensures.len
    ∙ (ap length c.deref_mut.ensures.value ∙ (c.requires.writer.room ∙ sym c.put_words-size.ensures.room)) in
    let there : c.deref.result.now ≡ new =
    c.deref.ensures.value ∙ put_back c.args.self.now.bytes.len new c.args.self.now.bytes.items len in
    let words : Lanes → List ℕ = λ l. word_bytes (lanes_count l) rows.clocks rows.rows in
    let bytes = c.put_words-size.ensures.words ∙ ap words same in
    let size = c.put_words-size.ensures.lanes ∙ ap lanes_count same in
    on_err c.write_whole.result
    (λ front. batch_front c.args.self.now.rows rows c.args.self.now.team c.run.new.self given before
    (g.O.Sink.seen c.args.out.now).taken (g.O.Sink.seen c.write_whole.new.out).taken wrote c.run.ensures.does
    c.run.ensures.lanes c.run.ensures.clocks size front)
    (rw (there, bytes) at c.write_whole.ensures.front)
