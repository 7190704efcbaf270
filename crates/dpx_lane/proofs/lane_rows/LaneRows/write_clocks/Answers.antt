use Rattle.std.proofs.Common.{◌≡◌, ◌+◌, ◌*◌, ap, arith, refl}
use Rattle.dpx_lane.proofs.Bytes.{has_none, put_next, word_from, all_put}
use Rattle.dpx_lane.proofs.lane_rows.LaneRows.write_clocks.Goals as goal

pub loop-clock-init : goal.loop-clock-init
loop-clock-init g c =
    record { size = refl; is = has_none g.row.LANES c.args.self.now.rows c.args.to.now _ (omega arith) }

pub loop-lane-preserved : goal.loop-lane-preserved
loop-lane-preserved g c =
    let i = c.loop-lane.invariant in
    let n = g.row.LANES in
    let rows = c.args.self.now.rows in
    let clock = c.loop-clock.clock in
    let lane = c.loop-lane.lane in
    record {
      size = omega (arith, c.put_word.auto.to, i.size);
      is =
          put_next n rows c.args.to.now (clock * n + lane) (clock * n + (lane + 1)) _ c.loop-lane.to c.put_word.new.to
          (omega arith) i.is (word_from n rows clock lane _ c.loop-lane-test.true c.get.ensures) c.put_word.ensures;
    }

pub returns : goal.returns
returns g c =
    let n = g.row.LANES in
    let clocks = c.args.self.now.clocks in
    let clock = c.loop-clock.clock in
    let end : clock ≡ clocks =
    omega (arith, c.loop-clock-test.false, c.loop-clock.auto.clock-end, c.len-clock-end.ensures.value) in
    let all : clock * n ≡ n * clocks = omega (arith, ap (λ k. k * n) end) in
    all_put n clocks c.args.self.now.rows c.args.to.now (clock * n) c.loop-clock.to all c.loop-clock.invariant.is
    c.requires.size
