use Rattle.dpx_judge.proofs.Verdicts.{differs_at, ended_at, judged_first, more_at, verdict_at_end}
use Rattle.dpx_judge.proofs.verdict.judge_all.Goals as goal
use Rattle.dpx_judge.proofs.verdict.judge_all.Goals.{in-More, in-Ended}

pub loop-place-init : goal.loop-place-init
loop-place-init c = judged_first c.args.top c.new-judge.result c.new-judge.ensures

pub returns-in-Differs : goal.returns-in-Differs
returns-in-Differs c =
    differs_at c.args.top c.args.entries.now c.loop-place.place c.index-entries-place.result c.loop-place.judge
    c.feed.new.self c.loop-place.verdict c.feed.result c.loop-place-test.true c.index-entries-place.is
    (record { judged = c.feed.ensures.judged; again = c.feed.ensures.again }) c.in-Differs.is c.loop-place.invariant

pub loop-place-preserved : goal.loop-place-preserved
loop-place-preserved c =
    elim c.match-feed.branch [
      | in-More w ↦ more_at c.args.top c.args.entries.now c.loop-place.place c.index-entries-place.result
          c.loop-place.judge c.feed.new.self c.loop-place.verdict c.match-feed.verdict c.feed.result
          c.loop-place-test.true c.index-entries-place.is
          (record { judged = c.feed.ensures.judged; again = c.feed.ensures.again }) w.in-More.is w.verdict-is
          c.loop-place.invariant
      | in-Ended w ↦ ended_at c.args.top c.args.entries.now c.loop-place.place c.index-entries-place.result
          c.loop-place.judge c.feed.new.self c.loop-place.verdict c.match-feed.verdict c.feed.result
          w.in-Ended.ending c.loop-place-test.true c.index-entries-place.is
          (record { judged = c.feed.ensures.judged; again = c.feed.ensures.again }) w.in-Ended.is w.verdict-is
          c.loop-place.invariant
    ]

pub returns : goal.returns
returns c =
    verdict_at_end c.args.top c.args.entries.now c.loop-place.place c.loop-place.verdict c.loop-place.judge
    c.loop-place-test.false c.loop-place.invariant
