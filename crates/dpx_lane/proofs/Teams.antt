-- Each lane of a team goes on.
use Rattle.std.proofs.Common.{ℕ, ◌+◌, ◌*◌, List, [], ◌∷◌}
use Rattle.dpx_lane.specs.Receiving.{HasRead, ReadsRow}
use Rattle.dpx_lane.specs.Sending.{HasSent, SendsRow}
use Rattle.dpx_lane.specs.Team.{LanesDo, TeamSent, TeamRead, joined}
use Rattle.dpx_lane.specs.declared.lane_rx.LaneRx.{LaneRx}
use Rattle.dpx_lane.specs.declared.lane_tx.LaneTx.{LaneTx}

pub team_sends : (j : ℕ) (old new : List LaneTx) (codes words rows outs : List (List ℕ))
    → LanesDo SendsRow old rows new outs → TeamSent j old codes words
    → TeamSent j new (joined codes rows) (joined words outs)
team_sends j [] [] [] [] [] [] work stood = tt
team_sends j (s ∷ ss) (t ∷ ts) (c ∷ cs) (w ∷ ws) (r ∷ rs) (o ∷ os) work stood =
    (work.0 (2 * j) c w stood.0, team_sends (j + 1) ss ts cs ws rs os work.1 stood.1)
team_sends j [] [] [] [] [] (o ∷ os) work stood = tt
team_sends j [] [] [] [] (r ∷ rs) outs work stood = tt
team_sends j [] [] [] (w ∷ ws) rows outs work stood = absurd stood
team_sends j [] [] (c ∷ cs) words rows outs work stood = absurd stood
team_sends j [] (t ∷ ts) codes words [] outs work stood = absurd work
team_sends j [] (t ∷ ts) codes words (r ∷ rs) outs work stood = absurd work
team_sends j (s ∷ ss) [] codes words [] outs work stood = absurd work
team_sends j (s ∷ ss) [] codes words (r ∷ rs) outs work stood = absurd work
team_sends j (s ∷ ss) (t ∷ ts) [] words rows outs work stood = absurd stood
team_sends j (s ∷ ss) (t ∷ ts) (c ∷ cs) [] rows outs work stood = absurd stood
team_sends j (s ∷ ss) (t ∷ ts) (c ∷ cs) (w ∷ ws) [] outs work stood = absurd work
team_sends j (s ∷ ss) (t ∷ ts) (c ∷ cs) (w ∷ ws) (r ∷ rs) [] work stood = absurd work

pub team_reads : (old new : List LaneRx) (words left rows outs : List (List ℕ))
    → LanesDo ReadsRow old rows new outs → TeamRead old words left
    → TeamRead new (joined words rows) (joined left outs)
team_reads [] [] [] [] [] [] work stood = tt
team_reads (s ∷ ss) (t ∷ ts) (w ∷ ws) (l ∷ ls) (r ∷ rs) (o ∷ os) work stood =
    (work.0.goes_on w l stood.0, team_reads ss ts ws ls rs os work.1 stood.1)
team_reads [] [] [] [] [] (o ∷ os) work stood = tt
team_reads [] [] [] [] (r ∷ rs) outs work stood = tt
team_reads [] [] [] (l ∷ ls) rows outs work stood = absurd stood
team_reads [] [] (w ∷ ws) left rows outs work stood = absurd stood
team_reads [] (t ∷ ts) words left [] outs work stood = absurd work
team_reads [] (t ∷ ts) words left (r ∷ rs) outs work stood = absurd work
team_reads (s ∷ ss) [] words left [] outs work stood = absurd work
team_reads (s ∷ ss) [] words left (r ∷ rs) outs work stood = absurd work
team_reads (s ∷ ss) (t ∷ ts) [] left rows outs work stood = absurd stood
team_reads (s ∷ ss) (t ∷ ts) (w ∷ ws) [] rows outs work stood = absurd stood
team_reads (s ∷ ss) (t ∷ ts) (w ∷ ws) (l ∷ ls) [] outs work stood = absurd work
team_reads (s ∷ ss) (t ∷ ts) (w ∷ ws) (l ∷ ls) (r ∷ rs) [] work stood = absurd work
