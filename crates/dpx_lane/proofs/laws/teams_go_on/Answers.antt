use Rattle.dpx_lane.proofs.Teams.{team_sends, team_reads}
use Rattle.dpx_lane.proofs.laws.teams_go_on.Goals as goal

pub returns-clause-sent : goal.returns-clause-sent
returns-clause-sent c old new codes words rows outs work stood = team_sends 0 old new codes words rows outs work stood

pub returns-clause-read : goal.returns-clause-read
returns-clause-read c old new words left rows outs work stood = team_reads old new words left rows outs work stood
