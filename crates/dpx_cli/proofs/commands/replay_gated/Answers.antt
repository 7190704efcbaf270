use Rattle.std.proofs.Common.{refl}
use Rattle.dpx_cli.proofs.Edids.{fetches_are_reports}
use Rattle.dpx_cli.proofs.Gens.{unread_words_gen}
use Rattle.dpx_cli.proofs.Recvs.{CaptureLaws, unread_words_recv}
use Rattle.dpx_cli.proofs.Runs.{unread_words_run}
use Rattle.dpx_cli.proofs.Sends.{unread_words_send}
use Rattle.dpx_cli.proofs.Trainings.{unread_words_do}
use Rattle.dpx_cli.proofs.Reportings.{unread_words_report}
use Rattle.dpx_cli.proofs.Judges.{verdicts_are_reports}
use Rattle.dpx_cli.proofs.Watches.{events_are_reports}
use Rattle.dpx_cli.proofs.commands.replay_gated.Goals as goal

pub returns-clause-train : goal.returns-clause-train
returns-clause-train g c asked = unread_words_do _ _ _ _ _ refl refl c.print_stop-in-Err-Memory.ensures

pub returns-clause-send : goal.returns-clause-send
returns-clause-send g c asked =
    unread_words_send _ _ _ _ c.a_capture_is_one.ensures (λ kept. (refl, refl)) _ _ (refl, refl) refl
    c.print_stop-in-Err-Memory.ensures

pub returns-clause-run : goal.returns-clause-run
returns-clause-run g c asked =
    unread_words_run _ _ _ _ _ _ c.a_capture_is_one.ensures (λ kept. (refl, refl)) _ _ refl (refl, refl) refl
    c.print_stop-in-Err-Memory.ensures

pub returns-clause-recv : goal.returns-clause-recv
returns-clause-recv g c asked =
    let laws : CaptureLaws = record {
      headers = c.headers_come_back.ensures;
      one_end = c.one_end.ensures;
      one_reception = c.one_reception.ensures;
      faults_stay = c.faults_stay.ensures;
      received = c.captures_are_received.ensures;
      written = c.a_capture_is_received.ensures;
    } in
    unread_words_recv laws _ _ _ (λ kept. refl) _ _ refl refl c.print_stop-in-Err-Memory.ensures

pub returns-clause-generate : goal.returns-clause-generate
returns-clause-generate g c seed asked = unread_words_gen seed _ _ _ _ refl c.print_stop-in-Err-Memory.ensures

pub returns-clause-edid : goal.returns-clause-edid
returns-clause-edid g c asked =
    unread_words_report _ _ _ _ _ (fetches_are_reports _ _) _ _ refl refl c.print_stop-in-Err-Memory.ensures

pub returns-clause-watch : goal.returns-clause-watch
returns-clause-watch g c asked =
    unread_words_report _ _ _ _ _ (events_are_reports _ _) _ _ refl refl c.print_stop-in-Err-Memory.ensures

pub returns-clause-judge : goal.returns-clause-judge
returns-clause-judge g c asked =
    unread_words_report _ _ _ _ _ (verdicts_are_reports _) _ _ tt refl c.print_stop-in-Err-Memory.ensures
