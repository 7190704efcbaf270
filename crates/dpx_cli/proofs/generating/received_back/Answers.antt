use Rattle.std.proofs.Common.{◌≡◌, ◌∙◌, [], ap, refl}
use Rattle.dpx_base.specs.Plan.{PlanFacts}
use Rattle.dpx_base.specs.Seen.{SinkInMemory}
use Rattle.dpx_files.specs.Generator.{gen_link}
use Rattle.dpx_sink.specs.Receiver.{link_of}
use Rattle.dpx_cli.proofs.Generations.{behind_header, is_written, not_unfinished, only_write_faults, pixels_written, received_is}
use Rattle.dpx_cli.proofs.generating.received_back.Goals as goal

pub returns-in-Ok-finish-clause-received : goal.returns-in-Ok-finish-clause-received
returns-in-Ok-finish-clause-received g c =
    let written =
    is_written c.args.seed c.frames_fit.ensures c.frames_are_whole.ensures.count c.frames_are_whole.ensures.in_range
    c.a_capture_is_received.ensures c.args.capture.now c.requires.round in
    let over : link_of c.in_ok-receiver.receiver ≡ gen_link c.args.seed =
    c.in_ok-receiver.ensures.link ∙ (c.link.ensures ∙ ap (λ (p : PlanFacts). p.link) c.requires.plan) in
    let fed = c.in-Ok.ensures.feeds [] [] [] c.in_ok-receiver.ensures.nothing in
    let ends = c.in-Ok-finish.ensures.ends (behind_header c.args.capture.now) fed.more_records fed.more_text fed.so in
    received_is c.args.seed (behind_header c.args.capture.now) written (link_of c.feed.new.self)
    (c.feed.ensures.link ∙ over) c.in-Ok-finish.received ends

pub returns-in-Ok-finish-clause-records : goal.returns-in-Ok-finish-clause-records
returns-in-Ok-finish-clause-records g c =
    let written =
    is_written c.args.seed c.frames_fit.ensures c.frames_are_whole.ensures.count c.frames_are_whole.ensures.in_range
    c.a_capture_is_received.ensures c.args.capture.now c.requires.round in
    let over : link_of c.in_ok-receiver.receiver ≡ gen_link c.args.seed =
    c.in_ok-receiver.ensures.link ∙ (c.link.ensures ∙ ap (λ (p : PlanFacts). p.link) c.requires.plan) in
    let fed = c.in-Ok.ensures.feeds [] [] [] c.in_ok-receiver.ensures.nothing in
    pixels_written c.args.seed (behind_header c.args.capture.now) written (link_of c.feed.new.self)
    (c.feed.ensures.link ∙ over) c.feed.new.self c.in_ok-records.records c.feed.new.pix
    (ap (λ (s : SinkInMemory). s.taken) c.in_ok-records.ensures) refl fed

pub unreachable-requires : goal.unreachable-requires
unreachable-requires g c =
    let written =
    is_written c.args.seed c.frames_fit.ensures c.frames_are_whole.ensures.count c.frames_are_whole.ensures.in_range
    c.a_capture_is_received.ensures c.args.capture.now c.requires.round in
    let over : link_of c.in_ok-receiver.receiver ≡ gen_link c.args.seed =
    c.in_ok-receiver.ensures.link ∙ (c.link.ensures ∙ ap (λ (p : PlanFacts). p.link) c.requires.plan) in
    let fed = c.in-Ok.ensures.feeds [] [] [] c.in_ok-receiver.ensures.nothing in
    let ends = c.in-Err-finish.ensures.ends (behind_header c.args.capture.now) fed.more_records fed.more_text fed.so in
    not_unfinished c.args.seed (behind_header c.args.capture.now) written (link_of c.feed.new.self)
    (c.feed.ensures.link ∙ over) c.in-Err-finish.field-0 ends

pub want_of_room-requires : goal.want_of_room-requires
want_of_room-requires g c =
    let written =
    is_written c.args.seed c.frames_fit.ensures c.frames_are_whole.ensures.count c.frames_are_whole.ensures.in_range
    c.a_capture_is_received.ensures c.args.capture.now c.requires.round in
    let over : link_of c.in_ok-receiver.receiver ≡ gen_link c.args.seed =
    c.in_ok-receiver.ensures.link ∙ (c.link.ensures ∙ ap (λ (p : PlanFacts). p.link) c.requires.plan) in
    only_write_faults c.args.seed (behind_header c.args.capture.now) written (link_of c.in_ok-receiver.receiver) over
    c.feed.new.self _ _ c.in-Err.end (c.in-Err.ensures.feeds [] [] [] c.in_ok-receiver.ensures.nothing)
