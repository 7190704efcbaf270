use Rattle.std.proofs.Common.{◌∙◌, sym}
use Rattle.dpx_sink.proofs.Readers.{counted_fed, given_more, all_given, answer_set, answer_hungry}
use Rattle.dpx_sink.proofs.Readers.{given_set, given_hungry, agrees_on}
use Rattle.dpx_sink.proofs.Writes.{nothing_wrote, wrote_so, refused_map}
use Rattle.dpx_sink.proofs.reader.Reader.advance.Goals as goal

pub returns-in-Err-clause-went : goal.returns-in-Err-clause-went
returns-in-Err-clause-went g c = λ f words p l a h.
    let old = c.args.self.now.aligner in
    let answer = c.in-Err.ensures.answer words h.given.plain h.given.fed in
    nothing_wrote _ p l _ (record {
      sets = h.sets;
      plain = h.given.plain;
      fault = answer.0;
      counted = counted_fed old words h.given.plain h.given.fed;
      are_sets = all_given f old words h.sets a.aligner_enhanced h.given answer.1;
      under = h.under;
      tally = h.tally;
      tell = h.tell;
    })

pub returns-in-Hungry-clause-went : goal.returns-in-Hungry-clause-went
returns-in-Hungry-clause-went g c = λ f words p l a h.
    let old = c.args.self.now.aligner in
    let answer = answer_hungry old words h.given.plain c.in-Ok.step c.in-Hungry.is
    (c.in-Ok.ensures.answer words h.given.plain h.given.fed) in
    nothing_wrote _ p l _ (
      record {
        sets = h.sets;
        given = record {
          plain = h.given.plain;
          fed = c.step.ensures.fed words h.given.plain h.given.fed;
          count = h.given.count
              ∙ sym (given_hungry old c.step.new.self c.in-Ok.step c.in-Hungry.is c.in-Ok.ensures.given);
          first = h.given.first;
        };
        parsed = h.parsed;
        under = h.under;
        tally = h.tally;
        holds = h.holds;
        tell = h.tell;
      },
      λ none. record {
        sets = h.sets;
        given = record {
          plain = h.given.plain;
          fed = c.step.ensures.fed words h.given.plain h.given.fed;
          count = h.given.count
              ∙ sym (given_hungry old c.step.new.self c.in-Ok.step c.in-Hungry.is c.in-Ok.ensures.given);
          first = h.given.first;
        };
        parsed = h.parsed;
        under = h.under;
        tally = h.tally;
        holds = h.holds;
        tell = h.tell;
        no_fault = answer.0;
        are_sets = all_given f old words h.sets a.aligner_enhanced h.given answer.1;
      },
    )

pub returns-in-Ok-read-clause-went : goal.returns-in-Ok-read-clause-went
returns-in-Ok-read-clause-went g c = λ f words p l a h.
    let old = c.args.self.now.aligner in
    let new = c.step.new.self in
    let agrees = agrees_on f c.args.self.now new c.step.ensures.link.0 c.step.ensures.link.1 a in
    let given = given_more f old new words h.sets c.in-Set.set a.aligner_enhanced
    (given_set old new c.in-Ok.step c.in-Set.number c.in-Set.set c.in-Set.is c.in-Ok.ensures.given)
    (λ plain fed. c.step.ensures.fed words plain fed)
    (λ plain fed. answer_set old words plain c.in-Ok.step c.in-Set.number c.in-Set.set c.in-Set.is
    (c.in-Ok.ensures.answer words plain fed)) h.given in
    wrote_so _ _ p l _ _
    (c.in-Ok-read.ensures.went f words p l agrees (record {
      sets = h.sets;
      given = given;
      parsed = h.parsed;
      under = h.under;
      tally = h.tally;
      holds = h.holds;
      tell = h.tell;
    }))
    (λ q m now. (now, λ same. absurd (cc)))

pub returns-in-Ok-read-clause-agrees : goal.returns-in-Ok-read-clause-agrees
returns-in-Ok-read-clause-agrees g c = λ f a.
    c.read.ensures.agrees f (agrees_on f c.args.self.now c.step.new.self c.step.ensures.link.0 c.step.ensures.link.1 a)

pub returns-in-Err-read-clause-went : goal.returns-in-Err-read-clause-went
returns-in-Err-read-clause-went g c = λ f words p l a h.
    let old = c.args.self.now.aligner in
    let new = c.step.new.self in
    let agrees = agrees_on f c.args.self.now new c.step.ensures.link.0 c.step.ensures.link.1 a in
    let given = given_more f old new words h.sets c.in-Set.set a.aligner_enhanced
    (given_set old new c.in-Ok.step c.in-Set.number c.in-Set.set c.in-Set.is c.in-Ok.ensures.given)
    (λ plain fed. c.step.ensures.fed words plain fed)
    (λ plain fed. answer_set old words plain c.in-Ok.step c.in-Set.number c.in-Set.set c.in-Set.is
    (c.in-Ok.ensures.answer words plain fed)) h.given in
    refused_map _ _ p l _ _ _ _ _ _ c.in-Err-read.end (λ bad q m none. absurd none) (λ bad q m k. k) (λ q m k. k)
    (c.in-Err-read.ensures.went f words p l agrees (record {
      sets = h.sets;
      given = given;
      parsed = h.parsed;
      under = h.under;
      tally = h.tally;
      holds = h.holds;
      tell = h.tell;
    }))

pub returns-in-Err-read-clause-agrees : goal.returns-in-Err-read-clause-agrees
returns-in-Err-read-clause-agrees g c = λ f a.
    c.read.ensures.agrees f (agrees_on f c.args.self.now c.step.new.self c.step.ensures.link.0 c.step.ensures.link.1 a)
