use Rattle.std.proofs.Common.{refl}
use Rattle.dpx_judge.proofs.Judgings.{stands_differed, stands_ended, stands_on}
use Rattle.dpx_judge.proofs.judge.Judge.feed.Goals as goal

pub returns-in-More-clause-judged : goal.returns-in-More-clause-judged
returns-in-More-clause-judged c = λ top entries s.
    stands_on top entries c.args.entry.now c.args.self.now _ c.in-Some.turn c.in-More.turn c.in-Some.is refl refl
    c.in-More.ensures s

pub returns-in-Stop-clause-judged : goal.returns-in-Stop-clause-judged
returns-in-Stop-clause-judged c = λ top entries s. record {
  whole = rw c.ending_at.ensures (stands_ended top entries c.args.entry.now c.args.self.now c.in-Some.turn
      c.in-Stop.outcome c.in-Some.is c.in-Stop.ensures s);
  over = refl;
}

pub returns-in-Differs-clause-judged : goal.returns-in-Differs-clause-judged
returns-in-Differs-clause-judged c = λ top entries s. record {
  none = stands_differed top entries c.args.entry.now c.args.self.now c.in-Some.turn c.in-Some.is
      c.in-Differs.ensures s;
  over = refl;
}
