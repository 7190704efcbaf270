use Rattle.std.proofs.Common.{ℕ, take, drop, sym, ap, ◌∙◌, arith}
use Rattle.dp_replay.proofs.Left.{waiting_taken}
use Rattle.dp_replay.proofs.records.Records.take_waiting.Goals as goal

pub returns-clause-taken : goal.returns-clause-taken
returns-clause-taken g c =
    sym (ap (λ seen. seen.waiting) c.self.view_is)
    ∙ waiting_taken c.self.inside.start c.self.inside.end c.min-count.result c.self.inside.piece
    c.copy_from_slice.new.self _ (omega (arith, c.min-count.ensures, c.self.invariant.0)) (omega (arith, c.self.invariant.1))
    (c.copy_from_slice.ensures.after
    ∙ ap (λ (n : ℕ). take n (drop c.self.inside.start c.self.inside.piece)) (omega arith))
