use Rattle.std.proofs.Common.{ℕ, ap, ◌∙◌, ◌*◌, if◌then◌else◌}
use Rattle.std.specs.Prelude.{bit_xor}
use Rattle.dpx_base.specs.Key.{since_reset}
use Rattle.dpx_base.specs.declared.sym.Sym.{Sym}
use Rattle.dpx_lane.proofs.Keys.{register_more, key_of}
use Rattle.dpx_lane.proofs.scrambler.Scrambler.next.Goals as goal

pub returns-clause-state : goal.returns-clause-state
returns-clause-state c taken h =
    c.register_after-self.ensures (8 * since_reset taken) h ∙ register_more taken c.args.sym

pub returns-clause-value : goal.returns-clause-value
returns-clause-value c taken h =
    let f : ℕ → Sym = λ k. if c.args.sym.control then c.args.sym else record c.args.sym {
      byte =
          bit_xor c.args.sym.byte k;
    } in
    c.combined.ensures.value ∙ ap f (key_of c.args.self.now.register (since_reset taken) h)
