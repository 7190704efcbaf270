use Rattle.std.proofs.Common.{◌∙◌, inl, inr}
use Rattle.dpx_files.proofs.Texts.{json_of-text, json_of-none}
use Rattle.dpx_files.proofs.members.read_value.Goals as goal
use Rattle.dpx_files.proofs.members.read_value.Goals.{then-is_memory, else-is_memory}

pub returns-in-Ok : goal.returns-in-Ok
returns-in-Ok c = json_of-text c.args.bytes.now c.in-Ok.ensures.ok.0 ∙ c.in-Ok.ensures.ok.1

pub returns-after-is_memory : goal.returns-after-is_memory
returns-after-is_memory c =
    elim c.if-is_memory.branch [
      | then-is_memory w ↦ inl w.result-is
      | else-is_memory w ↦
          inr (
            w.result-is,
            json_of-none c.args.bytes.now (c.in-Err.ensures.err (λ memory. absurd (cc (w.if-is_memory.ensures.1 memory)))),
          )
    ]
