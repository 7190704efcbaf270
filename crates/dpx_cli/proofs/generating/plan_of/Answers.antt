use Rattle.std.proofs.Common.{◌≡◌, ◌∙◌, Ok}
use Rattle.dpx_files.specs.Generator.{gen_plan}
use Rattle.dpx_cli.proofs.Numbers.{number_planned}
use Rattle.dpx_cli.proofs.generating.plan_of.Goals as goal

pub unreachable-requires : goal.unreachable-requires
unreachable-requires c =
    let shape = c.gen_shape-shape in
    let planned : c.fit.result ≡ Ok (gen_plan c.args.seed) =
    c.fit.ensures.value
    ∙ number_planned c.frames_fit.ensures c.args.seed shape.result.0 shape.result.1 shape.ensures.link shape.ensures.shape
    in
    let refused = c.in-Err.is in
    absurd cc

pub returns : goal.returns
returns c =
    let shape = c.gen_shape-shape in
    let planned : c.fit.result ≡ Ok (gen_plan c.args.seed) =
    c.fit.ensures.value
    ∙ number_planned c.frames_fit.ensures c.args.seed shape.result.0 shape.result.1 shape.ensures.link shape.ensures.shape
    in
    let is = c.in-Ok.is in
    cc
