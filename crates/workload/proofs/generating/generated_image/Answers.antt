use Rattle.std.proofs.Common.{arith, ◌∙◌}
use Rattle.workload.proofs.Program.{no_fault}
use Rattle.workload.proofs.generating.generated_image.Goals as goal

pub unreachable-requires : goal.unreachable-requires
unreachable-requires c =
    let said = c.in-Err-Fault in
    no_fault c.args.seed c.args.size (omega (arith, c.ranges.seed)) c.requires.some c.requires.most said.field-0 said.field-0-0 c.deref.result.now said.field-0-is (c.deref.ensures.value ∙ c.in_ok-source.ensures) said.ensures.image
