use Rattle.std.proofs.Common.{◌<◌, arith}
use Rattle.std.specs.List.{All}
use Rattle.std.proofs.lemmas.List.Elements.{All-from_get_or}
use Rattle.elf_image.proofs.FlatLaws.{loadable-flat}
use Rattle.elf_image.proofs.flat.flat_image.Goals as goal

pub returns-clause-loadable : goal.returns-clause-loadable
returns-clause-loadable c =
    let bytes : All (λ b. b < 256) c.args.bytes.now = All-from_get_or (λ b. b < 256) c.args.bytes.now 0 (λ i within. omega (arith, c.type_inv.bytes i)) in
    loadable-flat c.args.addr c.args.bytes.now c.one_segment.result (omega (arith, c.ranges.addr)) bytes c.one_segment.ensures
