use Rattle.std.proofs.Common.{arith}
use Rattle.elf_image.proofs.Bytes.{AreBytes}
use Rattle.elf_image.proofs.ElfLaws.{gives, found, only, loadable}
use Rattle.elf_image.proofs.reading.read_image.Goals as goal

pub returns-clause-found : goal.returns-clause-found
returns-clause-found c = found c.args.bytes.now c.image.result c.image.ensures.told c.image.ensures.image

pub returns-clause-only : goal.returns-clause-only
returns-clause-only c = λ one is. only c.args.bytes.now c.image.result one c.image.ensures.told c.image.ensures.image is

pub returns-clause-exact : goal.returns-clause-exact
returns-clause-exact c = gives c.args.bytes.now c.image.result c.image.ensures.told c.image.ensures.image

pub returns-clause-loadable : goal.returns-clause-loadable
returns-clause-loadable c =
    let bytes : AreBytes c.args.bytes.now = λ i. omega (arith, c.type_inv.bytes i) in
    loadable c.args.bytes.now c.image.result bytes (found c.args.bytes.now c.image.result c.image.ensures.told c.image.ensures.image)
