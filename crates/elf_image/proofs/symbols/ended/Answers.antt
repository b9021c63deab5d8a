use Rattle.std.proofs.Common.{List, ℕ, ap, ◌∙◌}
use Rattle.elf_image.specs.Symbols.{name_at}
use Rattle.elf_image.proofs.Names.{last_zero, never_zero}
use Rattle.elf_image.proofs.symbols.ended.Goals as goal

pub returns : goal.returns
returns c = λ offset. ap (λ (names : List ℕ). name_at names offset) c.split_at.ensures.front ∙ last_zero c.args.strings.now c.in-Some.last offset c.in-Some.ensures

pub returns-in_default : goal.returns-in_default
returns-in_default c = λ offset. never_zero c.args.strings.now offset c.in_default.ensures
