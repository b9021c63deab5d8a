use Rattle.std.proofs.Common.{sym, ◌∙◌}
use Rattle.elf_image.proofs.ElfLaws as laws
use Rattle.elf_image.proofs.reading.image_or_fault.Goals as goal

pub returns-clause-one_of_two : goal.returns-clause-one_of_two
returns-clause-one_of_two c = laws.image_or_fault

pub returns-clause-not_both : goal.returns-clause-not_both
returns-clause-not_both c = laws.not_both

pub returns-clause-one_image : goal.returns-clause-one_image
returns-clause-one_image c = λ file a b a_is b_is. laws.only_image file a a_is ∙ sym (laws.only_image file b b_is)
