use Rattle.elf_image.proofs.HeaderLoop.{AreRead}
use Rattle.elf_image.proofs.segments.each_header.Given as goal

abbrev pub invariant-loop-index : goal.invariant-loop-index
invariant-loop-index l = AreRead l.file l.loaded l.pages l.index
