use Rattle.elf_image.proofs.SymbolLoops.{AreKept}
use Rattle.elf_image.proofs.symbols.table_symbols.Given as goal

abbrev pub invariant-loop-index : goal.invariant-loop-index
invariant-loop-index l = AreKept l.file l.table l.strings l.symbols l.index
