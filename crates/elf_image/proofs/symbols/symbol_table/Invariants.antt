use Rattle.elf_image.proofs.SymbolLoops.{IsSearched}
use Rattle.elf_image.proofs.symbols.symbol_table.Given as goal

abbrev pub invariant-loop-index : goal.invariant-loop-index
invariant-loop-index l = IsSearched l.file l.index
