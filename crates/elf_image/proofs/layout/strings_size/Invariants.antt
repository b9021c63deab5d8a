use Rattle.std.proofs.Common.{◌≡◌, ◌+◌, length, drop}
use Rattle.elf_image.specs.Written.{names}
use Rattle.elf_image.proofs.layout.strings_size.Given as goal

abbrev pub invariant-loop-symbol : goal.invariant-loop-symbol
invariant-loop-symbol l = l.size + length (names (drop l.symbol-index l.symbols)) ≡ 1 + length (names l.symbols)
