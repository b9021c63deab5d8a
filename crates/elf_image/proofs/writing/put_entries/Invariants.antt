use Rattle.std.proofs.Common.{◌≡◌, ◌+◌, ◌++◌, length, drop}
use Rattle.elf_image.specs.Written.{names, entries_of}
use Rattle.elf_image.proofs.writing.put_entries.Given as goal

-- the entries that are left name what stands behind the names of those before
abbrev pub invariant-loop-symbol : goal.invariant-loop-symbol
invariant-loop-symbol l = record {
  name : l.name + length (names (drop l.symbol-index l.symbols)) ≡ l.start + length (names l.symbols);
  written : l.out.items ++ entries_of l.name (drop l.symbol-index l.symbols) ≡ l.initial.out.items ++ entries_of l.start l.symbols;
}
