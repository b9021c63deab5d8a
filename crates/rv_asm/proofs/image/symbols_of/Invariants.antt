use Rattle.std.proofs.Common.{◌≡◌, map}
use Rattle.rv_asm.specs.Assembly.{symbol_of}
use Rattle.rv_asm.proofs.image.symbols_of.Given as goal

abbrev pub invariant-loop-label : goal.invariant-loop-label
invariant-loop-label l = l.symbols.items ≡ map (symbol_of l.data_start) l.yielded
