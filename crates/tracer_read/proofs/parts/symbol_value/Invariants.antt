use Rattle.std.proofs.Common.{◌≡◌, drop}
use Rattle.tracer_read.specs.Parts.{symbol_value}
use Rattle.tracer_read.proofs.parts.symbol_value.Given as goal

abbrev pub invariant-loop-symbol : goal.invariant-loop-symbol
invariant-loop-symbol l =
    symbol_value (drop l.symbol-index l.symbols) l.name ≡ symbol_value l.symbols l.name
