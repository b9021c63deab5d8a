use Rattle.std.proofs.Common.{◌≡◌, ◌++◌, ◌-◌}
use Rattle.tracer_compile.specs.Blocks.{zeros}
use Rattle.tracer_compile.proofs.blocks.zeros.Given as goal

abbrev pub invariant-loop : goal.invariant-loop
invariant-loop l =
    l.code.items ++ zeros (l.count - l.counter) ≡ l.initial.code.items ++ zeros l.count
