use Rattle.std.proofs.Common.{◌≤◌}
use Rattle.tracer_lang.specs.declared.tree.Args.{size-Args}
use Rattle.tracer_lang.proofs.+expressions.Given as goal

-- what is left is a part of what there was
abbrev pub invariant-tree::Args::drop-loop-self : goal.invariant-tree::Args::drop-loop-self
invariant-tree::Args::drop-loop-self l = size-Args l.self ≤ size-Args l.initial.self
