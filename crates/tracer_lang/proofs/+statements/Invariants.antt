use Rattle.std.proofs.Common.{◌≤◌}
use Rattle.tracer_lang.specs.declared.tree.Block.{size-Block}
use Rattle.tracer_lang.proofs.+statements.Given as goal

-- what is left is a part of what there was
abbrev pub invariant-tree::Block::drop-loop-self : goal.invariant-tree::Block::drop-loop-self
invariant-tree::Block::drop-loop-self l = size-Block l.self ≤ size-Block l.initial.self
