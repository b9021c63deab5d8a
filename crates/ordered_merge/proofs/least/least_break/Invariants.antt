use Rattle.std.proofs.Common.{take}
use Rattle.ordered_merge.specs.Least.{IsLeast}
use Rattle.ordered_merge.proofs.least.least_break.Given as goal

abbrev pub invariant-loop-post : goal.invariant-loop-post
invariant-loop-post l = IsLeast (take l.post-index l.posts) l.least
