use Rattle.std.proofs.Common.{sym, ◌∙◌}
use Rattle.tracer_lang.specs.Tree.{arguments_of}
use Rattle.tracer_read.proofs.Chains.{last_argument}
use Rattle.tracer_read.proofs.expressions.chained.Goals as goal

pub loop-last-preserved : goal.loop-last-preserved
loop-last-preserved c =
    let before = last_argument c.loop-last.read.items c.pop.new.self.items c.in-Some.last
    (arguments_of c.loop-last.args) c.in-Some.ensures.items in
    rw (c.in_ok-new.ensures.ok, c.in_ok-new-2.ensures.ok) (sym before ∙ c.loop-last.invariant)
