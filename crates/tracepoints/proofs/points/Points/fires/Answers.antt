use Rattle.std.proofs.Common.{sym, ◌∙◌}
use Rattle.rv_machine.specs.Machine.{state_of}
use Rattle.sl_model.specs.NextStore.{next_store}
use Rattle.tracepoints.proofs.Walks.{quiet, none_both}
use Rattle.tracepoints.proofs.points.Points.fires.Goals as goal

pub returns-else-may_fire : goal.returns-else-may_fire
returns-else-may_fire c =
    let s = state_of c.args.m.now c.args.f.now.pages in
    let none = none_both _ _ (sym c.may_fire.ensures ∙ c.if-may_fire.false) in
    c.clear.ensures ∙ sym (quiet c.args.self.now s.pc (next_store s) none.0 none.1)
