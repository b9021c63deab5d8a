use Rattle.std.proofs.Common.{◌≡◌, ◌+◌}
use Rattle.sl_model.specs.Marks.{MarksGoOn}
use Rattle.sl_model.specs.declared.run_state.RunState.TheVariants.{Running}
use Rattle.rv_machine.specs.Machine.{state_of}
use Rattle.undo_isolation.specs.Run.{CameTo, NoEndBefore}
use Rattle.undo_isolation.proofs.run.run_to_end.Given as goal

abbrev pub invariant-loop : goal.invariant-loop
invariant-loop g l = record {
  came : CameTo l.counter (state_of l.fn.m (g.B.Bus.pages l.fn.bus)) (state_of l.m (g.B.Bus.pages l.bus)) l.fn.steps l.steps;
  none : NoEndBefore l.counter (state_of l.fn.m (g.B.Bus.pages l.fn.bus));
  running : l.m.status ≡ Running;
  count : l.m.count ≡ l.fn.m.count + l.counter;
  marking : g.B.Bus.is_marking l.bus ≡ g.B.Bus.is_marking l.fn.bus;
  fixed : g.B.Bus.fixed l.bus ≡ g.B.Bus.fixed l.fn.bus;
  marks : MarksGoOn (g.B.Bus.is_marking l.fn.bus) (g.B.Bus.pages l.fn.bus) (g.B.Bus.marked l.fn.bus) (g.B.Bus.pages l.bus) (g.B.Bus.marked l.bus);
}
