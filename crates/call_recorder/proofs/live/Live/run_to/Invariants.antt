use Rattle.std.proofs.Common.{◌≡◌, ◌≤◌, true}
use Rattle.outside.specs.World.{HearsAll}
use Rattle.sl_model.specs.State.{State}
use Rattle.sl_model.specs.Marks.{MarksGoOn}
use Rattle.call_recorder.specs.Lives.{GoesOn, ComesSoFar, Begins}
use Rattle.call_recorder.proofs.live.Live.run_to.Given as goal

abbrev pub invariant-loop : goal.invariant-loop
invariant-loop g l = record {
  goes : GoesOn l.self;
  calls : Begins l.fn.self.calls l.self.calls;
  from : l.fn.self.machine.count ≤ l.counter;
  count : l.self.machine.count ≡ l.counter;
  kept : (opened : State) (before : g.row.W.Denot) → ComesSoFar opened (HearsAll g.W.World.hears before l.fn.world) l.fn.self → ComesSoFar opened (HearsAll g.W.World.hears before l.world) l.self;
  marks : MarksGoOn true l.fn.self.memory.pages l.fn.self.memory.dirty l.self.memory.pages l.self.memory.dirty;
}
