use Rattle.std.specs.Prelude.{Some}
use Rattle.std.proofs.Common.{◌≡◌, ◌-◌, ◌≤◌, true}
use Rattle.sl_model.specs.Marks.{MarksGoOn}
use Rattle.sl_model.specs.State.{Fits}
use Rattle.rv_machine.specs.Machine.{state_of}
use Rattle.replay.specs.Run.{run_from}
use Rattle.call_recorder.proofs.recutting.replay_to.Given as goal

abbrev pub invariant-loop : goal.invariant-loop
invariant-loop g l = record {
  fits : Fits (state_of l.m l.f.pages);
  from : l.fn.m.count ≤ l.counter;
  count : l.m.count ≡ l.counter;
  run : run_from l.rec (state_of l.fn.m l.fn.f.pages) (l.counter - l.fn.m.count) ≡ Some (state_of l.m l.f.pages);
  marks : MarksGoOn true l.fn.f.pages l.fn.f.dirty l.f.pages l.f.dirty;
}
