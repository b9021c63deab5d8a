use Rattle.std.specs.Prelude.{Some, []}
use Rattle.std.proofs.Common.{◌≡◌, ℕ, ◌+◌, ◌-◌, ◌*◌, ◌≤◌}
use Rattle.sl_model.specs.State.{Fits}
use Rattle.rv_machine.specs.Machine.{state_of}
use Rattle.replay.specs.Run.{run_from}
use Rattle.call_recorder.specs.Recut.{first_states}
use Rattle.call_recorder.specs.Kept.{AreKept}
use Rattle.call_recorder.proofs.recutting.replay_on.Given as goal

abbrev pub invariant-loop-next : goal.invariant-loop-next
invariant-loop-next g l = record {
  offers : ℕ;
  next : l.next ≡ (offers + 1) * l.every;
  fits : Fits (state_of l.m l.f.pages);
  count : l.m.count ≡ offers * l.every;
  within : l.m.count ≤ l.rec.last.count;
  run : run_from l.rec (state_of l.fn.m l.fn.f.pages) l.m.count ≡ Some (state_of l.m l.f.pages);
  are : AreKept l.fn.f.pages [] l.fn.kept l.fn.f → AreKept l.fn.f.pages (first_states l.rec (state_of l.fn.m l.fn.f.pages) l.every offers) l.kept l.f;
}

abbrev pub decreases-loop-next : goal.decreases-loop-next
decreases-loop-next g l = l.rec.last.count - l.next
