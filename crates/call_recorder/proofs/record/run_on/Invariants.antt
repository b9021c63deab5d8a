use Rattle.std.specs.Prelude.{[]}
use Rattle.std.proofs.Common.{◌≡◌, ℕ, ◌+◌, ◌-◌, ◌*◌, ◌≤◌}
use Rattle.outside.specs.World.{HearsAll}
use Rattle.sl_model.specs.State.{State}
use Rattle.call_log.specs.declared.entry.CallEntry.{CallEntry}
use Rattle.rec_format.specs.declared.recording.Recording.{Recording}
use Rattle.call_recorder.specs.Kept.{AreKept}
use Rattle.call_recorder.specs.Lives.{GoesOn, ComesSoFar, KeptTo}
use Rattle.call_recorder.proofs.record.run_on.Given as goal

abbrev pub invariant-loop-next : goal.invariant-loop-next
invariant-loop-next g l = record {
  offers : ℕ;
  next : l.next ≡ (offers + 1) * l.every;
  goes : GoesOn l.live;
  count : l.live.machine.count ≡ offers * l.every;
  within : l.live.machine.count ≤ l.limit;
  comes : (opened : State) (before : g.row.W.Denot) → ComesSoFar opened (HearsAll g.W.World.hears before l.fn.world) l.fn.live → ComesSoFar opened (HearsAll g.W.World.hears before l.world) l.live;
  kept : (opened : State) (before : g.row.W.Denot) → ComesSoFar opened (HearsAll g.W.World.hears before l.fn.world) l.fn.live → AreKept opened.pages [] l.fn.kept l.fn.live.memory → KeptTo opened l.every l.live l.kept offers;
}

abbrev pub decreases-loop-next : goal.decreases-loop-next
decreases-loop-next g l = l.limit - l.next
