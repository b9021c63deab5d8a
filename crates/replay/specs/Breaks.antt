-- Where a replay first differs from its recording.
use Rattle.std.specs.Prelude.{ℕ, zero, suc, ◌+◌, ◌==◌, Bool, true, false, List, [], ◌∷◌, length, Option, Some, None, nat_lt, if◌then◌else◌}
use Rattle.std.specs.Option.{option_or}
use Rattle.sl_model.specs.declared.run_state.RunState.{RunState}
use Rattle.sl_model.specs.declared.run_state.RunState.TheVariants.{Running, Exited}
use Rattle.sl_model.specs.Pages.{Pages}
use Rattle.sl_model.specs.State.{State}
use Rattle.sl_model.specs.Step.{step, trap_of}
use Rattle.call_log.specs.declared.entry.End.{End}
use Rattle.call_log.specs.declared.entry.End.TheVariants as end
use Rattle.call_log.specs.declared.breaks.Break.{Break}
use Rattle.call_log.specs.declared.breaks.BreakKind.{BreakKind}
use Rattle.call_log.specs.declared.breaks.BreakKind.TheVariants.{EndDiffers, CallsLeft}
use Rattle.rec_format.specs.declared.recording.Recording.{Recording}
use Rattle.rec_format.specs.declared.recording.CheckpointData.{CheckpointData}
use Rattle.rec_format.specs.Recorded.{end_place}
use Rattle.rec_format.specs.Compared.{checkpoint_break}
use Rattle.replay.specs.Run.{Onward, Goes, Breaks, onward}

-- ---- checkpoints

-- how a state differs from whichever of some checkpoints is at its count, the first of them being
-- checkpoint k
abbrev pub listed_break : Pages → Recording → ℕ → List CheckpointData → State → Option BreakKind
listed_break opened rec k [] s = None
listed_break opened rec k (checkpoint ∷ checkpoints) s =
    let here = checkpoint_break opened rec k checkpoint s in
    option_or (if checkpoint.count == s.count then here else None)
    (listed_break opened rec (k + 1) checkpoints s)

-- ---- the end

-- how a replay ended beside a recorded trap, by the trap of its next instruction
abbrev pub replayed_trap : Option ℕ → End
replayed_trap (Some number) = end.Trapped number
replayed_trap None = end.Stopped

-- how it ended, beside the recorded end
abbrev pub replayed_end : End → RunState → Option ℕ → End
replayed_end recorded (Exited code) trap = end.Exited code
replayed_end (end.Trapped number) Running trap = replayed_trap trap
replayed_end (end.Exited code) Running trap = end.Stopped
replayed_end end.Stopped Running trap = end.Stopped

abbrev pub same_end : End → End → Bool
same_end (end.Exited a) (end.Exited b) = a == b
same_end (end.Trapped a) (end.Trapped b) = a == b
same_end end.Stopped end.Stopped = true
same_end _ _ = false

abbrev pub end_differs : End → End → Option BreakKind
end_differs recorded replayed =
    if same_end recorded replayed then None else Some (EndDiffers recorded replayed)

abbrev pub calls_left : Recording → State → Option BreakKind
calls_left rec s =
    if nat_lt s.next_call (length rec.calls) then Some (CallsLeft s.next_call) else None

-- the end and the calls, at the recorded end
abbrev pub end_break : Recording → State → Option BreakKind
end_break rec s =
    option_or (end_differs rec.end (replayed_end rec.end s.status (trap_of (step s))))
    (calls_left rec s)

-- ---- the first break

abbrev pub at_count : State → Option BreakKind → Option Break
at_count s None = None
at_count s (Some kind) = Some (record { count = s.count; kind = kind })

-- the break of a checkpoint, and else what follows
abbrev pub listed_or : State → Option BreakKind → Option Break → Option Break
listed_or s None follow = follow
listed_or s (Some kind) follow = at_count s (Some kind)

-- the break of the next instruction, and else what follows it
abbrev pub break_after : State → (State → Option Break) → Onward → Option Break
break_after s follow (Goes t) = follow t
break_after s follow (Breaks kind) = at_count s (Some kind)

-- The first break from a state on with so many instructions left before the recorded end. At each
-- count the checkpoint is tried, and then the next instruction or, at the end, the end and the
-- calls.
unfoldable pub first_break_from : Pages → Recording → State → ℕ → Option Break
first_break_from opened rec s zero =
    at_count s
    (option_or (checkpoint_break opened rec (end_place rec) rec.last s) (end_break rec s))
first_break_from opened rec s (suc n) =
    listed_or s (listed_break opened rec 1 rec.checkpoints s)
    (break_after s (λ t. first_break_from opened rec t n) (onward rec s))

-- the first break of a recording that is replayed from this state
abbrev pub first_break : Recording → State → Option Break
first_break rec opened = first_break_from opened.pages rec opened rec.last.count
