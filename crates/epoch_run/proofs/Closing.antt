-- Where an epoch does not break at the recorded end, its tracers fire at a program that runs.
use Rattle.std.proofs.Common.{◌≡◌, ℕ, Option, Some, None, refl, sym, ◌∙◌, eq-eqb}
use Rattle.std.specs.Option.{option_or}
use Rattle.sl_model.specs.declared.run_state.RunState.{RunState}
use Rattle.sl_model.specs.declared.run_state.RunState.TheVariants.{Running, Exited}
use Rattle.sl_model.specs.State.{State}
use Rattle.sl_model.specs.Step.{step, trap_of}
use Rattle.call_log.specs.declared.breaks.BreakKind.{BreakKind}
use Rattle.call_log.specs.declared.entry.End.{End}
use Rattle.call_log.specs.declared.entry.End.TheVariants as end
use Rattle.rec_format.specs.declared.recording.Recording.{Recording}
use Rattle.rec_format.specs.Recorded.{end_place}
use Rattle.replay.specs.Breaks.{at_count, replayed_end, end_differs, end_break, calls_left}
use Rattle.epoch_run.specs.Epochs.{closing_break}
use Rattle.epoch_run.specs.Firings.{RunsAtEnd}

-- a replay that ends as it is recorded
ends-running : (recorded : End) (status : RunState) (trap : Option ℕ) (after : Option BreakKind) → option_or (end_differs recorded (replayed_end recorded status trap)) after ≡ None → RunsAtEnd recorded status
ends-running (end.Exited code) status trap after none = tt
ends-running end.Stopped status trap after none = tt
ends-running (end.Trapped number) Running trap after none = refl
ends-running (end.Trapped number) (Exited code) trap after none = absurd cc

-- no break is told where none is
kind-none : (s : State) (kind : Option BreakKind) → at_count s kind ≡ None → kind ≡ None
kind-none s None none = refl
kind-none s (Some kind) none = absurd cc

second-none : (first second : Option BreakKind) → option_or first second ≡ None → second ≡ None
second-none None second none = none
second-none (Some kind) second none = absurd cc

-- at the end's checkpoint
pub closes-running : (rec : Recording) (k : ℕ) (s : State) (compared : Option BreakKind) → at_count s (option_or compared (closing_break rec k s)) ≡ None → k ≡ end_place rec → RunsAtEnd rec.end s.status
closes-running rec k s compared none last =
    let closing : closing_break rec k s ≡ None = second-none compared (closing_break rec k s) (kind-none s _ none) in
    let at_end : closing_break rec k s ≡ end_break rec s = rw (eq-eqb k (end_place rec) last) refl in
    ends-running rec.end s.status (trap_of (step s)) (calls_left rec s) (sym at_end ∙ closing)
