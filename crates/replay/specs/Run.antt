-- The run of a recording from its first instruction.
use Rattle.std.specs.Prelude.{ℕ, zero, suc, Option, Some, None, slice_get}
use Rattle.sl_model.specs.declared.run_state.RunState.{RunState}
use Rattle.sl_model.specs.declared.run_state.RunState.TheVariants.{Running, Exited}
use Rattle.sl_model.specs.State.{State}
use Rattle.sl_model.specs.Step.{Next, Stepped, Called, Trapped, step}
use Rattle.call_log.specs.declared.ask.Ask.{Ask}
use Rattle.call_log.specs.declared.ask.CallDiff.{CallDiff}
use Rattle.call_log.specs.declared.entry.CallEntry.{CallEntry}
use Rattle.call_log.specs.declared.breaks.BreakKind.{BreakKind}
use Rattle.call_log.specs.declared.breaks.BreakKind.TheVariants.{NoCall, CallDiffers, EarlyEnd}
use Rattle.call_log.specs.Differences.{first_difference}
use Rattle.rec_format.specs.declared.recording.Recording.{Recording}
use Rattle.replay.specs.Calls.{ask_of, exited, answered}

-- what comes of the next instruction in a replay
pub data Onward : Type 0 where
  Goes : (state : State) → Onward
  Breaks : (kind : BreakKind) → Onward

-- a recorded call, where it does not differ
abbrev pub matched : State → CallEntry → Option CallDiff → Onward
matched s entry None = Goes (answered s entry)
matched s entry (Some diff) = Breaks (CallDiffers s.next_call diff.field diff.recorded diff.due)

abbrev pub called : State → Ask → Option CallEntry → Onward
called s ask None = Breaks (NoCall s.next_call)
called s ask (Some entry) = matched s entry (first_difference entry ask)

-- an ECALL: a program exits by itself, and every other call has the next recorded answer
abbrev pub asked : Recording → State → Option Ask → Onward
asked rec s None = Goes (exited s)
asked rec s (Some ask) = called s ask (slice_get rec.calls s.next_call)

abbrev pub stepped : Recording → State → Next → Onward
stepped rec s (Stepped state) = Goes state
stepped rec s Called = asked rec s (ask_of s)
stepped rec s (Trapped number) = Breaks (EarlyEnd rec.last.count)

abbrev pub onward_in : Recording → State → RunState → Onward
onward_in rec s Running = stepped rec s (step s)
onward_in rec s (Exited code) = Breaks (EarlyEnd rec.last.count)

-- the next instruction, below the recorded end
unfoldable pub onward : Recording → State → Onward
onward rec s = onward_in rec s s.status

-- what follows the next instruction, where it does not break
abbrev pub state_after : (State → Option State) → Onward → Option State
state_after follow (Goes t) = follow t
state_after follow (Breaks kind) = None

-- so many instructions on from a state, as far as none breaks
unfoldable pub run_from : Recording → State → ℕ → Option State
run_from rec s zero = Some s
run_from rec s (suc n) = state_after (λ t. run_from rec t n) (onward rec s)
