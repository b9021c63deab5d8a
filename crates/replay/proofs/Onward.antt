-- The next instruction of a replay, by what the machine does.
use Rattle.std.specs.Prelude.{slice_get}
use Rattle.std.proofs.Common.{◌≡◌, ℕ, Option, Some, None, sym, ap, subst, ◌∙◌}
use Rattle.sl_model.specs.declared.run_state.RunState.TheVariants.{Running, Exited}
use Rattle.sl_model.specs.State.{State}
use Rattle.sl_model.specs.Step.{Stepped, Called, Trapped, step}
use Rattle.call_log.specs.declared.breaks.BreakKind.TheVariants.{NoCall, CallDiffers, EarlyEnd}
use Rattle.call_log.specs.declared.ask.Ask.{Ask}
use Rattle.call_log.specs.declared.ask.CallDiff.{CallDiff}
use Rattle.call_log.specs.declared.entry.CallEntry.{CallEntry}
use Rattle.call_log.specs.Differences.{first_difference}
use Rattle.rec_format.specs.declared.recording.Recording.{Recording}
use Rattle.replay.specs.Calls.{ask_of, exited, answered, IsAnswerTo, IsDue}
use Rattle.replay.specs.Run.{Goes, Breaks, onward, onward_in, stepped, asked, called, matched}

pub onward_stepped : (rec : Recording) (s t : State) → s.status ≡ Running → step s ≡ Stepped t → onward rec s ≡ Goes t
unfolding onward
onward_stepped rec s t runs e = ap (onward_in rec s) runs ∙ ap (stepped rec s) e

pub onward_trapped : (rec : Recording) (s : State) (n : ℕ) → s.status ≡ Running → step s ≡ Trapped n → onward rec s ≡ Breaks (EarlyEnd rec.last.count)
unfolding onward
onward_trapped rec s n runs e = ap (onward_in rec s) runs ∙ ap (stepped rec s) e

pub onward_over : (rec : Recording) (s : State) (code : ℕ) → s.status ≡ Exited code → onward rec s ≡ Breaks (EarlyEnd rec.last.count)
unfolding onward
onward_over rec s code over = ap (onward_in rec s) over

pub onward_called : (rec : Recording) (s : State) → s.status ≡ Running → step s ≡ Called → onward rec s ≡ asked rec s (ask_of s)
unfolding onward
onward_called rec s runs e = ap (onward_in rec s) runs ∙ ap (stepped rec s) e

-- ---- an ECALL, by what the recording has for it

pub asked_exit : (rec : Recording) (s : State) → ask_of s ≡ None → asked rec s (ask_of s) ≡ Goes (exited s)
asked_exit rec s none = ap (asked rec s) none

pub asked_no_entry : (rec : Recording) (s : State) (ask : Ask) → ask_of s ≡ Some ask → slice_get rec.calls s.next_call ≡ None → asked rec s (ask_of s) ≡ Breaks (NoCall s.next_call)
asked_no_entry rec s ask asks none = ap (asked rec s) asks ∙ ap (called s ask) none

pub asked_differs : (rec : Recording) (s : State) (ask : Ask) (entry : CallEntry) (diff : CallDiff) → ask_of s ≡ Some ask → slice_get rec.calls s.next_call ≡ Some entry → first_difference entry ask ≡ Some diff
    → asked rec s (ask_of s) ≡ Breaks (CallDiffers s.next_call diff.field diff.recorded diff.due)
asked_differs rec s ask entry diff asks found differs = ap (asked rec s) asks ∙ ap (called s ask) found ∙ ap (matched s entry) differs

pub asked_due : (rec : Recording) (s : State) (ask : Ask) (entry : CallEntry) → ask_of s ≡ Some ask → slice_get rec.calls s.next_call ≡ Some entry → first_difference entry ask ≡ None → asked rec s (ask_of s) ≡ Goes (answered s entry)
asked_due rec s ask entry asks found same = ap (asked rec s) asks ∙ ap (called s ask) found ∙ ap (matched s entry) same

pub is_due : (s : State) (ask : Ask) (entry : CallEntry) → ask_of s ≡ Some ask → first_difference entry ask ≡ None → IsDue s entry
is_due s ask entry asks same = subst (λ (o : Option Ask). IsAnswerTo o entry) (sym asks) same
