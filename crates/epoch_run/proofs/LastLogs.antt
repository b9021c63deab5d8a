-- The log of the last tracer, from one place of a run to the next one.
use Rattle.std.proofs.Common.{◌≡◌, ℕ, ◌+◌, inl, inr, List, [], refl, sym, subst, ◌∙◌}
use Rattle.std.specs.Prelude.{Result, Ok, Err, IfOk, slice_index}
use Rattle.sl_base.specs.Refusals.{Tells}
use Rattle.sl_base.specs.declared.refused.Refused.{Refused}
use Rattle.sl_base.specs.declared.refused.Refused.TheVariants as refused
use Rattle.sl_model.specs.State.{State}
use Rattle.call_log.specs.declared.breaks.Break.{Break}
use Rattle.rec_format.specs.declared.recording.Recording.{Recording}
use Rattle.tracer_lang.specs.declared.record.Record.{Record}
use Rattle.tracer_lang.specs.Tree.{ScriptTree}
use Rattle.tracer_lang.specs.Script.{tree_of}
use Rattle.replay.specs.Run.{onward, Goes}
use Rattle.rec_format.specs.Recorded.{recorded_state}
use Rattle.checkpoints.specs.RecordedRun.{opened_of}
use Rattle.epoch_core.specs.declared.post.PostValue.{PostValue}
use Rattle.epoch_run.specs.declared.plan.Plan.{Plan}
use Rattle.epoch_run.specs.Plans.{posted}
use Rattle.epoch_run.specs.LastLogs.{FiredAt, IsOnRun, TellsLast, IsLogged, LogAfter}
use Rattle.epoch_run.proofs.Arrived.{run-zero, run-suc, run-add}

-- ---- where a run comes

pub on_run-first : (rec : Recording) (s : State) → IsOnRun rec s s
on_run-first rec s = record { steps = 0; comes = run-zero rec s }

pub on_run-next : (rec : Recording) (first s t : State) → onward rec s ≡ Goes t → IsOnRun rec first s → IsOnRun rec first t
on_run-next rec first s t goes on = record {
  steps = on.steps + 1;
  comes = run-add rec on.steps 1 (on.steps + 1) first s refl on.comes ∙ run-suc rec s t 0 goes ∙ run-zero rec t;
}

-- ---- what is told of the log

pub logged-first : (rec : Recording) (script : ScriptTree) (s : State) (entries : ℕ) → IsLogged rec script s s [] entries
logged-first rec script s entries = record { on_run = on_run-first rec s; last = λ some. absurd (some refl) }

-- after the tracers at a state
pub logged-fired : (rec : Recording) (script : ScriptTree) (first s : State) (old new : List Record) (entries entries' : ℕ) → FiredAt script s old new entries entries' → IsLogged rec script first s old entries → IsLogged rec script first s new entries'
logged-fired rec script first s old new entries entries' (inl stays) logged = record {
  on_run = logged.on_run;
  last = subst (λ (left : List Record). TellsLast rec script first left entries') (sym stays.records)
      (subst (TellsLast rec script first old) (sym stays.logged) logged.last);
}
logged-fired rec script first s old new entries entries' (inr last) logged = record {
  on_run = logged.on_run;
  last = λ some. record { state = s; on_run = logged.on_run; last = last };
}

-- and after an instruction
pub logged-next : (rec : Recording) (script : ScriptTree) (first s t : State) (left : List Record) (entries : ℕ) → onward rec s ≡ Goes t → IsLogged rec script first s left entries → IsLogged rec script first t left entries
logged-next rec script first s t left entries goes logged = record { on_run = on_run-next rec first s t goes logged.on_run; last = logged.last }

-- at an equal state
pub logged-at : (rec : Recording) (script : ScriptTree) (first s t : State) (left : List Record) (entries : ℕ) → t ≡ s → IsLogged rec script first s left entries → IsLogged rec script first t left entries
logged-at rec script first s t left entries same logged =
    subst (λ (u : State). IsLogged rec script first u left entries) (sym same) logged

-- ---- what is posted of it

module _ (plan : Plan) (k entries : ℕ) where
  abbrev pub LogsOf : List Record → Type 0
  LogsOf records =
      TellsLast plan.checkpoints.rec (tree_of plan.tracers.script)
      (recorded_state plan.checkpoints.rec (opened_of plan.checkpoints) (slice_index plan.cutting k))
      records entries

  pub log-posted : (came : Result (List Record) (Refused Break)) (value : PostValue) → ((due : Result (List Record) Break) → Tells came due → value ≡ posted plan.kinds due) → IfOk came LogsOf → LogAfter plan k value entries
  log-posted (Ok records) value is told = subst (λ v. LogAfter plan k v entries) (sym (is (Ok records) refl)) told
  log-posted (Err (refused.Fault broken)) value is told = subst (λ v. LogAfter plan k v entries) (sym (is (Err broken) refl)) tt
  log-posted (Err refused.Memory) value is told = subst (λ v. LogAfter plan k v entries) (sym (is (Ok []) tt)) (λ some. absurd (some refl))
