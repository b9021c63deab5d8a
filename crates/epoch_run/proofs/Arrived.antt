-- An epoch that does not break comes to the recorded state of its second checkpoint, and its records go on from there.
use Rattle.std.proofs.Common.{◌≡◌, ℕ, zero, suc, ◌+◌, ◌<◌, List, [], ◌++◌, Option, Some, None, refl, sym, ap, ◌∙◌, append_assoc, arith, ne_eqb}
use Rattle.std.specs.Option.{option_or}
use Rattle.sl_model.specs.declared.run_state.RunState.{RunState}
use Rattle.sl_model.specs.declared.run_state.RunState.TheVariants.{Running, Exited}
use Rattle.sl_model.specs.Pages.{Pages}
use Rattle.sl_model.specs.State.{State}
use Rattle.call_log.specs.declared.breaks.BreakKind.{BreakKind}
use Rattle.tracer_lang.specs.declared.record.Record.{Record}
use Rattle.rec_format.specs.Rules.{IsRecordingValue}
use Rattle.rec_format.specs.declared.recording.Recording.{Recording}
use Rattle.replay.specs.Run.{Onward, Goes, Breaks, onward, state_after, run_from}
use Rattle.replay.specs.Breaks.{listed_break, at_count, listed_or, break_after}
use Rattle.rec_format.specs.Recorded.{end_place, checkpoint_at, recorded_state, recorded_count}
use Rattle.rec_format.specs.Compared.{PartDiff, checkpoint_diff, checkpoint_break, as_checkpoint_break}
use Rattle.epoch_run.specs.Records.{Tracers, records_after}
use Rattle.epoch_run.specs.Epochs.{between, early_exit, closing_break, epoch_break_from, epoch_records_from}
use Rattle.sl_model.specs.State.{IsOpening}
use Rattle.rec_format.proofs.InRun.{IsInRun}
use Rattle.replay.proofs.InRun.{IsInRun-onward}
use Rattle.rec_format.proofs.SameState.{same_state}

-- ---- where an epoch does not break

closing_is : (rec : Recording) (b : ℕ) (s : State) → b < end_place rec → closing_break rec b s ≡ early_exit rec s.status
closing_is rec b s inner = rw (ne_eqb b (end_place rec) (λ same. absurd (omega arith))) refl

arrived : (opened : State) (rec : Recording) (b : ℕ) (s : State) (diff : Option PartDiff) (status : RunState) → IsRecordingValue rec → IsOpening opened → IsInRun opened s → 0 < b → s.count ≡ recorded_count rec b
    → checkpoint_diff opened.pages rec b (checkpoint_at rec b) s ≡ diff → s.status ≡ status → at_count s (option_or (as_checkpoint_break b diff) (early_exit rec status)) ≡ None → s ≡ recorded_state rec opened b
arrived opened rec b s (Some diff) status is opens runs some count same running none = absurd cc
arrived opened rec b s None (Exited code) is opens runs some count same running none = absurd cc
arrived opened rec b s None Running is opens runs some count same running none = same_state rec opened b s is opens runs some running count same

pub arrives : (opened : State) (rec : Recording) (a b : ℕ) (s : State) → IsRecordingValue rec → IsOpening opened → IsInRun opened s → 0 < b → b < end_place rec → s.count ≡ recorded_count rec b
    → epoch_break_from opened.pages rec a b s 0 ≡ None → s ≡ recorded_state rec opened b
unfolding epoch_break_from
arrives opened rec a b s is opens runs some inner count none =
    arrived opened rec b s (checkpoint_diff opened.pages rec b (checkpoint_at rec b) s) s.status is opens runs some count refl refl
    (ap (λ closing. at_count s (option_or (checkpoint_break opened.pages rec b (checkpoint_at rec b) s) closing)) (sym (closing_is rec b s inner)) ∙ none)

-- the state after the next instruction, from which the epoch does not break either
pub record Onto (opened : Pages) (rec : Recording) (a b n : ℕ) (s : State) : Type 0 where
  pub state : State
  pub goes : onward rec s ≡ Goes state
  pub none : epoch_break_from opened rec a b state n ≡ None

onto : (opened : Pages) (rec : Recording) (a b n : ℕ) (s : State) (listed : Option BreakKind) (on : Onward) → onward rec s ≡ on → listed_or s listed (break_after s (λ t. epoch_break_from opened rec a b t n) on) ≡ None → Onto opened rec a b n s
onto opened rec a b n s (Some kind) on is none = absurd cc
onto opened rec a b n s None (Goes t) is none = record { state = t; goes = is; none = none }
onto opened rec a b n s None (Breaks kind) is none = absurd cc

pub goes_onto : (opened : Pages) (rec : Recording) (a b n : ℕ) (s : State) → epoch_break_from opened rec a b s (suc n) ≡ None → Onto opened rec a b n s
unfolding epoch_break_from
goes_onto opened rec a b n s none = onto opened rec a b n s (listed_break opened rec (a + 1) (between rec a b) s) (onward rec s) refl none

-- ---- the run

pub run-suc : (rec : Recording) (s t : State) (n : ℕ) → onward rec s ≡ Goes t → run_from rec s (suc n) ≡ run_from rec t n
unfolding run_from
run-suc rec s t n goes = ap (state_after (λ u. run_from rec u n)) goes

pub run-zero : (rec : Recording) (s : State) → run_from rec s 0 ≡ Some s
unfolding run_from
run-zero rec s = refl

pub run-arrives : (opened : State) (rec : Recording) (a b n : ℕ) (s : State) → IsRecordingValue rec → IsOpening opened → IsInRun opened s → 0 < b → b < end_place rec → s.count + n ≡ recorded_count rec b
    → epoch_break_from opened.pages rec a b s n ≡ None → run_from rec s n ≡ Some (recorded_state rec opened b)
run-arrives opened rec a b zero s is opens runs some inner count none =
    run-zero rec s ∙ ap Some (arrives opened rec a b s is opens runs some inner (omega arith) none)
run-arrives opened rec a b (suc n) s is opens runs some inner count none =
    let on = goes_onto opened.pages rec a b n s none in
    let next = IsInRun-onward rec opened s on.state opens runs on.goes in
    run-suc rec s on.state n on.goes ∙ run-arrives opened rec a b n on.state is opens next.in_run some inner (omega (arith, next.count)) on.none

-- so many instructions, and then more
followed : (rec : Recording) (s t : State) (n m all : ℕ) (on : Onward) → onward rec s ≡ on → ((u : State) → run_from rec u n ≡ Some t → run_from rec u all ≡ run_from rec t m) → run_from rec s (suc n) ≡ Some t → run_from rec s (suc all) ≡ run_from rec t m
unfolding run_from
followed rec s t n m all (Goes u) is rest arrives = run-suc rec s u all is ∙ rest u (sym (run-suc rec s u n is) ∙ arrives)
followed rec s t n m all (Breaks kind) is rest arrives =
    let stops : None ≡ Some t = sym (ap (state_after (λ u. run_from rec u n)) is) ∙ arrives in
    absurd cc

pub run-add : (rec : Recording) (n m all : ℕ) (s t : State) → all ≡ n + m → run_from rec s n ≡ Some t → run_from rec s all ≡ run_from rec t m
run-add rec zero m all s t sum arrives =
    let same : s ≡ t = cc (run-zero rec s) in
    let number : all ≡ m = omega arith in
    ap (run_from rec s) number ∙ ap (λ (u : State). run_from rec u m) same
run-add rec (suc n) m zero s t sum arrives = absurd (omega arith)
run-add rec (suc n) m (suc all) s t sum arrives = followed rec s t n m all (onward rec s) refl (λ u there. run-add rec n m all u t (omega arith) there) arrives

-- ---- the records

pub records-suc : (rec : Recording) (tracers : Tracers) (b : ℕ) (s t : State) (n : ℕ) → onward rec s ≡ Goes t → epoch_records_from rec tracers b s (suc n) ≡ tracers s ++ epoch_records_from rec tracers b t n
unfolding epoch_records_from
records-suc rec tracers b s t n goes = ap (λ on. tracers s ++ records_after (λ u. epoch_records_from rec tracers b u n) on) goes

records-zero : (rec : Recording) (tracers : Tracers) (b : ℕ) (s : State) → b < end_place rec → epoch_records_from rec tracers b s 0 ≡ []
unfolding epoch_records_from
records-zero rec tracers b s inner = rw (ne_eqb b (end_place rec) (λ same. absurd (omega arith))) refl

pub records-joined : (opened : State) (rec : Recording) (tracers : Tracers) (a b c n m all : ℕ) (s : State) → IsRecordingValue rec → IsOpening opened → IsInRun opened s → 0 < b → b < end_place rec → s.count + n ≡ recorded_count rec b → all ≡ n + m
    → epoch_break_from opened.pages rec a b s n ≡ None → epoch_records_from rec tracers c s all ≡ epoch_records_from rec tracers b s n ++ epoch_records_from rec tracers c (recorded_state rec opened b) m
records-joined opened rec tracers a b c zero m all s is opens runs some inner count sum none =
    let number : all ≡ m = omega arith in
    let there : List Record = epoch_records_from rec tracers c (recorded_state rec opened b) m in
    ap (epoch_records_from rec tracers c s) number
    ∙ ap (λ u. epoch_records_from rec tracers c u m) (arrives opened rec a b s is opens runs some inner (omega arith) none)
    ∙ sym (ap (λ (before : List Record). before ++ there) (records-zero rec tracers b s inner))
records-joined opened rec tracers a b c (suc n) m zero s is opens runs some inner count sum none = absurd (omega arith)
records-joined opened rec tracers a b c (suc n) m (suc all) s is opens runs some inner count sum none =
    let on = goes_onto opened.pages rec a b n s none in
    let next = IsInRun-onward rec opened s on.state opens runs on.goes in
    let there : List Record = epoch_records_from rec tracers c (recorded_state rec opened b) m in
    records-suc rec tracers c s on.state all on.goes
    ∙ ap (λ (more : List Record). tracers s ++ more) (records-joined opened rec tracers a b c n m all on.state is opens next.in_run some inner (omega (arith, next.count)) (omega arith) on.none)
    ∙ sym (append_assoc (tracers s) (epoch_records_from rec tracers b on.state n) there)
    ∙ sym (ap (λ (before : List Record). before ++ there) (records-suc rec tracers b s on.state n on.goes))
