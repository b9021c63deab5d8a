-- A segment, one instruction after the other.
use Rattle.std.proofs.Common.{◌≡◌, ℕ, suc, ◌+◌, ◌-◌, ◌<◌, ◌≤◌, List, ◌++◌, take, drop, Option, Some, None, refl, sym, ap, subst, ◌∙◌, append_assoc, arith}
use Rattle.sl_base.specs.declared.refused.Refused.{Refused}
use Rattle.sl_base.specs.declared.refused.Refused.TheVariants as refused
use Rattle.sl_model.specs.declared.run_state.RunState.{RunState}
use Rattle.sl_model.specs.declared.run_state.RunState.TheVariants.{Running, Exited}
use Rattle.sl_model.specs.Pages.{Pages}
use Rattle.sl_model.specs.State.{State}
use Rattle.call_log.specs.declared.breaks.Break.{Break}
use Rattle.call_log.specs.declared.breaks.BreakKind.{BreakKind}
use Rattle.rec_format.specs.declared.recording.Recording.{Recording}
use Rattle.tracer_lang.specs.declared.record.Record.{Record}
use Rattle.page_frames.specs.MarkedPages.{MarkedPages}
use Rattle.rv_machine.specs.declared.machine.Machine.{Machine}
use Rattle.rv_machine.specs.Machine.{state_of}
use Rattle.replay.specs.Run.{onward, onward_in, Goes, Breaks}
use Rattle.replay.specs.Advance.{StoppedAt}
use Rattle.replay.specs.Breaks.{at_count, listed_break, listed_or, break_after}
use Rattle.epoch_run.specs.Records.{Tracers}
use Rattle.epoch_run.specs.Epochs.{between, epoch_break_from, epoch_records_from}
use Rattle.epoch_run.specs.declared.worker.Worker.{Worker}
use Rattle.epoch_run.specs.Plans.{state_in}
use Rattle.epoch_run.specs.Segments.{IsUnderWay, stopped_at, BrokeOff}
use Rattle.epoch_run.proofs.Arrived.{run-suc, records-suc}

-- ---- one instruction

-- no checkpoint lies within a segment
none_within : (opened : Pages) (rec : Recording) (a b : ℕ) (s : State) → a + 1 ≡ b → listed_break opened rec (a + 1) (between rec a b) s ≡ None
none_within opened rec a b s next =
    let none : b - 1 - a ≡ 0 = omega arith in
    ap (λ n. listed_break opened rec (a + 1) (take n (drop a rec.checkpoints)) s) none

break_goes : (opened : Pages) (rec : Recording) (a b n : ℕ) (s t : State) → a + 1 ≡ b → onward rec s ≡ Goes t → epoch_break_from opened rec a b s (suc n) ≡ epoch_break_from opened rec a b t n
unfolding epoch_break_from
break_goes opened rec a b n s t next goes =
    let follow : State → Option Break = λ u. epoch_break_from opened rec a b u n in
    ap (λ listed. listed_or s listed (break_after s follow (onward rec s))) (none_within opened rec a b s next) ∙ ap (break_after s follow) goes

break_breaks : (opened : Pages) (rec : Recording) (a b n : ℕ) (s : State) (kind : BreakKind) → a + 1 ≡ b → onward rec s ≡ Breaks kind → epoch_break_from opened rec a b s (suc n) ≡ at_count s (Some kind)
unfolding epoch_break_from
break_breaks opened rec a b n s kind next breaks =
    let follow : State → Option Break = λ u. epoch_break_from opened rec a b u n in
    ap (λ listed. listed_or s listed (break_after s follow (onward rec s))) (none_within opened rec a b s next) ∙ ap (break_after s follow) breaks

-- a program that goes on runs
goes_at : (rec : Recording) (s t : State) (status : RunState) → onward_in rec s status ≡ Goes t → status ≡ Running
goes_at rec s t Running goes = refl
goes_at rec s t (Exited code) goes = absurd cc

pub goes-running : (rec : Recording) (s t : State) → onward rec s ≡ Goes t → s.status ≡ Running
unfolding onward
goes-running rec s t goes = goes_at rec s t s.status goes

-- the state of a worker is that of its machine and memory alone
pub same_state : (worker old : Worker) → worker.m ≡ old.m → worker.f ≡ old.f → state_in worker ≡ state_in old
same_state worker old machine memory = rw (machine, memory) refl

-- ---- what is left

pub begins : (rec : Recording) (tracers : Tracers) (s : State) (n : ℕ) (old : List Record) → IsUnderWay rec tracers s n s n old old
begins rec tracers s n old = record { breaks = λ opened a b next. refl; records = λ b. refl; run = refl }

goes_on : (rec : Recording) (tracers : Tracers) (first : State) (total : ℕ) (s t : State) (left : ℕ) (old new : List Record) → onward rec s ≡ Goes t
    → IsUnderWay rec tracers first total s (suc left) old new → IsUnderWay rec tracers first total t left old (new ++ tracers s)
goes_on rec tracers first total s t left old new goes way = record {
  breaks = λ opened a b next. way.breaks opened a b next ∙ break_goes opened rec a b left s t next goes;
  records = λ b. way.records b ∙ ap (λ (r : List Record). new ++ r) (records-suc rec tracers b s t left goes) ∙ sym (append_assoc new (tracers s) (epoch_records_from rec tracers b t left));
  run = way.run ∙ run-suc rec s t left goes;
}

-- the same with another way to write the numbers and the records
pub goes_on_at : (rec : Recording) (tracers : Tracers) (first : State) (total : ℕ) (s t : State) (done upto : ℕ) (old new next : List Record) → done < upto → onward rec s ≡ Goes t → next ≡ new ++ tracers s
    → IsUnderWay rec tracers first total s (upto - done) old new → IsUnderWay rec tracers first total t (upto - (done + 1)) old next
goes_on_at rec tracers first total s t done upto old new next lt goes added way =
    let one : upto - done ≡ suc (upto - (done + 1)) = omega arith in
    let moved = goes_on rec tracers first total s t (upto - (done + 1)) old new goes (subst (λ (n : ℕ). IsUnderWay rec tracers first total s n old new) one way) in
    subst (λ (r : List Record). IsUnderWay rec tracers first total t (upto - (done + 1)) old r) (sym added) moved

pub breaks_off : (rec : Recording) (tracers : Tracers) (first : State) (total : ℕ) (m m' : Machine) (f f' : MarkedPages) (done upto : ℕ) (old new : List Record) (stop : Refused BreakKind) → done < upto → m.count ≡ done
    → StoppedAt (onward rec (state_of m f.pages)) m f stop m' f' → IsUnderWay rec tracers first total (state_of m f.pages) (upto - done) old new → BrokeOff rec first total (stopped_at done stop)
breaks_off rec tracers first total m m' f f' done upto old new refused.Memory lt count stops way = tt
breaks_off rec tracers first total m m' f f' done upto old new (refused.Fault kind) lt count stops way = λ opened a b next.
    let s : State = state_of m f.pages in
    let one : upto - done ≡ suc (upto - (done + 1)) = omega arith in
    way.breaks opened a b next ∙ ap (epoch_break_from opened rec a b s) one ∙ break_breaks opened rec a b (upto - (done + 1)) s kind next stops.0
    ∙ ap (λ n. Some (record { count = n; kind = kind })) count

pub comes_to_end : (rec : Recording) (tracers : Tracers) (first : State) (total : ℕ) (s : State) (done upto : ℕ) (old new : List Record) → upto ≤ done → IsUnderWay rec tracers first total s (upto - done) old new → IsUnderWay rec tracers first total s 0 old new
comes_to_end rec tracers first total s done upto old new le way =
    let none : upto - done ≡ 0 = omega arith in
    subst (λ (n : ℕ). IsUnderWay rec tracers first total s n old new) none way
