-- Where a run that does not break comes to.
use Rattle.std.proofs.Common.{◌≡◌, ℕ, zero, suc, ◌+◌, ◌∷◌, length, Option, Some, None, refl, sym, ap, ◌∙◌, arith}
use Rattle.sl_model.specs.State.{State}
use Rattle.call_log.specs.declared.breaks.BreakKind.{BreakKind}
use Rattle.rec_format.specs.Rules.{IsRecordingValue}
use Rattle.rec_format.specs.declared.recording.Recording.{Recording}
use Rattle.rec_format.specs.declared.recording.CheckpointData.{CheckpointData}
use Rattle.replay.specs.Run.{run_from}
use Rattle.replay.specs.Breaks.{at_count}
use Rattle.rec_format.specs.Recorded.{end_place, checkpoint_at}
use Rattle.rec_format.specs.Compared.{PartDiff, machine_diff, pages_diff, PAGE_NUMBERS, checkpoint_diff, as_checkpoint_break, checkpoint_break}
use Rattle.epoch_run.specs.Epochs.{closing_break, epoch_break_from}
use Rattle.sl_model.specs.State.{IsOpening}
use Rattle.epoch_run.specs.EpochLaws.{ComesToTheEnd}
use Rattle.rec_format.proofs.InRun.{IsInRun, IsInRun-opened}
use Rattle.replay.proofs.InRun.{IsInRun-onward}
use Rattle.rec_format.proofs.SameState.{IsSameMachine, same_machine, all_registers}
use Rattle.call_log.proofs.Options.{first_none}
use Rattle.epoch_run.proofs.Arrived.{goes_onto, run-suc, run-zero}
use Rattle.epoch_run.proofs.OneRun.{last_is_last, whole_break}

-- ---- at the end nothing differs

count_none : (s : State) (kind : Option BreakKind) → at_count s kind ≡ None → kind ≡ None
count_none s None none = refl
count_none s (Some kind) none = absurd cc

break_none : (k : ℕ) (diff : Option PartDiff) → as_checkpoint_break k diff ≡ None → diff ≡ None
break_none k None none = refl
break_none k (Some diff) none = absurd cc

machine_none : (opened s : State) (rec : Recording) (k : ℕ) (checkpoint : CheckpointData) → checkpoint_diff opened.pages rec k checkpoint s ≡ None → IsSameMachine checkpoint s
unfolding checkpoint_diff
machine_none opened s rec k checkpoint none = same_machine checkpoint s (first_none (machine_diff checkpoint s) (pages_diff opened.pages rec k s PAGE_NUMBERS) none)

same_at : (opened : State) (rec : Recording) (a b : ℕ) (s : State) → epoch_break_from opened.pages rec a b s 0 ≡ None → IsSameMachine (checkpoint_at rec b) s
unfolding epoch_break_from
same_at opened rec a b s none =
    let checkpoint = checkpoint_at rec b in
    let compared = first_none (checkpoint_break opened.pages rec b checkpoint s) (closing_break rec b s) (count_none s _ none) in
    machine_none opened s rec b checkpoint (break_none b (checkpoint_diff opened.pages rec b checkpoint s) compared)

-- ---- the run to there

-- a state at a checkpoint's place, after so many instructions
record Came (rec : Recording) (checkpoint : CheckpointData) (s : State) (n : ℕ) : Type 0 where
  pub last : State
  pub run : run_from rec s n ≡ Some last
  pub count : last.count ≡ s.count + n
  pub pc : last.pc ≡ checkpoint.pc
  pub x : last.x ≡ 0 ∷ checkpoint.x

came : (opened : State) (rec : Recording) (a b n : ℕ) (s : State) → IsOpening opened → IsInRun opened s → length (checkpoint_at rec b).x ≡ 31 → epoch_break_from opened.pages rec a b s n ≡ None → Came rec (checkpoint_at rec b) s n
came opened rec a b zero s opens runs long none =
    let same = same_at opened rec a b s none in
    record { last = s; run = run-zero rec s; count = omega arith; pc = sym same.pc; x = all_registers s.x (checkpoint_at rec b).x runs.registers long runs.zero same.x }
came opened rec a b (suc n) s opens runs long none =
    let on = goes_onto opened.pages rec a b n s none in
    let next = IsInRun-onward rec opened s on.state opens runs on.goes in
    let rest = came opened rec a b n on.state opens next.in_run long on.none in
    record { last = rest.last; run = run-suc rec s on.state n on.goes ∙ rest.run; count = omega (arith, rest.count, next.count); pc = rest.pc; x = rest.x }

pub comes_to_the_end : (rec : Recording) (opened : State) → IsRecordingValue rec → IsOpening opened → ComesToTheEnd rec opened
comes_to_the_end rec opened is opens none =
    let long : length (checkpoint_at rec (end_place rec)).x ≡ 31 = ap (λ (c : CheckpointData). length c.x) (last_is_last rec) ∙ is.last.x.number in
    let end = came opened rec 0 (end_place rec) rec.last.count opened opens (IsInRun-opened opened opens) long (sym (whole_break opened.pages rec rec.last.count opened) ∙ none) in
    (end.last, end.run, record { count = omega (arith, end.count, opens.count); pc = end.pc ∙ ap (λ (c : CheckpointData). c.pc) (last_is_last rec); x = end.x ∙ ap (λ (c : CheckpointData). 0 ∷ c.x) (last_is_last rec) })
