-- An epoch is its first part, and then its second part from the recorded state between them.
use Rattle.std.proofs.Common.{◌≡◌, ℕ, zero, suc, ◌+◌, ◌<◌, ◌≤◌, Option, Some, None, refl, sym, ap, ◌∙◌, arith, ne_eqb}
use Rattle.std.specs.Option.{option_or}
use Rattle.sl_model.specs.declared.run_state.RunState.{RunState}
use Rattle.sl_model.specs.declared.run_state.RunState.TheVariants.{Running, Exited}
use Rattle.sl_model.specs.Pages.{Pages}
use Rattle.sl_model.specs.State.{State}
use Rattle.call_log.specs.declared.breaks.Break.{Break}
use Rattle.call_log.specs.declared.breaks.BreakKind.{BreakKind}
use Rattle.rec_format.specs.Rules.{IsRecordingValue}
use Rattle.rec_format.specs.declared.recording.Recording.{Recording}
use Rattle.replay.specs.Run.{Onward, Goes, Breaks, onward}
use Rattle.replay.proofs.Onward.{onward_over}
use Rattle.replay.specs.Breaks.{listed_break, at_count, listed_or, break_after}
use Rattle.rec_format.specs.Recorded.{end_place, checkpoint_at, recorded_state, recorded_count}
use Rattle.rec_format.specs.Compared.{PartDiff, checkpoint_diff, checkpoint_break, as_checkpoint_break}
use Rattle.epoch_run.specs.Epochs.{between, early_exit, closing_break, epoch_break_from}
use Rattle.sl_model.specs.State.{IsOpening}
use Rattle.epoch_run.proofs.Between.{listed-before, listed-at, listed-after, listed-none}
use Rattle.rec_format.proofs.InRun.{IsInRun}
use Rattle.replay.proofs.InRun.{IsInRun-onward}
use Rattle.rec_format.proofs.SameState.{same_state}

-- a checkpoint between two others, of which the second may be that of the end
pub record IsCut (rec : Recording) (a b c : ℕ) : Type 0 where
  pub below : a < b
  pub above : b < c
  pub within : c ≤ end_place rec

-- ---- one instruction

-- two ways on from a state are one where they agree on every state that the next instruction leads to
same_after : (s : State) (listed : Option BreakKind) (on : Onward) (f g : State → Option Break) → ((t : State) → on ≡ Goes t → f t ≡ g t) → listed_or s listed (break_after s f on) ≡ listed_or s listed (break_after s g on)
same_after s (Some kind) on f g same = refl
same_after s None (Goes t) f g same = same t refl
same_after s None (Breaks kind) f g same = refl

-- the same where one of them goes further
further_after : (s : State) (listed : Option BreakKind) (on : Onward) (f g : State → Option Break) (more : Option Break) → ((t : State) → on ≡ Goes t → f t ≡ option_or (g t) more)
    → listed_or s listed (break_after s f on) ≡ option_or (listed_or s listed (break_after s g on)) more
further_after s (Some kind) on f g more same = refl
further_after s None (Goes t) f g more same = same t refl
further_after s None (Breaks kind) f g more same = refl

-- ---- behind b's count the epoch from a and that from b are one

break-after : (opened : Pages) (rec : Recording) (first : State) (a b c n : ℕ) (s : State) → IsRecordingValue rec → IsOpening first → IsCut rec a b c → IsInRun first s → recorded_count rec b < s.count
    → epoch_break_from opened rec a c s n ≡ epoch_break_from opened rec b c s n
unfolding epoch_break_from
break-after opened rec first a b c zero s is opens cut runs late = refl
break-after opened rec first a b c (suc n) s is opens cut runs late =
    ap (λ listed. listed_or s listed (break_after s (λ t. epoch_break_from opened rec a c t n) (onward rec s))) (listed-after opened rec a b c s is cut.below cut.above cut.within late)
    ∙ same_after s (listed_break opened rec (b + 1) (between rec b c) s) (onward rec s) (λ t. epoch_break_from opened rec a c t n) (λ t. epoch_break_from opened rec b c t n) (λ t goes.
    let next = IsInRun-onward rec first s t opens runs goes in
    break-after opened rec first a b c n t is opens cut next.in_run (omega (arith, next.count)))

-- ---- at b's count

-- what the first part tries at b, where b is not the end's
closing_is : (rec : Recording) (a b c : ℕ) (s : State) → IsCut rec a b c → closing_break rec b s ≡ early_exit rec s.status
closing_is rec a b c s cut = rw (ne_eqb b (end_place rec) (λ same. absurd (omega (arith, cut.above, cut.within)))) refl

-- one instruction of the epoch from b
from_there : (opened : Pages) (rec : Recording) (b c m : ℕ) (s : State)
    → listed_or s (listed_break opened rec (b + 1) (between rec b c) s) (break_after s (λ t. epoch_break_from opened rec b c t m) (onward rec s)) ≡ epoch_break_from opened rec b c s (suc m)
unfolding epoch_break_from
from_there opened rec b c m s = refl

-- the epoch from a at b's count, by what the checkpoint and the status give
break-at : (opened : State) (rec : Recording) (a b c m : ℕ) (s : State) (diff : Option PartDiff) (status : RunState) → IsRecordingValue rec → IsOpening opened → IsCut rec a b c → IsInRun opened s → s.count ≡ recorded_count rec b
    → checkpoint_diff opened.pages rec b (checkpoint_at rec b) s ≡ diff → s.status ≡ status
    → listed_or s (as_checkpoint_break b diff) (break_after s (λ t. epoch_break_from opened.pages rec a c t m) (onward rec s))
    ≡ option_or (at_count s (option_or (as_checkpoint_break b diff) (early_exit rec status))) (epoch_break_from opened.pages rec b c (recorded_state rec opened b) (suc m))
break-at opened rec a b c m s (Some diff) status is opens cut runs count same running = refl
break-at opened rec a b c m s None (Exited code) is opens cut runs count same running =
    ap (break_after s (λ t. epoch_break_from opened.pages rec a c t m)) (onward_over rec s code running)
break-at opened rec a b c m s None Running is opens cut runs count same running =
    let some : 0 < b = omega (arith, cut.below) in
    let recorded : s ≡ recorded_state rec opened b = same_state rec opened b s is opens runs some running count same in
    same_after s None (onward rec s) (λ t. epoch_break_from opened.pages rec a c t m) (λ t. epoch_break_from opened.pages rec b c t m) (λ t goes.
    let next = IsInRun-onward rec opened s t opens runs goes in
    break-after opened.pages rec opened a b c m t is opens cut next.in_run (omega (arith, next.count)))
    ∙ ap (λ listed. listed_or s listed (break_after s (λ t. epoch_break_from opened.pages rec b c t m) (onward rec s))) (sym (listed-none opened.pages rec b c s is some cut.above cut.within count))
    ∙ from_there opened.pages rec b c m s
    ∙ ap (λ u. epoch_break_from opened.pages rec b c u (suc m)) recorded

-- ---- up to b's count, and on from there

pub break-joined : (opened : State) (rec : Recording) (a b c n m all : ℕ) (s : State) → IsRecordingValue rec → IsOpening opened → IsCut rec a b c → IsInRun opened s → s.count + n ≡ recorded_count rec b → 0 < m → all ≡ n + m
    → epoch_break_from opened.pages rec a c s all ≡ option_or (epoch_break_from opened.pages rec a b s n) (epoch_break_from opened.pages rec b c (recorded_state rec opened b) m)
unfolding epoch_break_from
break-joined opened rec a b c zero zero all s is opens cut runs count some sum = absurd (omega arith)
break-joined opened rec a b c zero (suc m) all s is opens cut runs count some sum =
    let at : s.count ≡ recorded_count rec b = omega arith in
    let number : all ≡ suc m = omega arith in
    let follow : State → Option Break = λ t. epoch_break_from opened.pages rec a c t m in
    ap (epoch_break_from opened.pages rec a c s) number
    ∙ ap (λ listed. listed_or s listed (break_after s follow (onward rec s))) (listed-at opened.pages rec a b c s is cut.below cut.above cut.within at)
    ∙ break-at opened rec a b c m s (checkpoint_diff opened.pages rec b (checkpoint_at rec b) s) s.status is opens cut runs at refl refl
    ∙ ap (λ closing. option_or (at_count s (option_or (checkpoint_break opened.pages rec b (checkpoint_at rec b) s) closing)) (epoch_break_from opened.pages rec b c (recorded_state rec opened b) (suc m))) (sym (closing_is rec a b c s cut))
break-joined opened rec a b c (suc n) m zero s is opens cut runs count some sum = absurd (omega arith)
break-joined opened rec a b c (suc n) m (suc all) s is opens cut runs count some sum =
    ap (λ listed. listed_or s listed (break_after s (λ t. epoch_break_from opened.pages rec a c t all) (onward rec s))) (listed-before opened.pages rec a b c s is cut.below cut.above cut.within (omega arith))
    ∙ further_after s (listed_break opened.pages rec (a + 1) (between rec a b) s) (onward rec s) (λ t. epoch_break_from opened.pages rec a c t all) (λ t. epoch_break_from opened.pages rec a b t n)
    (epoch_break_from opened.pages rec b c (recorded_state rec opened b) m) (λ t goes.
    let next = IsInRun-onward rec opened s t opens runs goes in
    break-joined opened rec a b c n m all t is opens cut next.in_run (omega (arith, next.count)) some (omega arith))
