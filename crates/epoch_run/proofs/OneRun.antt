-- The epochs of a cutting, one after the other.
use Rattle.std.specs.Prelude.{slice_get, slice_index}
use Rattle.std.specs.Option.{option_or}
use Rattle.std.specs.List.{flat_map, range_with_len}
use Rattle.std.proofs.Common.{◌≡◌, ℕ, zero, suc, ◌+◌, ◌-◌, ◌<◌, ◌≤◌, ◌⊎◌, inl, inr, ⊎_elim, List, [], ◌∷◌, ◌++◌, length, Option, Some, None, refl, sym, ap, subst, ◌∙◌, append_assoc, append-nil, arith, eq-eqb, take_all}
use Rattle.std.proofs.lemmas.Option.{get_or_from_slice_get}
use Rattle.std.proofs.lemmas.List.{get_or_past}
use Rattle.std.proofs.lemmas.Bool.{cases_eq}
use Rattle.sl_model.specs.Pages.{Pages}
use Rattle.sl_model.specs.State.{State}
use Rattle.call_log.specs.declared.breaks.Break.{Break}
use Rattle.tracer_lang.specs.declared.record.Record.{Record}
use Rattle.rec_format.specs.Rules.{IsRecordingValue}
use Rattle.rec_format.specs.declared.recording.Recording.{Recording}
use Rattle.rec_format.specs.declared.recording.CheckpointData.{CheckpointData}
use Rattle.replay.specs.Run.{onward, run_from}
use Rattle.replay.specs.Breaks.{listed_break, end_break, at_count, listed_or, break_after, first_break_from, first_break}
use Rattle.rec_format.specs.Recorded.{end_place, checkpoint_at, recorded_state, recorded_count}
use Rattle.rec_format.specs.Compared.{checkpoint_break}
use Rattle.epoch_cut.specs.Places.{IsCutting}
use Rattle.epoch_run.specs.Records.{Tracers, records_after, records_from, records}
use Rattle.epoch_run.specs.Epochs.{between, epoch_size, epoch_break_from, epoch_break, epoch_records_from, epoch_records}
use Rattle.epoch_run.specs.EpochLaws.{epochs_of, break_of, records_of, NoneBreaks, StartsOnTheRun, LeastBreakIsFirst, BreaksWithTheRun, RecordsOfTheRun}
use Rattle.sl_model.specs.State.{IsOpening}
use Rattle.rec_format.proofs.Counts.{counts_rise, checkpoint_at-suc}
use Rattle.call_log.proofs.Options.{option_or-none}
use Rattle.rec_format.proofs.RecordedStates.{IsInRun-recorded, count-recorded}
use Rattle.epoch_run.proofs.Joined.{IsCut, break-joined}
use Rattle.epoch_run.proofs.Arrived.{run-arrives, run-add, records-joined}

-- ---- two epochs that meet

record Sizes (rec : Recording) (opened : State) (a b c : ℕ) : Type 0 where
  reaches : (recorded_state rec opened a).count + epoch_size rec a b ≡ recorded_count rec b
  some : 0 < epoch_size rec b c
  sum : epoch_size rec a c ≡ epoch_size rec a b + epoch_size rec b c

sizes : (rec : Recording) (opened : State) (a b c : ℕ) → IsRecordingValue rec → IsOpening opened → IsCut rec a b c → Sizes rec opened a b c
sizes rec opened a b c is opens cut =
    let below = cut.below in
    let above = cut.above in
    let within = cut.within in
    let first : recorded_count rec a < recorded_count rec b = counts_rise rec a b is (omega arith) below (omega arith) in
    let second : recorded_count rec b < recorded_count rec c = counts_rise rec b c is (omega arith) above within in
    record { reaches = omega (arith, count-recorded rec opened a opens); some = omega arith; sum = omega arith }

pub breaks_join : (rec : Recording) (opened : State) (a b c : ℕ) → IsRecordingValue rec → IsOpening opened → IsCut rec a b c → epoch_break rec opened a c ≡ option_or (epoch_break rec opened a b) (epoch_break rec opened b c)
breaks_join rec opened a b c is opens cut =
    let size = sizes rec opened a b c is opens cut in
    break-joined opened rec a b c (epoch_size rec a b) (epoch_size rec b c) (epoch_size rec a c) (recorded_state rec opened a) is opens cut (IsInRun-recorded rec opened a is opens) size.reaches size.some size.sum

pub records_join : (rec : Recording) (opened : State) (tracers : Tracers) (a b c : ℕ) → IsRecordingValue rec → IsOpening opened → IsCut rec a b c → epoch_break rec opened a b ≡ None
    → epoch_records rec opened tracers a c ≡ epoch_records rec opened tracers a b ++ epoch_records rec opened tracers b c
records_join rec opened tracers a b c is opens cut none =
    let size = sizes rec opened a b c is opens cut in
    records-joined opened rec tracers a b c (epoch_size rec a b) (epoch_size rec b c) (epoch_size rec a c) (recorded_state rec opened a) is opens (IsInRun-recorded rec opened a is opens) (omega (arith, cut.below)) (omega (arith, cut.above, cut.within)) size.reaches size.sum none

pub run_joins : (rec : Recording) (opened : State) (a b c : ℕ) → IsRecordingValue rec → IsOpening opened → IsCut rec a b c → epoch_break rec opened a b ≡ None
    → run_from rec (recorded_state rec opened a) (epoch_size rec a b) ≡ Some (recorded_state rec opened b)
run_joins rec opened a b c is opens cut none =
    let size = sizes rec opened a b c is opens cut in
    run-arrives opened rec a b (epoch_size rec a b) (recorded_state rec opened a) is opens (IsInRun-recorded rec opened a is opens) (omega (arith, cut.below)) (omega (arith, cut.above, cut.within)) size.reaches none

-- ---- the epoch from the opening state to the end

pub last_is_last : (rec : Recording) → checkpoint_at rec (end_place rec) ≡ rec.last
last_is_last rec =
    let suc_is : end_place rec ≡ suc (length rec.checkpoints) = omega arith in
    ap (checkpoint_at rec) suc_is ∙ checkpoint_at-suc rec (length rec.checkpoints) ∙ get_or_past rec.checkpoints (length rec.checkpoints) rec.last (omega arith)

last_count : (rec : Recording) → recorded_count rec (end_place rec) ≡ rec.last.count
last_count rec =
    let suc_is : end_place rec ≡ suc (length rec.checkpoints) = omega arith in
    ap (recorded_count rec) suc_is ∙ sym (ap (λ k. (checkpoint_at rec k).count) suc_is) ∙ ap (λ (c : CheckpointData). c.count) (last_is_last rec)

all_between : (rec : Recording) → between rec 0 (end_place rec) ≡ rec.checkpoints
all_between rec = take_all (end_place rec - 1 - 0) rec.checkpoints (omega arith)

pub whole_break : (opened : Pages) (rec : Recording) (n : ℕ) (s : State) → first_break_from opened rec s n ≡ epoch_break_from opened rec 0 (end_place rec) s n
unfolding first_break_from epoch_break_from
whole_break opened rec zero s =
    let k : ℕ = end_place rec in
    ap (λ checkpoint. at_count s (option_or (checkpoint_break opened rec k checkpoint s) (end_break rec s))) (sym (last_is_last rec))
    ∙ ap (λ closing. at_count s (option_or (checkpoint_break opened rec k (checkpoint_at rec k) s) closing)) (rw (eq-eqb k k refl) refl)
whole_break opened rec (suc n) s =
    ap (λ checkpoints. listed_or s (listed_break opened rec 1 checkpoints s) (break_after s (λ t. first_break_from opened rec t n) (onward rec s))) (sym (all_between rec))
    ∙ ap (λ follow. listed_or s (listed_break opened rec 1 (between rec 0 (end_place rec)) s) (break_after s follow (onward rec s))) (λ i t. whole_break opened rec n t i)

whole_records : (rec : Recording) (tracers : Tracers) (n : ℕ) (s : State) → records_from rec tracers s n ≡ epoch_records_from rec tracers (end_place rec) s n
unfolding records_from epoch_records_from
whole_records rec tracers zero s = rw (eq-eqb (end_place rec) (end_place rec) refl) refl
whole_records rec tracers (suc n) s = ap (λ follow. tracers s ++ records_after follow (onward rec s)) (λ i t. whole_records rec tracers n t i)

whole_size : (rec : Recording) → rec.last.count ≡ epoch_size rec 0 (end_place rec)
whole_size rec = omega (arith, last_count rec)

pub run_is_epoch : (rec : Recording) (opened : State) → first_break rec opened ≡ epoch_break rec opened 0 (end_place rec)
run_is_epoch rec opened = whole_break opened.pages rec rec.last.count opened ∙ ap (epoch_break_from opened.pages rec 0 (end_place rec) opened) (whole_size rec)

pub records_are_epoch : (rec : Recording) (opened : State) (tracers : Tracers) → records rec tracers opened ≡ epoch_records rec opened tracers 0 (end_place rec)
records_are_epoch rec opened tracers = whole_records rec tracers rec.last.count opened ∙ ap (epoch_records_from rec tracers (end_place rec) opened) (whole_size rec)

-- ---- the places of a cutting

rising_between : (places : List ℕ) → ((k : ℕ) → k + 1 < length places → slice_index places k < slice_index places (k + 1)) → (i j : ℕ) → i < j → j < length places → slice_index places i < slice_index places j
rising_between places rises i zero below within = absurd (omega arith)
rising_between places rises i (suc j) below within =
    let next : j + 1 ≡ suc j = omega arith in
    let step : slice_index places j < slice_index places (suc j) = subst (λ n. slice_index places j < slice_index places n) next (rises j (omega arith)) in
    ⊎_elim
    (λ (same : i ≡ j). subst (λ n. slice_index places n < slice_index places (suc j)) (sym same) step)
    (λ (apart : i ≡ j → ⊥).
    let before = rising_between places rises i j (omega arith) (omega arith) in
    omega arith)
    (cases_eq i j)

pub record Are (segments : ℕ) (places : List ℕ) : Type 0 where
  pub first : slice_index places 0 ≡ 0
  pub last : slice_index places (length places - 1) ≡ segments
  pub some : 1 < length places
  pub rising : (i j : ℕ) → i < j → j < length places → slice_index places i < slice_index places j

not_one : (segments : ℕ) (places : List ℕ) → 0 < segments → slice_get places 0 ≡ Some 0 → slice_get places (length places - 1) ≡ Some segments → 1 < length places
not_one segments [] some first last = absurd cc
not_one segments (x ∷ []) some first last =
    let same : segments ≡ 0 = cc in
    absurd (omega arith)
not_one segments (x ∷ y ∷ places) some first last = omega arith

pub are : (rec : Recording) (places : List ℕ) → IsCutting (end_place rec) places → Are (end_place rec) places
are rec places cut = record {
  first = get_or_from_slice_get places 0 0 0 cut.first;
  last = get_or_from_slice_get places (length places - 1) (end_place rec) 0 cut.last;
  some = not_one (end_place rec) places (omega arith) cut.first cut.last;
  rising = rising_between places cut.rising;
}

-- ---- from a place to the end

module _ (rec : Recording) (opened : State) (places : List ℕ) (is : IsRecordingValue rec) (opens : IsOpening opened) (cut : Are (end_place rec) places) where
  abbrev place : ℕ → ℕ
  place k = slice_index places k

  -- the first break from place k to the end
  abbrev rest_break : ℕ → Option Break
  rest_break k = epoch_break rec opened (place k) (end_place rec)

  at_end_place : (k : ℕ) → k + 2 ≡ length places → place (k + 1) ≡ end_place rec
  at_end_place k last =
      let number : k + 1 ≡ length places - 1 = omega arith in
      ap place number ∙ cut.last

  is_cut : (k : ℕ) → k + 2 < length places → IsCut rec (place k) (place (k + 1)) (end_place rec)
  is_cut k inner =
      let first : place k < place (k + 1) = cut.rising k (k + 1) (omega arith) (omega arith) in
      let last : place (k + 1) < place (length places - 1) = cut.rising (k + 1) (length places - 1) (omega arith) (omega arith) in
      record { below = first; above = omega (arith, cut.last); within = omega arith }

  last_or_more : (k : ℕ) → k < epochs_of places → (k + 2 ≡ length places) ⊎ (k + 2 < length places)
  last_or_more k within = ⊎_elim (λ (same : k + 2 ≡ length places). inl same) (λ (apart : k + 2 ≡ length places → ⊥). inr (omega arith)) (cases_eq (k + 2) (length places))

  -- the first break from a place on is that of its epoch, and else a later one
  begins : (k : ℕ) → k < epochs_of places → (more : Option Break) × (rest_break k ≡ option_or (break_of rec opened places k) more)
  begins k within = ⊎_elim
      (λ (last : k + 2 ≡ length places). (None, ap (epoch_break rec opened (place k)) (sym (at_end_place k last)) ∙ sym (option_or-none (break_of rec opened places k))))
      (λ (inner : k + 2 < length places). (rest_break (k + 1), breaks_join rec opened (place k) (place (k + 1)) (end_place rec) is opens (is_cut k inner)))
      (last_or_more k within)

  more_places : (k : ℕ) → suc k < epochs_of places → k + 2 < length places
  more_places k within = omega arith

  next_number : (k : ℕ) → k + 1 ≡ suc k
  next_number k = omega arith

  -- where none breaks before a place, the first break is the one from there on
  none_before : (k : ℕ) → k < epochs_of places → NoneBreaks rec opened places k → first_break rec opened ≡ rest_break k
  none_before zero within none = run_is_epoch rec opened ∙ ap (λ a. epoch_break rec opened a (end_place rec)) (sym cut.first)
  none_before (suc k) within none =
      let before : NoneBreaks rec opened places k = λ j below. none j (omega arith) in
      none_before k (omega arith) before
      ∙ breaks_join rec opened (place k) (place (k + 1)) (end_place rec) is opens (is_cut k (more_places k within))
      ∙ ap (λ broken. option_or broken (rest_break (k + 1))) (none k (omega arith))
      ∙ ap rest_break (next_number k)

  pub least_break : LeastBreakIsFirst rec opened places
  least_break k broken within none breaks =
      let begun = begins k within in
      none_before k within none ∙ begun.1 ∙ ap (λ it. option_or it begun.0) breaks

  none_first : (x y : Option Break) → option_or x y ≡ None → x ≡ None
  none_first None y none = refl
  none_first (Some x) y none = none

  no_break_none : first_break rec opened ≡ None → (n : ℕ) → n ≤ epochs_of places → NoneBreaks rec opened places n
  no_break_none none zero within k below = absurd (omega arith)
  no_break_none none (suc n) within k below =
      let before : NoneBreaks rec opened places n = no_break_none none n (omega arith) in
      ⊎_elim
      (λ (same : k ≡ n).
      let begun = begins n (omega arith) in
      subst (λ j. break_of rec opened places j ≡ None) (sym same)
      (none_first (break_of rec opened places n) begun.0 (sym begun.1 ∙ sym (none_before n (omega arith) before) ∙ none)))
      (λ (apart : k ≡ n → ⊥). before k (omega arith))
      (cases_eq k n)

  -- the last epoch
  last_epoch : ℕ
  last_epoch = length places - 2

  all_none : NoneBreaks rec opened places (epochs_of places) → first_break rec opened ≡ None
  unfolding last_epoch
  all_none none =
      let some = cut.some in
      let last : last_epoch + 2 ≡ length places = omega arith in
      none_before last_epoch (omega arith) (λ k below. none k (omega arith))
      ∙ ap (epoch_break rec opened (place last_epoch)) (sym (at_end_place last_epoch last))
      ∙ none last_epoch (omega arith)

  pub breaks_with_run : BreaksWithTheRun rec opened places
  breaks_with_run = (all_none, λ none. no_break_none none (epochs_of places) (omega arith))

  -- ---- the states between epochs

  run_starts : (s : State) (n : ℕ) → n ≡ 0 → run_from rec s n ≡ Some s
  unfolding run_from
  run_starts s zero start = refl
  run_starts s (suc n) start = absurd (omega arith)

  pub starts_on_run : StartsOnTheRun rec opened places
  starts_on_run zero within none =
      let start : place 0 ≡ 0 = cut.first in
      run_starts opened (recorded_count rec (place 0)) (ap (recorded_count rec) start) ∙ ap (λ a. Some (recorded_state rec opened a)) (sym start)
  starts_on_run (suc k) within none =
      let a : ℕ = place k in
      let b : ℕ = place (k + 1) in
      let between = is_cut k (more_places k within) in
      let below = between.below in
      let above = between.above in
      let rises : recorded_count rec a < recorded_count rec b = counts_rise rec a b is (omega arith) below (omega arith) in
      let sum : recorded_count rec b ≡ recorded_count rec a + epoch_size rec a b = omega arith in
      let before = starts_on_run k (omega arith) (λ j below. none j (omega arith)) in
      subst (λ n. run_from rec opened (recorded_count rec (place n)) ≡ Some (recorded_state rec opened (place n))) (next_number k)
      (run-add rec (recorded_count rec a) (epoch_size rec a b) (recorded_count rec b) opened (recorded_state rec opened a) sum before
      ∙ run_joins rec opened a b (end_place rec) is opens between (none k (omega arith)))

  -- ---- the records

  flat_map-range : (f : ℕ → List Record) (a n : ℕ) → flat_map f (range_with_len a (suc n)) ≡ flat_map f (range_with_len a n) ++ f (a + n)
  flat_map-range f a zero = append-nil (f a) ∙ ap f (omega arith)
  flat_map-range f a (suc n) =
      let number : a + 1 + n ≡ a + suc n = omega arith in
      ap (λ (rest : List Record). f a ++ rest) (flat_map-range f (a + 1) n ∙ ap (λ k. flat_map f (range_with_len (a + 1) n) ++ f k) number)
      ∙ sym (append_assoc (f a) (flat_map f (range_with_len (a + 1) n)) (f (a + suc n)))

  module _ (tracers : Tracers) where
    -- the records of the first n epochs
    abbrev first_records : ℕ → List Record
    first_records n = flat_map (records_of rec opened tracers places) (range_with_len 0 n)

    abbrev rest_records : ℕ → List Record
    rest_records k = epoch_records rec opened tracers (place k) (end_place rec)

    one_more : (k : ℕ) → first_records (suc k) ≡ first_records k ++ records_of rec opened tracers places k
    one_more k = flat_map-range (records_of rec opened tracers places) 0 k ∙ ap (λ n. first_records k ++ records_of rec opened tracers places n) (omega arith)

    records_before : (k : ℕ) → k < epochs_of places → NoneBreaks rec opened places k → records rec tracers opened ≡ first_records k ++ rest_records k
    records_before zero within none = records_are_epoch rec opened tracers ∙ ap (λ a. epoch_records rec opened tracers a (end_place rec)) (sym cut.first)
    records_before (suc k) within none =
        let it : List Record = records_of rec opened tracers places k in
        records_before k (omega arith) (λ j below. none j (omega arith))
        ∙ ap (λ (rest : List Record). first_records k ++ rest) (records_join rec opened tracers (place k) (place (k + 1)) (end_place rec) is opens (is_cut k (more_places k within)) (none k (omega arith)))
        ∙ sym (append_assoc (first_records k) it (rest_records (k + 1)))
        ∙ ap (λ (first : List Record). first ++ rest_records (k + 1)) (sym (one_more k))
        ∙ ap (λ n. first_records (suc k) ++ rest_records n) (next_number k)

    pub records_of_run : RecordsOfTheRun rec opened tracers places
    unfolding last_epoch
    records_of_run none =
        let some = cut.some in
        let last : last_epoch + 2 ≡ length places = omega arith in
        let number : suc last_epoch ≡ epochs_of places = omega arith in
        ap first_records (sym number)
        ∙ one_more last_epoch
        ∙ ap (λ b. first_records last_epoch ++ epoch_records rec opened tracers (place last_epoch) b) (at_end_place last_epoch last)
        ∙ sym (records_before last_epoch (omega arith) (λ k below. none k (omega arith)))
