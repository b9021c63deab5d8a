-- A run whose checkpoints are those that were kept on the way.
use Rattle.std.specs.Prelude.{◌*◌, ◌/◌, ◌^◌, map, unwrap_or, slice_get, Option}
use Rattle.std.specs.List.{AllByRecursion, range_with_len}
use Rattle.std.specs.Option.{option_or}
use Rattle.std.proofs.Common.{◌≡◌, ℕ, zero, suc, ◌+◌, ◌-◌, ◌<◌, ◌≤◌, ◌⊎◌, inl, inr, ⊎_elim, List, [], ◌∷◌, ◌++◌, length, Some, None, refl, sym, ap, subst, ◌∙◌, arith, mul-le-mul_right}
use Rattle.std.proofs.lemmas.Bool.{cases_lt}
use Rattle.std.proofs.lemmas.Nat.{div-mul-add}
use Rattle.sl_model.specs.declared.run_state.RunState.{RunState}
use Rattle.sl_model.specs.declared.run_state.RunState.TheVariants.{Running, Exited}
use Rattle.sl_model.specs.Pages.{Pages}
use Rattle.sl_model.specs.State.{State, IsOpening}
use Rattle.sl_model.specs.Step.{Next, Stepped, Called, Trapped, step}
use Rattle.call_log.specs.declared.ask.Ask.{Ask}
use Rattle.call_log.specs.declared.breaks.Break.{Break}
use Rattle.call_log.specs.declared.breaks.BreakKind.{BreakKind}
use Rattle.call_log.specs.declared.breaks.BreakKind.TheVariants.{EarlyEnd}
use Rattle.call_log.specs.declared.entry.CallEntry.{CallEntry}
use Rattle.rec_format.specs.declared.limits.TheConstants.{HIGHEST_KIND, MOST_IMAGE_BYTES}
use Rattle.rec_format.specs.declared.recording.Recording.{Recording}
use Rattle.rec_format.specs.declared.recording.CheckpointData.{CheckpointData}
use Rattle.rec_format.specs.Rules.{AreArguments, IsCallEntry, IsEnd, IsAbove, Rise, last_or, count_of, highest_load_addr, AreNeeded, listings, IsRecordingValue}
use Rattle.elf_image.specs.declared.image.Image.{Image}
use Rattle.replay.specs.Calls.{ask_of}
use Rattle.replay.specs.Opening.{opening}
use Rattle.replay.specs.Run.{Onward, Goes, Breaks, called, asked, stepped, onward_in, onward, state_after, run_from}
use Rattle.replay.specs.Breaks.{listed_break, end_break, at_count, listed_or, break_after, first_break_from, first_break}
use Rattle.rec_format.specs.Recorded.{all_checkpoints, end_place, listed_to, recorded_page, last_listing, is_listed}
use Rattle.rec_format.specs.Compared.{PartDiff, part_diff, parts_diff, bytes_diff, page_diff, pages_diff, machine_diff, checkpoint_diff, checkpoint_break, as_checkpoint_break, missing_diff, PAGE_NUMBERS}
use Rattle.call_recorder.specs.declared.kept.Finished.{Finished}
use Rattle.call_recorder.specs.Listing.{page_in, checkpoint_of, checkpoints_of, kept_of}
use Rattle.call_recorder.specs.Recut.{state_at, first_states, multiples_below, checkpoints_by, end_checkpoint, recut_of}
use Rattle.call_recorder.specs.Kept.{memory_after, AreDone, AreFinished}
use Rattle.call_recorder.specs.Recorded.{IsRecut}
use Rattle.call_recorder.proofs.Runs.{run-goes, state_at-run, comes_to, count-run}
use Rattle.call_recorder.proofs.Cuts.{first_states-more, memory_of, each_runs, chain_to_end, counts_rise, last_is_above, listings_are_needed, AreCut, are_cut}
use Rattle.call_recorder.proofs.Unbroken.{IsCut, does_not_break}

-- ---- how many states were offered

-- either each of them lies below the end, or the last one is at it
pub data Offered (every total offers : ℕ) : Type 0 where
  below : offers ≡ multiples_below every total → (0 < offers → offers * every < total) → Offered every total offers
  at : (n : ℕ) → offers ≡ n + 1 → n ≡ multiples_below every total → offers * every ≡ total → Offered every total offers

quotient : (every n rest total : ℕ) → rest < every → total ≡ n * every + rest + 1 → n ≡ multiples_below every total
quotient every n rest total lt is =
    let less : total - 1 ≡ n * every + rest = omega arith in
    sym (ap (λ k. k / every) less ∙ div-mul-add n every rest lt)

pub offered : (every total offers : ℕ) → 0 < every → offers * every ≤ total → total ≤ (offers + 1) * every → Offered every total offers
offered every total offers some from upto = ⊎_elim
    (λ (lt : offers * every < total).
    below (quotient every offers (total - 1 - offers * every) total (omega arith) (omega arith)) (λ one. lt))
    (λ (le : total ≤ offers * every). at_end offers from le)
    (cases_lt (offers * every) total)
  where
    at_end : (offers : ℕ) → offers * every ≤ total → total ≤ offers * every → Offered every total offers
    at_end zero from le =
        let none : total - 1 ≡ zero * every + 0 = omega arith in
        below (sym (ap (λ k. k / every) none ∙ div-mul-add 0 every 0 some)) (λ one. absurd (omega arith))
    at_end (suc n) from le = at n (omega arith) (quotient every n (every - 1) total (omega arith) (omega arith)) (omega arith)

-- ---- the checkpoints of a run to its end

module _ (rec : Recording) (opened : State) (every total : ℕ) (last : State) (opens : IsOpening opened) (some : 0 < every) (run : run_from rec opened total ≡ Some last) where
  counts_are_below : (n : ℕ) → (0 < n → n * every < total) → AllByRecursion (λ t. t.count < total) (first_states rec opened every n)
  counts_are_below zero lt = tt
  counts_are_below (suc n) lt =
      let high : suc n * every < total = lt (omega arith) in
      let low : n * every ≤ suc n * every = mul-le-mul_right {m = n} {n = suc n} every (omega arith) in
      let one : suc n ≡ n + 1 = omega arith in
      let t : State = state_at rec opened (suc n * every) in
      let count : t.count ≡ suc n * every = count-run rec opened (suc n * every) t opens (comes_to rec opened (suc n * every) total last (omega arith) run) in
      subst (AllByRecursion (λ (u : State). u.count < total)) (sym (ap (first_states rec opened every) one ∙ first_states-more rec opened every n ∙ sym (ap (λ k. first_states rec opened every n ++ state_at rec opened (k * every) ∷ []) one)))
      (join (first_states rec opened every n) t (counts_are_below n (λ some. omega arith)) (omega (arith, count)))
    where
      join : (states : List State) (t : State) → AllByRecursion (λ u. u.count < total) states → t.count < total → AllByRecursion (λ u. u.count < total) (states ++ t ∷ [])
      join [] t all lt = (lt, tt)
      join (u ∷ states) t all lt = (all.0, join states t all.1 lt)

  end_count : last.count ≡ total
  end_count = count-run rec opened total last opens run

  all_below : (n : ℕ) → (0 < n → n * every < total) → AllByRecursion (λ t. t.count < last.count) (first_states rec opened every n)
  all_below n lt = subst (λ k. AllByRecursion (λ (t : State). t.count < k) (first_states rec opened every n)) (sym end_count) (counts_are_below n lt)

  pub are_done : (offers : ℕ) (done : Finished) → offers * every ≤ total → total ≤ (offers + 1) * every → AreFinished opened.pages (first_states rec opened every offers) last done → AreDone opened.pages (first_states rec opened every (multiples_below every total)) last done
  are_done offers done from upto fin = by (offered every total offers some from upto)
    where
      by : Offered every total offers → AreDone opened.pages (first_states rec opened every (multiples_below every total)) last done
      by (below number lt) = subst (λ n. AreDone opened.pages (first_states rec opened every n) last done) number (fin.apart (all_below offers lt))
      by (at n one number end) =
          let here : state_at rec opened ((n + 1) * every) ≡ last = state_at-run rec opened ((n + 1) * every) last (ap (run_from rec opened) (sym (ap (λ k. k * every) one) ∙ end) ∙ run) in
          let split : first_states rec opened every offers ≡ first_states rec opened every n ++ last ∷ [] = ap (first_states rec opened every) one ∙ first_states-more rec opened every n ∙ ap (λ (s : State). first_states rec opened every n ++ s ∷ []) here in
          subst (λ k. AreDone opened.pages (first_states rec opened every k) last done) number
          (fin.offered (first_states rec opened every n) split (all_below n (λ low. omega (arith, ap (λ k. k * every) one))))

-- ---- a recording with them

-- the rules for all but the checkpoints
pub record HasRest (rec : Recording) : Type 0 where
  pub kind : rec.kind ≤ HIGHEST_KIND
  pub load_addr : rec.load_addr ≤ highest_load_addr rec.kind
  pub image : length rec.image ≤ MOST_IMAGE_BYTES
  pub args : AreArguments rec.args
  pub number_of_calls : length rec.calls < 2 ^ 32
  pub each_call : AllByRecursion IsCallEntry rec.calls
  pub how_it_ends : IsEnd rec.end

abbrev pub with_done : Recording → Finished → Recording
with_done base done = record base { checkpoints = done.checkpoints; last = done.last }

module _ (base : Recording) (opened : State) (every total : ℕ) (last : State) (done : Finished) where
  abbrev made : Recording
  made = with_done base done

  module _ (opens : IsOpening opened) (some : 0 < every) (run : run_from made opened total ≡ Some last) (are : AreDone opened.pages (first_states made opened every (multiples_below every total)) last done) where
    cut : AreCut made opened every total last opens some run done (length done.checkpoints)
    cut = are_cut made opened every total last opens some run done are

    last_at : done.last.count ≡ total
    last_at = ap (λ (c : CheckpointData). c.count) are.last ∙ count-run made opened total last opens run

    run_to_end : run_from made opened made.last.count ≡ Some last
    run_to_end = ap (run_from made opened) last_at ∙ run

    is_cut : IsCut made opened (first_states made opened every (length done.checkpoints)) last
    is_cut = record { checkpoints = cut.listed; end = cut.end; chain = chain_to_end made opened every total last opens some run (length done.checkpoints) cut.below }

    pub value : HasRest made → IsRecordingValue made
    value is = record {
      kind = is.kind;
      load_addr = is.load_addr;
      image = is.image;
      args = is.args;
      number_of_calls = is.number_of_calls;
      each_call = is.each_call;
      number_of_checkpoints = cut.few;
      each_checkpoint = are.each;
      counts_rise = subst (λ (l : List CheckpointData). Rise (Some 0) (map count_of l)) (sym cut.listed) (counts_rise made opened every total last opens some run (length done.checkpoints) cut.below);
      how_it_ends = is.how_it_ends;
      last = are.is;
      last_is_above = subst (λ (l : List CheckpointData). IsAbove (last_or None count_of l) done.last.count) (sym cut.listed) (subst (λ n. IsAbove (last_or None count_of (checkpoints_of (page_in opened.pages) (first_states made opened every (length done.checkpoints)))) n) (count-run made opened total last opens run ∙ sym last_at) (last_is_above made opened every total last opens some run (length done.checkpoints) cut.above));
      each_listing_is_needed = subst (λ (c : CheckpointData). AreNeeded [] (listings done.checkpoints ++ c.pages)) (sym cut.end) (subst (λ (l : List CheckpointData). AreNeeded [] (listings l ++ (checkpoint_of (page_in (memory_after opened.pages (first_states made opened every (length done.checkpoints)))) last).pages)) (sym cut.listed) (listings_are_needed made opened every total last opens some run (length done.checkpoints) cut.below));
    }

    by_distance : checkpoints_by made opened every ≡ done.checkpoints
    unfolding checkpoints_by
    by_distance = ap (λ n. kept_of (checkpoints_of (page_in opened.pages) (first_states made opened every (multiples_below every n)))) last_at ∙ sym are.listed

    end_by_distance : (checkpoints : List CheckpointData) → checkpoints ≡ done.checkpoints → end_checkpoint made opened every (length checkpoints) ≡ done.last
    unfolding end_checkpoint
    end_by_distance checkpoints same =
        ap (λ (l : List CheckpointData). checkpoint_of (page_in (state_at made opened (length l * every)).pages) (state_at made opened made.last.count)) same
        ∙ ap (checkpoint_of (page_in (state_at made opened (length done.checkpoints * every)).pages)) (state_at-run made opened made.last.count last run_to_end)
        ∙ sym (cut.end ∙ ap (λ (p : Pages). checkpoint_of (page_in p) last) (memory_of made opened every (length done.checkpoints)))

    pub recut_is : recut_of made opened every ≡ made
    unfolding recut_of
    recut_is =
        let checkpoints = by_distance in
        let end_is = end_by_distance (checkpoints_by made opened every) by_distance in
        λ i. record made { checkpoints = checkpoints i; last = end_is i }

    pub unbroken : end_break made last ≡ None → first_break made opened ≡ None
    unbroken ends = does_not_break made opened (first_states made opened every (length done.checkpoints)) last is_cut opens run_to_end (each_runs made opened every total last opens some run (length done.checkpoints) cut.below) ends

-- ---- recordings with the same calls

module _ (rec rec' : Recording) (calls : rec'.calls ≡ rec.calls) (count : rec'.last.count ≡ rec.last.count) where
  onward_same : (s : State) → onward rec' s ≡ onward rec s
  unfolding onward
  onward_same s = by_status s.status
    where
      by_ask : (ask : Option Ask) → asked rec' s ask ≡ asked rec s ask
      by_ask None = refl
      by_ask (Some ask) = ap (λ (l : List CallEntry). called s ask (slice_get l s.next_call)) calls

      by_next : (next : Next) → stepped rec' s next ≡ stepped rec s next
      by_next (Stepped t) = refl
      by_next Called = by_ask (ask_of s)
      by_next (Trapped number) = ap (λ n. Breaks (EarlyEnd n)) count

      by_status : (status : RunState) → onward_in rec' s status ≡ onward_in rec s status
      by_status Running = by_next (step s)
      by_status (Exited code) = ap (λ n. Breaks (EarlyEnd n)) count

  pub run_same : (n : ℕ) (s : State) → run_from rec' s n ≡ run_from rec s n
  unfolding run_from
  run_same zero s = refl
  run_same (suc n) s =
      let rest : (λ t. run_from rec' t n) ≡ (λ t. run_from rec t n) = λ i t. run_same n t i in
      ap (state_after (λ t. run_from rec' t n)) (onward_same s) ∙ ap (λ (follow : State → Option State). state_after follow (onward rec s)) rest

  runs_same : (opened : State) → run_from rec' opened ≡ run_from rec opened
  runs_same opened = λ i n. run_same n opened i

  pub states_same : (opened : State) (every n : ℕ) → first_states rec' opened every n ≡ first_states rec opened every n
  states_same opened every n = ap (λ (run : ℕ → Option State). map (λ j. unwrap_or (run (j * every)) opened) (range_with_len 1 n)) (runs_same opened)

  checkpoints_same : (opened : State) (every : ℕ) → checkpoints_by rec' opened every ≡ checkpoints_by rec opened every
  unfolding checkpoints_by
  checkpoints_same opened every =
      ap (λ n. kept_of (checkpoints_of (page_in opened.pages) (first_states rec' opened every (multiples_below every n)))) count
      ∙ ap (λ (states : List State). kept_of (checkpoints_of (page_in opened.pages) states)) (states_same opened every (multiples_below every rec.last.count))

  end_same : (opened : State) (every n : ℕ) → end_checkpoint rec' opened every n ≡ end_checkpoint rec opened every n
  unfolding end_checkpoint
  end_same opened every n =
      ap (λ k. checkpoint_of (page_in (state_at rec' opened (n * every)).pages) (state_at rec' opened k)) count
      ∙ ap (λ (run : ℕ → Option State). checkpoint_of (page_in (unwrap_or (run (n * every)) opened).pages) (unwrap_or (run rec.last.count) opened)) (runs_same opened)

-- and the same image, arguments and end
pub recut_same : (base : Recording) (done : Finished) (opened : State) (every : ℕ) → done.last.count ≡ base.last.count → recut_of base opened every ≡ recut_of (with_done base done) opened every
unfolding recut_of
recut_same base done opened every count =
    let checkpoints = checkpoints_same base (with_done base done) refl count opened every in
    let ends : end_checkpoint (with_done base done) opened every (length (checkpoints_by (with_done base done) opened every)) ≡ end_checkpoint base opened every (length (checkpoints_by base opened every)) =
    end_same base (with_done base done) refl count opened every (length (checkpoints_by (with_done base done) opened every)) ∙ ap (λ (l : List CheckpointData). end_checkpoint base opened every (length l)) checkpoints in
    sym (λ i. record base { checkpoints = checkpoints i; last = ends i })

-- ---- a recording that does not break

-- its run comes to its end
pub record Ends (rec : Recording) (s : State) (n : ℕ) : Type 0 where
  pub last : State
  pub run : run_from rec s n ≡ Some last
  pub end : end_break rec last ≡ None

no_second : {A : Type 0} (a b : Option A) → option_or a b ≡ None → b ≡ None
no_second None b none = none
no_second (Some x) b none = absurd cc

none_at : (s : State) (kind : Option BreakKind) → at_count s kind ≡ None → kind ≡ None
none_at s None none = refl
none_at s (Some kind) none = absurd cc

none_follows : (s : State) (kind : Option BreakKind) (follow : Option Break) → listed_or s kind follow ≡ None → follow ≡ None
none_follows s None follow none = none
none_follows s (Some kind) follow none = absurd cc

ends_from : (pages : Pages) (rec : Recording) (n : ℕ) (s : State) → first_break_from pages rec s n ≡ None → Ends rec s n
unfolding first_break_from run_from
ends_from pages rec zero s none = record {
  last = s;
  run = refl;
  end = no_second (checkpoint_break pages rec (end_place rec) rec.last s) (end_break rec s) (none_at s (option_or (checkpoint_break pages rec (end_place rec) rec.last s) (end_break rec s)) none);
}
ends_from pages rec (suc n) s none = by (λ t more. ends_from pages rec n t more) (onward rec s) refl (none_follows s (listed_break pages rec 1 rec.checkpoints s) (break_after s (λ t. first_break_from pages rec t n) (onward rec s)) none)
  where
    by : ((t : State) → first_break_from pages rec t n ≡ None → Ends rec t n) → (next : Onward) → onward rec s ≡ next → break_after s (λ t. first_break_from pages rec t n) next ≡ None → Ends rec s (suc n)
    by follow (Goes t) goes rest =
        let ends = follow t rest in
        record { last = ends.last; run = run-goes rec s t n goes ∙ ends.run; end = ends.end }
    by follow (Breaks kind) goes rest = absurd cc

pub reaches_end : (rec : Recording) (opened : State) → first_break rec opened ≡ None → Ends rec opened rec.last.count
reaches_end rec opened none = ends_from opened.pages rec rec.last.count opened none

-- ---- the same run with other checkpoints

pub is_recut : (program : Image) (base : Recording) (every offers : ℕ) (last : State) (done : Finished) → IsRecordingValue base → first_break base (opening program base.args) ≡ None → IsOpening (opening program base.args) → 0 < every
    → run_from base (opening program base.args) base.last.count ≡ Some last → offers * every ≤ base.last.count → base.last.count ≤ (offers + 1) * every
    → AreFinished (opening program base.args).pages (first_states base (opening program base.args) every offers) last done
    → IsRecut program base every (with_done base done)
is_recut program base every offers last done is none opens some run from upto fin =
    let opened : State = opening program base.args in
    let ends = reaches_end base opened none in
    let one : ends.last ≡ last = one_end (sym ends.run ∙ run) in
    let are = are_done base opened every base.last.count last opens some run offers done from upto fin in
    let count : done.last.count ≡ base.last.count = ap (λ (c : CheckpointData). c.count) are.last ∙ count-run base opened base.last.count last opens run in
    let made : Recording = with_done base done in
    let made_run : run_from made opened base.last.count ≡ Some last = run_same base made refl count base.last.count opened ∙ run in
    let made_are : AreDone opened.pages (first_states made opened every (multiples_below every base.last.count)) last done = subst (λ (l : List State). AreDone opened.pages l last done) (sym (states_same base made refl count opened every (multiples_below every base.last.count))) are in
    record {
      is = sym (recut_same base done opened every count ∙ recut_is base opened every base.last.count last done opens some made_run made_are);
      value = value base opened every base.last.count last done opens some made_run made_are (record { kind = is.kind; load_addr = is.load_addr; image = is.image; args = is.args; number_of_calls = is.number_of_calls; each_call = is.each_call; how_it_ends = is.how_it_ends });
      unbroken = unbroken base opened every base.last.count last done opens some made_run made_are (subst (λ (s : State). end_break base s ≡ None) one ends.end);
    }
  where
    one_end : {s t : State} → Some s ≡ Some t → s ≡ t
    one_end same = cc
