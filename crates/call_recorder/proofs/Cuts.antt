-- The checkpoints at the multiples of a distance, as they are kept at the end of a run.
use Rattle.std.specs.Prelude.{◌*◌, ◌/◌, map, unwrap_or, ◌^◌, is_some}
use Rattle.std.specs.List.{AllByRecursion, range_with_len}
use Rattle.std.specs.FinMap.{get}
use Rattle.std.proofs.Common.{◌≡◌, ℕ, zero, suc, ◌+◌, ◌-◌, ◌<◌, ◌≤◌, List, [], ◌∷◌, ◌++◌, length, take, Option, Some, None, refl, sym, ap, subst, ◌∙◌, arith, mul-le-mul_right, true, div-mul-le_self}
use Rattle.std.proofs.lemmas.List.{append-nil}
use Rattle.std.proofs.lemmas.List.FromFn.{map-range_with_len_more, take-map-range_with_len, length-map-range_with_len}
use Rattle.sl_model.specs.Pages.{Pages}
use Rattle.sl_model.specs.State.{State, IsOpening}
use Rattle.rec_format.specs.declared.recording.Recording.{Recording}
use Rattle.rec_format.specs.declared.recording.CheckpointData.{CheckpointData}
use Rattle.rec_format.specs.Rules.{Rise, IsAbove, last_or, count_of, AreNeeded, listings}
use Rattle.rec_format.specs.declared.recording.ListedPage.{ListedPage}
use Rattle.rec_format.proofs.Fronts.{Rise-join}
use Rattle.rec_format.proofs.Sums.{last_or-push}
use Rattle.rec_format.proofs.Listed.{flat_map-append}
use Rattle.replay.specs.Run.{run_from}
use Rattle.call_recorder.specs.Listing.{page_in, checkpoint_of, checkpoints_of, kept_of}
use Rattle.call_recorder.specs.Recut.{state_at, first_states, multiples_below, checkpoints_by, end_checkpoint}
use Rattle.call_recorder.specs.declared.kept.Finished.{Finished}
use Rattle.call_recorder.specs.Kept.{memory_after, AreDone}
use Rattle.call_recorder.proofs.Offers.{length-checkpoints_of, checkpoints_of-append, take_checkpoints, memory_after-push, few_kept, kept-front}
use Rattle.call_recorder.proofs.Chains.{Grows, Chain, needed}
use Rattle.call_recorder.proofs.Runs.{run-zero, run-add, state_at-run, comes_to, count-run, along, from_start, stay_mapped, below_end}

-- ---- states at multiples

pub first_states-more : (rec : Recording) (opened : State) (every n : ℕ) → first_states rec opened every (n + 1) ≡ first_states rec opened every n ++ state_at rec opened ((n + 1) * every) ∷ []
first_states-more rec opened every n = map-range_with_len_more (λ j. state_at rec opened (j * every)) 1 n (n + 1) (omega arith)

pub length-first_states : (rec : Recording) (opened : State) (every n : ℕ) → length (first_states rec opened every n) ≡ n
length-first_states rec opened every n = length-map-range_with_len (λ j. state_at rec opened (j * every)) 1 n

first_states-suc : (rec : Recording) (opened : State) (every n : ℕ) → first_states rec opened every (suc n) ≡ first_states rec opened every n ++ state_at rec opened (suc n * every) ∷ []
first_states-suc rec opened every n =
    let one : suc n ≡ n + 1 = omega arith in
    ap (first_states rec opened every) one ∙ first_states-more rec opened every n ∙ sym (ap (λ k. first_states rec opened every n ++ state_at rec opened (k * every) ∷ []) one)

-- the memory of the last of them
pub memory_of : (rec : Recording) (opened : State) (every n : ℕ) → memory_after opened.pages (first_states rec opened every n) ≡ (state_at rec opened (n * every)).pages
memory_of rec opened every zero =
    let none : zero * every ≡ 0 = omega arith in
    sym (ap (λ (s : State). s.pages) (ap (state_at rec opened) none ∙ state_at-run rec opened 0 opened (run-zero rec opened)))
memory_of rec opened every (suc n) = ap (memory_after opened.pages) (first_states-suc rec opened every n) ∙ memory_after-push opened.pages (first_states rec opened every n) (state_at rec opened (suc n * every))

-- ---- a run to its end

module _ (rec : Recording) (opened : State) (every : ℕ) (total : ℕ) (last : State) (opens : IsOpening opened) (some : 0 < every) (run : run_from rec opened total ≡ Some last) where
  at : ℕ → State
  at n = state_at rec opened (n * every)

  more : (m n : ℕ) → m ≤ n → m * every ≤ n * every
  more m n le = mul-le-mul_right every le

  run_at : (n : ℕ) → n * every ≤ total → run_from rec opened (n * every) ≡ Some (state_at rec opened (n * every))
  run_at n le = comes_to rec opened (n * every) total last le run

  count_at : (n : ℕ) → n * every ≤ total → (state_at rec opened (n * every)).count ≡ n * every
  count_at n le = count-run rec opened (n * every) (state_at rec opened (n * every)) opens (run_at n le)

  -- each of them is one of the run
  pub each_runs : (n : ℕ) → n * every ≤ total → AllByRecursion (λ t. run_from rec opened t.count ≡ Some t) (first_states rec opened every n)
  each_runs zero le = tt
  each_runs (suc n) le = subst (AllByRecursion (λ (t : State). run_from rec opened t.count ≡ Some t)) (sym (first_states-suc rec opened every n)) (join (first_states rec opened every n) (each_runs n below) (ap (run_from rec opened) (count_at (suc n) le) ∙ run_at (suc n) le))
    where
      below : n * every ≤ total
      below = omega (arith, mul-le-mul_right {m = n} {n = suc n} every (omega arith))

      join : (states : List State) → AllByRecursion (λ t. run_from rec opened t.count ≡ Some t) states → run_from rec opened (state_at rec opened (suc n * every)).count ≡ Some (state_at rec opened (suc n * every)) → AllByRecursion (λ t. run_from rec opened t.count ≡ Some t) (states ++ state_at rec opened (suc n * every) ∷ [])
      join [] all one = (one, tt)
      join (t ∷ states) all one = (all.0, join states all.1 one)

  -- ---- what they record

  grow : (m n : ℕ) (s t : State) → m ≤ n → run_from rec opened m ≡ Some s → run_from rec opened n ≡ Some t → Grows s.pages t.pages
  grow m n s t le first second q =
      let sum : m + (n - m) ≡ n = omega arith in
      let rest : run_from rec s (n - m) ≡ Some t = sym (run-add rec m (n - m) opened s first) ∙ ap (run_from rec opened) sum ∙ second in
      let one = from_start rec opened m s opens first in
      let two = along rec opened (n - m) s t opens one.in_run one.fits rest in
      stay_mapped opened s t q one.in_run two.in_run two.grows

  chain-push : (before : Pages) (states : List State) (t : State) → Chain before states → Grows (memory_after before states) t.pages → ((q : ℕ) → is_some (get t.pages q) ≡ true → q < 2 ^ 20) → Chain before (states ++ t ∷ [])
  chain-push before [] t chain grows below = (grows, below, tt)
  chain-push before (s ∷ states) t chain grows below = (chain.0, chain.1, chain-push s.pages states t chain.2 grows below)

  -- a further state of the run grows from them
  chain-next : (n i : ℕ) (t : State) → n * every ≤ i → i ≤ total → run_from rec opened i ≡ Some t → Chain opened.pages (first_states rec opened every n) → Chain opened.pages (first_states rec opened every n ++ t ∷ [])
  chain-next n i t le within comes chain =
      chain-push opened.pages (first_states rec opened every n) t chain
      (subst (λ (p : Pages). Grows p t.pages) (sym (memory_of rec opened every n)) (grow (n * every) i (state_at rec opened (n * every)) t le (run_at n (omega (arith, le, within))) comes))
      (λ q is. below_end t q (from_start rec opened i t opens comes).fits is)

  chain_of : (n : ℕ) → n * every ≤ total → Chain opened.pages (first_states rec opened every n)
  chain_of zero le = tt
  chain_of (suc n) le =
      let below : n * every ≤ suc n * every = mul-le-mul_right {m = n} {n = suc n} every (omega arith) in
      subst (Chain opened.pages) (sym (first_states-suc rec opened every n)) (chain-next n (suc n * every) (state_at rec opened (suc n * every)) below le (run_at (suc n) le) (chain_of n (omega (arith, below, le))))

  pub chain_to_end : (n : ℕ) → n * every ≤ total → Chain opened.pages (first_states rec opened every n ++ last ∷ [])
  chain_to_end n le = chain-next n total last le (omega arith) run (chain_of n le)

  -- ---- their counts rise

  abbrev listed_at : ℕ → List CheckpointData
  listed_at n = checkpoints_of (page_in opened.pages) (first_states rec opened every n)

  next_listed : (n : ℕ) → listed_at (suc n) ≡ listed_at n ++ checkpoint_of (page_in (memory_after opened.pages (first_states rec opened every n))) (state_at rec opened (suc n * every)) ∷ []
  next_listed n = ap (checkpoints_of (page_in opened.pages)) (first_states-suc rec opened every n) ∙ checkpoints_of-append opened.pages (first_states rec opened every n) (state_at rec opened (suc n * every) ∷ [])

  last_count : (before : Option ℕ) (n : ℕ) → suc n * every ≤ total → last_or before count_of (listed_at (suc n)) ≡ Some (suc n * every)
  last_count before n le =
      ap (last_or before count_of) (next_listed n)
      ∙ last_or-push before count_of (listed_at n) (checkpoint_of (page_in (memory_after opened.pages (first_states rec opened every n))) (state_at rec opened (suc n * every)))
      ∙ ap Some (count_at (suc n) le)

  pub counts_rise : (n : ℕ) → n * every ≤ total → Rise (Some 0) (map count_of (listed_at n))
  counts_rise zero le = tt
  counts_rise (suc n) le =
      let below : n * every ≤ suc n * every = mul-le-mul_right {m = n} {n = suc n} every (omega arith) in
      let c : CheckpointData = checkpoint_of (page_in (memory_after opened.pages (first_states rec opened every n))) (state_at rec opened (suc n * every)) in
      subst (λ (l : List CheckpointData). Rise (Some 0) (map count_of l)) (sym (next_listed n))
      (Rise-join (Some 0) count_of (listed_at n) (c ∷ []) (counts_rise n (omega (arith, below, le))) (above n le, tt))
    where
      above : (n : ℕ) → suc n * every ≤ total → IsAbove (last_or (Some 0) count_of (listed_at n)) (state_at rec opened (suc n * every)).count
      above zero le = rw (count_at 1 le) (omega arith)
      above (suc n) le =
          let step : suc n * every + every ≡ suc (suc n) * every = omega arith in
          rw (last_count (Some 0) n (omega arith), count_at (suc (suc n)) le) (omega arith)

  pub last_is_above : (n : ℕ) → (0 < n → n * every < total) → IsAbove (last_or None count_of (listed_at n)) last.count
  last_is_above zero below = tt
  last_is_above (suc n) below =
      let lt : suc n * every < total = below (omega arith) in
      rw (last_count None n (omega arith), count-run rec opened total last opens run) lt

  -- ---- and each listing is needed

  pub listings_are_needed : (n : ℕ) → n * every ≤ total → AreNeeded [] (listings (listed_at n) ++ (checkpoint_of (page_in (memory_after opened.pages (first_states rec opened every n))) last).pages)
  listings_are_needed n le =
      let c : CheckpointData = checkpoint_of (page_in (memory_after opened.pages (first_states rec opened every n))) last in
      let all = needed opened.pages opened.pages [] (first_states rec opened every n ++ last ∷ []) (chain_to_end n le) (λ q. refl) in
      let split : listings (checkpoints_of (page_in opened.pages) (first_states rec opened every n ++ last ∷ [])) ≡ listings (listed_at n) ++ c.pages =
      ap listings (checkpoints_of-append opened.pages (first_states rec opened every n) (last ∷ []))
      ∙ flat_map-append (λ (d : CheckpointData). d.pages) (listed_at n) (c ∷ [])
      ∙ ap (λ (l : List ListedPage). listings (listed_at n) ++ l) (append-nil c.pages) in
      subst (AreNeeded []) split all

  -- ---- as they are kept

  -- what the end of a run leaves of its checkpoints, of which so many are kept
  pub record AreCut (done : Finished) (m : ℕ) : Type 0 where
    pub number : length done.checkpoints ≡ m
    pub few : m ≤ 4095
    pub within : m ≤ multiples_below every total
    pub below : m * every ≤ total
    pub above : 0 < m → m * every < total
    pub listed : done.checkpoints ≡ listed_at m
    pub end : done.last ≡ checkpoint_of (page_in (memory_after opened.pages (first_states rec opened every m))) last

  multiples : (m n : ℕ) → m ≤ n → n * every ≤ total → m * every ≤ total
  multiples m n le within = omega (arith, mul-le-mul_right {m = m} {n = n} every le)

  below_total : (n : ℕ) → n ≡ multiples_below every total → n * every ≤ total
  below_total n is = omega (arith, div-mul-le_self (total - 1) every, ap (λ k. k * every) is)

  strictly : (m n : ℕ) → m ≤ n → n ≡ multiples_below every total → 0 < m → m * every < total
  strictly m n le is one =
      let most : n * every ≤ total - 1 = omega (arith, div-mul-le_self (total - 1) every, ap (λ k. k * every) is) in
      let up : m * every ≤ n * every = mul-le-mul_right {m = m} {n = n} every le in
      let some_more : 1 * every ≤ m * every = mul-le-mul_right {m = 1} {n = m} every (omega arith) in
      omega arith

  pub are_cut : (done : Finished) → AreDone opened.pages (first_states rec opened every (multiples_below every total)) last done → AreCut done (length done.checkpoints)
  are_cut done are =
      let n : ℕ = multiples_below every total in
      let all : List CheckpointData = listed_at n in
      let e = ap length are.listed in
      let few = few_kept all in
      let at_most = few.0 in
      let le = few.1 in
      let long = length-checkpoints_of (page_in opened.pages) (first_states rec opened every n) in
      let states = length-first_states rec opened every n in
      let m_le : length done.checkpoints ≤ n = omega arith in
      let front : take (length done.checkpoints) (first_states rec opened every n) ≡ first_states rec opened every (length done.checkpoints) = take-map-range_with_len (λ j. state_at rec opened (j * every)) 1 n (length done.checkpoints) m_le in
      record {
        number = refl;
        few = omega arith;
        within = m_le;
        below = multiples (length done.checkpoints) n m_le (below_total n refl);
        above = λ one. strictly (length done.checkpoints) n m_le refl one;
        listed = are.listed ∙ kept-front all ∙ ap (λ k. take k all) (sym e) ∙ take_checkpoints (page_in opened.pages) (length done.checkpoints) (first_states rec opened every n) ∙ ap (checkpoints_of (page_in opened.pages)) front;
        end = are.last ∙ ap (λ (l : List State). checkpoint_of (page_in (memory_after opened.pages l)) last) front;
      }
