-- A recording whose checkpoints are states of its own run does not break.
use Rattle.std.specs.Prelude.{if◌then◌else◌, ◌==◌, ◌^◌, ◌*◌, is_some, unwrap_or, drop}
use Rattle.std.specs.List.{AllByRecursion, range_with_len}
use Rattle.std.specs.Option.{option_or}
use Rattle.std.specs.FinMap.{get}
use Rattle.std.proofs.Common.{◌≡◌, ℕ, zero, suc, ◌+◌, ◌-◌, ◌<◌, ◌≤◌, ⊎_elim, Bool, true, false, List, [], ◌∷◌, ◌++◌, length, take, Option, Some, None, refl, sym, ap, subst, ◌∙◌, arith, append_assoc, eq-eqb, eqb-true, length-append}
use Rattle.std.proofs.lemmas.Bool.{cases_lt}
use Rattle.std.proofs.lemmas.List.{length_push, take-append-le, take_all, append-nil}
use Rattle.sl_model.specs.Pages.{Pages}
use Rattle.sl_model.specs.Mapping.{zero_page}
use Rattle.sl_model.specs.State.{State, IsOpening}
use Rattle.call_log.specs.declared.breaks.BreakKind.{BreakKind}
use Rattle.rec_format.specs.declared.recording.Recording.{Recording}
use Rattle.rec_format.specs.declared.recording.CheckpointData.{CheckpointData}
use Rattle.rec_format.specs.Rules.{listings}
use Rattle.rec_format.specs.Recorded.{all_checkpoints, end_place, listed_to, recorded_page, last_listing, is_listed}
use Rattle.rec_format.specs.Compared.{PartDiff, part_diff, parts_diff, bytes_diff, page_diff, pages_diff, machine_diff, checkpoint_diff, checkpoint_break, as_checkpoint_break, missing_diff, PAGE_NUMBERS}
use Rattle.rec_format.proofs.SameState.{bytes_diff-same}
use Rattle.replay.specs.Run.{Goes, onward, run_from}
use Rattle.replay.specs.Breaks.{listed_break, end_break, at_count, listed_or, break_after, first_break_from, first_break}
use Rattle.call_recorder.specs.Listing.{page_in, checkpoint_of, checkpoints_of}
use Rattle.call_recorder.specs.Kept.{memory_after}
use Rattle.call_recorder.proofs.Offers.{length-checkpoints_of, checkpoints_of-append, take_checkpoints}
use Rattle.call_recorder.proofs.Chains.{Chain, chain-front, recorded_memory, listed_stay_mapped}
use Rattle.call_recorder.proofs.Runs.{first, run-zero, run-add, run-next, count-run}

-- ---- a state beside itself

part_same : (part n : ℕ) → part_diff part n n ≡ None
part_same part n = rw (eq-eqb n n refl) refl

parts_same : (part : ℕ) (xs : List ℕ) → parts_diff part xs xs ≡ None
parts_same part [] = refl
parts_same part (x ∷ xs) = ap (λ o. option_or o (parts_diff (part + 1) xs xs)) (part_same part x) ∙ parts_same (part + 1) xs

machine_same : (recorded : ℕ → List ℕ) (s : State) → machine_diff (checkpoint_of recorded s) s ≡ None
unfolding machine_diff
machine_same recorded s =
    ap (λ o. option_or o (option_or (parts_diff 1 (drop 1 s.x) (drop 1 s.x)) (option_or (part_diff 32 s.brk s.brk) (option_or (part_diff 33 s.brk_end s.brk_end) (part_diff 34 s.next_call s.next_call))))) (part_same 0 s.pc)
    ∙ ap (λ o. option_or o (option_or (part_diff 32 s.brk s.brk) (option_or (part_diff 33 s.brk_end s.brk_end) (part_diff 34 s.next_call s.next_call)))) (parts_same 1 (drop 1 s.x))
    ∙ ap (λ o. option_or o (option_or (part_diff 33 s.brk_end s.brk_end) (part_diff 34 s.next_call s.next_call))) (part_same 32 s.brk)
    ∙ ap (λ o. option_or o (part_diff 34 s.next_call s.next_call)) (part_same 33 s.brk_end)
    ∙ part_same 34 s.next_call

-- ---- its pages beside the recorded ones

page_same : (opened : Pages) (rec : Recording) (k q : ℕ) (page : Option (List ℕ)) → (recorded : (d : List ℕ) → page ≡ Some d → recorded_page opened rec k q ≡ d) → (is_listed (listed_to rec k) q ≡ true → is_some page ≡ true) → page_diff opened rec k q page ≡ None
page_same opened rec k q None recorded mapped = chosen (is_listed (listed_to rec k) q) refl
  where
    chosen : (b : Bool) → is_listed (listed_to rec k) q ≡ b → (if b then Some (missing_diff q) else None) ≡ None
    chosen true is =
        let never : false ≡ true = mapped is in
        absurd cc
    chosen false is = refl
page_same opened rec k q (Some bytes) recorded mapped = ap (λ r. bytes_diff (q * 4096) r bytes) (recorded bytes refl) ∙ bytes_diff-same (q * 4096) bytes

pages_same : (opened : Pages) (rec : Recording) (k : ℕ) (s : State) (numbers : List ℕ) → ((q : ℕ) → page_diff opened rec k q (get s.pages q) ≡ None) → pages_diff opened rec k s numbers ≡ None
pages_same opened rec k s [] same = refl
pages_same opened rec k s (q ∷ numbers) same = ap (λ o. option_or o (pages_diff opened rec k s numbers)) (same q) ∙ pages_same opened rec k s numbers same

-- ---- the checkpoints of some states, and the end's

pub record IsCut (rec : Recording) (opened : State) (states : List State) (last : State) : Type 0 where
  pub checkpoints : rec.checkpoints ≡ checkpoints_of (page_in opened.pages) states
  pub end : rec.last ≡ checkpoint_of (page_in (memory_after opened.pages states)) last
  pub chain : Chain opened.pages (states ++ last ∷ [])

module _ (rec : Recording) (opened : State) (states : List State) (last : State) (cut : IsCut rec opened states last) where
  all_are : all_checkpoints rec ≡ checkpoints_of (page_in opened.pages) (states ++ last ∷ [])
  all_are =
      ap (λ (l : List CheckpointData). l ++ rec.last ∷ []) cut.checkpoints
      ∙ ap (λ (c : CheckpointData). checkpoints_of (page_in opened.pages) states ++ c ∷ []) cut.end
      ∙ sym (checkpoints_of-append opened.pages states (last ∷ []))

  module _ (before rest : List State) (s : State) (k : ℕ) (split : states ++ last ∷ [] ≡ before ++ s ∷ rest) (number : k ≡ length before + 1) where
    up_to : take k (states ++ last ∷ []) ≡ before ++ s ∷ []
    up_to =
        ap (take k) (split ∙ sym (append_assoc before (s ∷ []) rest))
        ∙ take-append-le k (before ++ s ∷ []) rest (omega (arith, length_push before s))
        ∙ take_all k (before ++ s ∷ []) (omega (arith, length_push before s))

    listed_are : listed_to rec k ≡ listings (checkpoints_of (page_in opened.pages) (before ++ s ∷ []))
    listed_are = ap listings (ap (take k) all_are ∙ take_checkpoints (page_in opened.pages) k (states ++ last ∷ []) ∙ ap (checkpoints_of (page_in opened.pages)) up_to)

    chain_to : Chain opened.pages (before ++ s ∷ [])
    chain_to = chain-front opened.pages (before ++ s ∷ []) rest (subst (Chain opened.pages) (split ∙ sym (append_assoc before (s ∷ []) rest)) cut.chain)

    at_last : memory_after opened.pages (before ++ s ∷ []) ≡ s.pages
    at_last = by opened.pages before
      where
        by : (pages : Pages) (before : List State) → memory_after pages (before ++ s ∷ []) ≡ s.pages
        by pages [] = refl
        by pages (t ∷ before) = by t.pages before

    recorded_is : (q : ℕ) → recorded_page opened.pages rec k q ≡ page_in s.pages q
    recorded_is q =
        ap (λ l. last_listing (page_in opened.pages q) l q) listed_are
        ∙ recorded_memory (page_in opened.pages q) opened.pages (before ++ s ∷ []) q chain_to refl
        ∙ ap (λ (p : Pages). page_in p q) at_last

    pub nothing_differs : checkpoint_break opened.pages rec k (checkpoint_of (page_in (memory_after opened.pages before)) s) s ≡ None
    unfolding checkpoint_diff
    nothing_differs =
        ap (as_checkpoint_break k)
        (ap (λ o. option_or o (pages_diff opened.pages rec k s PAGE_NUMBERS)) (machine_same (page_in (memory_after opened.pages before)) s)
        ∙ pages_same opened.pages rec k s PAGE_NUMBERS (λ q. page_same opened.pages rec k q (get s.pages q)
        (λ bytes is. recorded_is q ∙ ap (λ o. unwrap_or o zero_page) is)
        (λ listed. sym (ap (λ (p : Pages). is_some (get p q)) at_last) ∙ listed_stay_mapped opened.pages (before ++ s ∷ []) q chain_to (sym (ap (λ l. is_listed l q) listed_are) ∙ listed))))

  -- ---- along the run

  module _ (opens : IsOpening opened) (run : run_from rec opened rec.last.count ≡ Some last) (each : AllByRecursion (λ t. run_from rec opened t.count ≡ Some t) states) (ends : end_break rec last ≡ None) where
    none_listed : (before rest : List State) (s : State) (k : ℕ) → states ≡ before ++ rest → k ≡ length before + 1 → AllByRecursion (λ t. run_from rec opened t.count ≡ Some t) rest → run_from rec opened s.count ≡ Some s
        → listed_break opened.pages rec k (checkpoints_of (page_in (memory_after opened.pages before)) rest) s ≡ None
    none_listed before [] s k split number all on = refl
    none_listed before (t ∷ rest) s k split number all on =
        let c : CheckpointData = checkpoint_of (page_in (memory_after opened.pages before)) t in
        let next : states ≡ (before ++ t ∷ []) ++ rest = split ∙ sym (append_assoc before (t ∷ []) rest) in
        let memory : memory_after opened.pages (before ++ t ∷ []) ≡ t.pages = last_memory opened.pages before in
        ap (λ o. option_or o (listed_break opened.pages rec (k + 1) (checkpoints_of (page_in t.pages) rest) s)) (here (t.count == s.count) refl)
        ∙ sym (ap (λ (p : Pages). listed_break opened.pages rec (k + 1) (checkpoints_of (page_in p) rest) s) memory)
        ∙ none_listed (before ++ t ∷ []) rest s (k + 1) next (omega (arith, number, length_push before t)) all.1 on
      where
        last_memory : (pages : Pages) (before : List State) → memory_after pages (before ++ t ∷ []) ≡ t.pages
        last_memory pages [] = refl
        last_memory pages (u ∷ before) = last_memory u.pages before

        same : Some t ≡ Some s → t ≡ s
        same is = cc

        there : states ++ last ∷ [] ≡ before ++ t ∷ (rest ++ last ∷ [])
        there = ap (λ (l : List State). l ++ last ∷ []) split ∙ append_assoc before (t ∷ rest) (last ∷ [])

        here : (b : Bool) → (t.count == s.count) ≡ b → (if b then checkpoint_break opened.pages rec k (checkpoint_of (page_in (memory_after opened.pages before)) t) s else None) ≡ None
        here true is =
            let one : t ≡ s = same (sym all.0 ∙ ap (run_from rec opened) (eqb-true t.count s.count is) ∙ on) in
            ap (checkpoint_break opened.pages rec k (checkpoint_of (page_in (memory_after opened.pages before)) t)) (sym one)
            ∙ nothing_differs before (rest ++ last ∷ []) t k there number
        here false is = refl

    one_state : (s t : State) → Some s ≡ Some t → s ≡ t
    one_state s t is = cc

    none_at_end : at_count last (option_or (checkpoint_break opened.pages rec (end_place rec) rec.last last) (end_break rec last)) ≡ None
    none_at_end =
        let place : end_place rec ≡ length states + 1 = omega (arith, ap length cut.checkpoints, length-checkpoints_of (page_in opened.pages) states) in
        ap (λ o. at_count last (option_or o (end_break rec last))) (ap (λ c. checkpoint_break opened.pages rec (end_place rec) c last) cut.end ∙ nothing_differs states [] last (end_place rec) refl place)
        ∙ ap (at_count last) ends

    none_from : (n i : ℕ) (s : State) → i + n ≡ rec.last.count → run_from rec opened i ≡ Some s → first_break_from opened.pages rec s n ≡ None
    unfolding first_break_from
    none_from zero i s sum on =
        let same : s ≡ last = one_state s last (sym on ∙ ap (run_from rec opened) (omega arith) ∙ run) in
        ap (λ (t : State). at_count t (option_or (checkpoint_break opened.pages rec (end_place rec) rec.last t) (end_break rec t))) same ∙ none_at_end
    none_from (suc n) i s sum on =
        let count : s.count ≡ i = count-run rec opened i s opens on in
        let listed : listed_break opened.pages rec 1 rec.checkpoints s ≡ None = ap (λ cs. listed_break opened.pages rec 1 cs s) cut.checkpoints ∙ none_listed [] states s 1 refl (omega arith) each (ap (run_from rec opened) count ∙ on) in
        let all : run_from rec s (suc n) ≡ Some last = sym (run-add rec i (suc n) opened s on) ∙ ap (run_from rec opened) sum ∙ run in
        let one = first rec s n last all in
        ap (λ o. listed_or s o (break_after s (λ t. first_break_from opened.pages rec t n) (onward rec s))) listed
        ∙ ap (break_after s (λ t. first_break_from opened.pages rec t n)) one.goes
        ∙ none_from n (i + 1) one.next (omega (arith, sum)) (run-next rec i opened s one.next on one.goes)

    pub does_not_break : first_break rec opened ≡ None
    does_not_break = none_from rec.last.count 0 opened (omega arith) (run-zero rec opened)
