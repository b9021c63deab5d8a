-- The checkpoints of a run that has ended.
use Rattle.std.specs.Prelude.{slice_get, Contains}
use Rattle.std.specs.List.{AllByRecursion}
use Rattle.std.specs.FinMap.{get}
use Rattle.std.proofs.Common.{◌≡◌, ℕ, zero, suc, ◌+◌, ◌-◌, ◌<◌, ◌≤◌, ◌⊎◌, inl, inr, ⊎_elim, List, [], ◌∷◌, ◌++◌, length, take, Option, Some, None, refl, sym, ap, subst, ◌∙◌, arith}
use Rattle.std.proofs.lemmas.List.{length_push, take_all, take-append-le}
use Rattle.sl_model.specs.Pages.{Pages}
use Rattle.sl_model.specs.State.{State}
use Rattle.page_frames.specs.MarkedPages.{MarkedPages}
use Rattle.rec_format.specs.declared.recording.CheckpointData.{CheckpointData}
use Rattle.rec_format.specs.Rules.{IsCheckpoint}
use Rattle.rec_format.proofs.Fronts.{All-front, All-back}
use Rattle.call_recorder.specs.Listing.{page_in, checkpoint_of, checkpoints_of, kept_of}
use Rattle.call_recorder.specs.declared.kept.Kept.{Kept}
use Rattle.call_recorder.specs.declared.kept.Finished.{Finished}
use Rattle.call_recorder.specs.Kept.{recorded_in, memory_after, AreKept, AreDone, AreFinished, EndsAt}
use Rattle.call_recorder.proofs.Offers.{AreAllKept, length-checkpoints_of, checkpoints_of-append, counts_below, one_more_kept, few_kept, all_kept}

-- ---- lists with a last item

record SameEnds (xs ys : List CheckpointData) (x y : CheckpointData) : Type 0 where
  pub front : xs ≡ ys
  pub last : x ≡ y

same_ends : (xs ys : List CheckpointData) (x y : CheckpointData) → xs ++ x ∷ [] ≡ ys ++ y ∷ [] → SameEnds xs ys x y
same_ends [] [] x y same = record { front = refl; last = cc }
same_ends [] (b ∷ []) x y same = absurd cc
same_ends [] (b ∷ c ∷ ys) x y same = absurd cc
same_ends (a ∷ []) [] x y same = absurd cc
same_ends (a ∷ c ∷ xs) [] x y same = absurd cc
same_ends (a ∷ xs) (b ∷ ys) x y same =
    let head : a ≡ b = cc in
    let rest = same_ends xs ys x y cc in
    record { front = ap (λ (z : CheckpointData). z ∷ xs) head ∙ ap (λ (l : List CheckpointData). b ∷ l) rest.front; last = rest.last }

last_of : (xs : List CheckpointData) (x : CheckpointData) (n : ℕ) → AllByRecursion (λ c. c.count < n) (xs ++ x ∷ []) → x.count < n
last_of xs x n all = (All-back (λ c. c.count < n) xs (x ∷ []) all).0

-- what stands last in a list
pub ends_with : (xs : List CheckpointData) (x : CheckpointData) → Some x ≡ slice_get xs (length xs - 1) → (before : List CheckpointData) × (xs ≡ before ++ x ∷ [])
ends_with [] x is = absurd cc
ends_with (y ∷ []) x is =
    let same : x ≡ y = cc in
    ([], ap (λ (z : CheckpointData). z ∷ []) (sym same))
ends_with (y ∷ z ∷ xs) x is =
    let place : length (y ∷ z ∷ xs) - 1 ≡ suc (length (z ∷ xs) - 1) = omega arith in
    let rest = ends_with (z ∷ xs) x (is ∙ ap (slice_get (y ∷ z ∷ xs)) place) in
    (y ∷ rest.0, ap (λ (l : List CheckpointData). y ∷ l) rest.1)

pub last_is : (before : List CheckpointData) (x : CheckpointData) → slice_get (before ++ x ∷ []) (length (before ++ x ∷ []) - 1) ≡ Some x
last_is [] x = refl
last_is (y ∷ []) x = refl
last_is (y ∷ z ∷ before) x =
    let place : length (y ∷ z ∷ (before ++ x ∷ [])) - 1 ≡ suc (length (z ∷ (before ++ x ∷ [])) - 1) = omega arith in
    ap (slice_get (y ∷ z ∷ (before ++ x ∷ []))) place ∙ last_is (z ∷ before) x

-- ---- where the last checkpoint is that of the end

module _ (opened : Pages) (kept : Kept) (f : MarkedPages) (s : State) (done : Finished) where
  -- the checkpoints of states before a count are below it
  all_below : (states : List State) → AllByRecursion (λ t. t.count < s.count) states → AllByRecursion (λ c. c.count < s.count) (kept_of (checkpoints_of (page_in opened) states))
  all_below states below = all_kept (λ c. c.count < s.count) (checkpoints_of (page_in opened) states) (counts_below s.count (page_in opened) states below)

  last_checkpoint : List State → CheckpointData
  last_checkpoint before = checkpoint_of (page_in (memory_after opened before)) s

  module _ (states : List State) (are : AreKept opened states kept f) where
    module _ (popped : kept.checkpoints ≡ done.checkpoints ++ done.last ∷ []) (at : done.last.count ≡ s.count) where
      not_below : (checkpoints : List CheckpointData) → AllByRecursion (λ c. c.count < s.count) checkpoints → kept.checkpoints ≡ checkpoints → ⊥
      not_below checkpoints below same =
          let lt = last_of done.checkpoints done.last s.count (subst (AllByRecursion (λ (c : CheckpointData). c.count < s.count)) (sym same ∙ popped) below) in
          omega arith

      popped_offered : (before : List State) → states ≡ before ++ s ∷ [] → AllByRecursion (λ t. t.count < s.count) before → AreDone opened before s done
      unfolding last_checkpoint
      popped_offered before is below =
          let all : kept.checkpoints ≡ kept_of (checkpoints_of (page_in opened) before ++ last_checkpoint before ∷ []) = are.listed ∙ ap (λ (l : List State). kept_of (checkpoints_of (page_in opened) l)) is ∙ ap kept_of (checkpoints_of-append opened before (s ∷ [])) in
          ⊎_elim
          (λ (same : kept_of (checkpoints_of (page_in opened) before ++ last_checkpoint before ∷ []) ≡ kept_of (checkpoints_of (page_in opened) before)). absurd (not_below (kept_of (checkpoints_of (page_in opened) before)) (all_below before below) (all ∙ same)))
          (λ (both : AreAllKept (checkpoints_of (page_in opened) before) (last_checkpoint before)).
          let ends = same_ends done.checkpoints (checkpoints_of (page_in opened) before) done.last (last_checkpoint before) (sym popped ∙ all ∙ both.more) in
          let long : length done.checkpoints ≡ length before = ap length ends.front ∙ length-checkpoints_of (page_in opened) before in
          let each : AllByRecursion IsCheckpoint (done.checkpoints ++ done.last ∷ []) = subst (AllByRecursion IsCheckpoint) popped are.each in
          record {
            listed = ends.front ∙ sym both.before;
            last = ends.last ∙ sym (ap (λ (states : List State). last_checkpoint states) (take_all (length done.checkpoints) before (omega (arith, long))));
            each = All-front IsCheckpoint done.checkpoints (done.last ∷ []) each;
            is = (All-back IsCheckpoint done.checkpoints (done.last ∷ []) each).0;
          })
          (one_more_kept (checkpoints_of (page_in opened) before) (last_checkpoint before))

      pub popped_is_finished : AreFinished opened states s done
      popped_is_finished = record {
        apart = λ below. absurd (not_below (kept_of (checkpoints_of (page_in opened) states)) (all_below states below) are.listed);
        offered = popped_offered;
      }

    -- ---- and where it is not

    module _ (same : done.checkpoints ≡ kept.checkpoints) (last : done.last ≡ checkpoint_of (recorded_in kept.memory) s) (is : IsCheckpoint done.last) (apart : EndsAt kept.checkpoints s.count → ⊥) where
      recorded_is : recorded_in kept.memory ≡ page_in (memory_after opened (take (length done.checkpoints) states))
      recorded_is = (λ i q. are.recorded q i) ∙ ap (λ (l : List CheckpointData). page_in (memory_after opened (take (length l) states))) (sym same)

      last_is_so : done.last ≡ checkpoint_of (page_in (memory_after opened (take (length done.checkpoints) states))) s
      last_is_so = last ∙ ap (λ (r : ℕ → List ℕ). checkpoint_of r s) recorded_is

      each : AllByRecursion IsCheckpoint done.checkpoints
      each = rw same are.each

      made_offered : (before : List State) → states ≡ before ++ s ∷ [] → AllByRecursion (λ t. t.count < s.count) before → AreDone opened before s done
      unfolding last_checkpoint
      made_offered before split below =
          let all : kept.checkpoints ≡ kept_of (checkpoints_of (page_in opened) before ++ last_checkpoint before ∷ []) = are.listed ∙ ap (λ (l : List State). kept_of (checkpoints_of (page_in opened) l)) split ∙ ap kept_of (checkpoints_of-append opened before (s ∷ [])) in
          ⊎_elim
          (λ (fewer : kept_of (checkpoints_of (page_in opened) before ++ last_checkpoint before ∷ []) ≡ kept_of (checkpoints_of (page_in opened) before)).
          let listed : done.checkpoints ≡ kept_of (checkpoints_of (page_in opened) before) = same ∙ all ∙ fewer in
          let e = ap length listed in
          let k = (few_kept (checkpoints_of (page_in opened) before)).1 in
          let le : length done.checkpoints ≤ length before = omega (arith, length-checkpoints_of (page_in opened) before) in
          record {
            listed = listed;
            last = last_is_so ∙ ap (λ (l : List State). checkpoint_of (page_in (memory_after opened l)) s) (ap (take (length done.checkpoints)) split ∙ take-append-le (length done.checkpoints) before (s ∷ []) le);
            each = each;
            is = is;
          })
          (λ (both : AreAllKept (checkpoints_of (page_in opened) before) (last_checkpoint before)).
          absurd (apart (checkpoints_of (page_in opened) before, last_checkpoint before, all ∙ both.more, refl)))
          (one_more_kept (checkpoints_of (page_in opened) before) (last_checkpoint before))

      pub made_is_finished : AreFinished opened states s done
      made_is_finished = record {
        apart = λ below. record { listed = same ∙ are.listed; last = last_is_so; each = each; is = is };
        offered = made_offered;
      }

-- the last of a list that ends at a count
pub same_last : (all before : List CheckpointData) (last : CheckpointData) (n : ℕ) → all ≡ before ++ last ∷ [] → EndsAt all n → last.count ≡ n
same_last all before last n is ends =
    let same = same_ends before ends.0 last ends.1 (sym is ∙ ends.2) in
    ap (λ (c : CheckpointData). c.count) same.last ∙ ends.3
