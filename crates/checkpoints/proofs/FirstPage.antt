-- The first page that differs.
use Rattle.std.proofs.Common.{◌≡◌, ℕ, zero, suc, ◌+◌, ◌*◌, ◌^◌, ◌<◌, ◌≤◌, Bool, true, false, List, inl, inr, Some, None, refl, ap, ◌∙◌, sym, arith, ⊎_elim}
use Rattle.std.specs.Prelude.{Option, IfSome, IsSome, is_some, if◌then◌else◌, nat_lt}
use Rattle.std.specs.Option.{option_or}
use Rattle.std.specs.List.{range_with_len}
use Rattle.std.specs.FinMap.{get, contains_key}
use Rattle.std.proofs.lemmas.Bool.{cases_lt, cases_eq}
use Rattle.std.proofs.lemmas.Grind.{common_steps}
use Rattle.sl_model.specs.Pages.{Pages}
use Rattle.sl_model.specs.State.{State}
use Rattle.call_log.specs.declared.breaks.BreakKind.{BreakKind}
use Rattle.rec_format.specs.declared.recording.Recording.{Recording}
use Rattle.sl_model.specs.declared.layout.TheConstants.{PROGRAM_PAGES}
use Rattle.rec_format.specs.Recorded.{listed_to, is_listed}
use Rattle.rec_format.specs.Compared.{PartDiff, page_diff, pages_diff, as_checkpoint_break, PAGE_NUMBERS}
use Rattle.checkpoints.specs.Memory.{mapped_diff, IsFirstUnlike, missing_break, told_first}
use Rattle.checkpoints.proofs.Missing.{IsLeastMissing}

-- ---- over a run of numbers

none_of : (opened : Pages) (rec : Recording) (k : ℕ) (s : State) (a count : ℕ) → ((q : ℕ) → q < a + count → page_diff opened rec k q (get s.pages q) ≡ None)
    → pages_diff opened rec k s (range_with_len a count) ≡ None
none_of opened rec k s a zero none = refl
none_of opened rec k s a (suc count) none = rw (none a (omega arith)) (none_of opened rec k s (a + 1) count (λ q lt. none q (omega arith)))

first_of : (opened : Pages) (rec : Recording) (k : ℕ) (s : State) (a count n : ℕ) (d : PartDiff) → a ≤ n → n < a + count → ((q : ℕ) → q < n → page_diff opened rec k q (get s.pages q) ≡ None)
    → page_diff opened rec k n (get s.pages n) ≡ Some d → pages_diff opened rec k s (range_with_len a count) ≡ Some d
first_of opened rec k s a zero n d from to none found = absurd (omega arith)
first_of opened rec k s a (suc count) n d from to none found = ⊎_elim
    (λ (same : a ≡ n). rw (same, found) refl)
    (λ (differ : (a ≡ n) → ⊥). rw (none a (omega arith)) (first_of opened rec k s (a + 1) count n d (omega arith) (omega arith) none found))
    (cases_eq a n)

-- ---- over all numbers

all_none : (opened : Pages) (rec : Recording) (k : ℕ) (s : State) → ((q : ℕ) → page_diff opened rec k q (get s.pages q) ≡ None) → pages_diff opened rec k s PAGE_NUMBERS ≡ None
unfolding PAGE_NUMBERS
all_none opened rec k s none = none_of opened rec k s 0 (2 ^ 20) (λ q lt. none q)

first_one : (opened : Pages) (rec : Recording) (k : ℕ) (s : State) (n : ℕ) (d : PartDiff) → n < 2 ^ 20 → ((q : ℕ) → q < n → page_diff opened rec k q (get s.pages q) ≡ None)
    → page_diff opened rec k n (get s.pages n) ≡ Some d → pages_diff opened rec k s PAGE_NUMBERS ≡ Some d
unfolding PAGE_NUMBERS
first_one opened rec k s n d lt none found = first_of opened rec k s 0 (2 ^ 20) n d (omega arith) (omega arith) none found

-- ---- one page

not_listed : (b : Bool) → (b ≡ true → ⊥) → b ≡ false
not_listed true h = absurd (h refl)
not_listed false h = refl

-- a page that is mapped and does not differ, or that is neither mapped nor listed
clear : (opened : Pages) (rec : Recording) (k q : ℕ) (page : Option (List ℕ)) → mapped_diff opened rec k q page ≡ None → (is_listed (listed_to rec k) q ≡ true → is_some page ≡ true) → page_diff opened rec k q page ≡ None
clear opened rec k q (Some bytes) alike mapped = alike
clear opened rec k q None alike mapped = rw (not_listed (is_listed (listed_to rec k) q) (λ e. let h : false ≡ true = mapped e in absurd cc)) refl

missing : (opened : Pages) (rec : Recording) (k q : ℕ) (page : Option (List ℕ)) → is_listed (listed_to rec k) q ≡ true → is_some page ≡ false
    → page_diff opened rec k q page ≡ Some (record { part = 36; address = q * 4096; recorded = 1; replayed = 0 })
missing opened rec k q (Some bytes) listed none = absurd cc
missing opened rec k q None listed none = rw listed refl

mapped : (opened : Pages) (rec : Recording) (k q : ℕ) (page : Option (List ℕ)) → IsSome page → page_diff opened rec k q page ≡ mapped_diff opened rec k q page
mapped opened rec k q None some = let none : false ≡ true = some in absurd cc
mapped opened rec k q (Some bytes) some = refl

-- ---- what is told

as_break : (k : ℕ) (o : Option PartDiff) (kind : BreakKind) → as_checkpoint_break k o ≡ Some kind → (d : PartDiff) × (o ≡ Some d)
as_break k None kind e = absurd cc
as_break k (Some d) kind e = (d, refl)

told_at : (opened : Pages) (rec : Recording) (k : ℕ) (s : State) (n : ℕ) (kind : BreakKind) → n < 2 ^ 20 → ((q : ℕ) → q < n → page_diff opened rec k q (get s.pages q) ≡ None)
    → as_checkpoint_break k (page_diff opened rec k n (get s.pages n)) ≡ Some kind → as_checkpoint_break k (pages_diff opened rec k s PAGE_NUMBERS) ≡ Some kind
told_at opened rec k s n kind lt none found =
    let diff = as_break k (page_diff opened rec k n (get s.pages n)) kind found in
    ap (as_checkpoint_break k) (first_one opened rec k s n diff.0 lt none diff.1 ∙ sym diff.1) ∙ found

told_missing : (opened : Pages) (rec : Recording) (k : ℕ) (s : State) (n : ℕ) → n < 2 ^ 20 → ((q : ℕ) → q < n → page_diff opened rec k q (get s.pages q) ≡ None)
    → is_listed (listed_to rec k) n ≡ true → contains_key s.pages n ≡ false → as_checkpoint_break k (pages_diff opened rec k s PAGE_NUMBERS) ≡ Some (missing_break k n)
told_missing opened rec k s n lt none listed unmapped =
    told_at opened rec k s n (missing_break k n) lt none (ap (as_checkpoint_break k) (missing opened rec k n (get s.pages n) listed unmapped))

ltb_true : (a b : ℕ) → a < b → nat_lt a b ≡ true
ltb_true a b lt = grind (arith, common_steps)

ltb_false : (a b : ℕ) → b ≤ a → nat_lt a b ≡ false
ltb_false a b le = grind (arith, common_steps)

known_missing : (pages : Pages) (rec : Recording) (k n : ℕ) → IsLeastMissing pages None (listed_to rec k) (Some n) → (is_listed (listed_to rec k) n ≡ true) × (contains_key pages n ≡ false)
known_missing pages rec k n is = ⊎_elim (λ e. absurd cc) (λ f. f) is.2

-- the first of the least mapped page that differs and the least listed one that is not mapped
pub told : (opened : Pages) (rec : Recording) (k : ℕ) (s : State) (unlike : Option (ℕ × BreakKind)) (least : Option ℕ) → IsFirstUnlike opened rec k s.pages unlike → IsLeastMissing s.pages None (listed_to rec k) least
    → IfSome unlike (λ u. u.0 < 2 ^ 20) → IfSome least (λ n. n < 2 ^ 20) → as_checkpoint_break k (pages_diff opened rec k s PAGE_NUMBERS) ≡ told_first k unlike least
told opened rec k s None None unlikes misses below under =
    ap (as_checkpoint_break k) (all_none opened rec k s (λ q. clear opened rec k q (get s.pages q) (unlikes q) (misses.1 q)))
told opened rec k s None (Some n) unlikes misses below under =
    let is = known_missing s.pages rec k n misses in
    told_missing opened rec k s n under (λ q lt. clear opened rec k q (get s.pages q) (unlikes q) (λ e. misses.0 q e lt)) is.0 is.1
told opened rec k s (Some u) None unlikes misses below under =
    told_at opened rec k s u.0 u.1 below (λ q lt. clear opened rec k q (get s.pages q) (unlikes.2 q lt) (misses.1 q))
    (ap (as_checkpoint_break k) (mapped opened rec k u.0 (get s.pages u.0) unlikes.1) ∙ unlikes.0)
told opened rec k s (Some u) (Some n) unlikes misses below under =
    let is = known_missing s.pages rec k n misses in
    elim (cases_lt u.0 n) [
      | inl less ↦ told_at opened rec k s u.0 u.1 below (λ q lt. clear opened rec k q (get s.pages q) (unlikes.2 q lt) (λ e. misses.0 q e (omega arith)))
          (ap (as_checkpoint_break k) (mapped opened rec k u.0 (get s.pages u.0) unlikes.1) ∙ unlikes.0) ∙ ap Some (sym (ap (λ (b : Bool). if b then u.1 else missing_break k n) (ltb_true u.0 n less)))
      | inr most ↦ told_missing opened rec k s n under (λ q lt. clear opened rec k q (get s.pages q) (unlikes.2 q (omega arith)) (λ e. misses.0 q e lt)) is.0 is.1 ∙ ap Some (sym (ap (λ (b : Bool). if b then u.1 else missing_break k n) (ltb_false u.0 n most)))
    ]

-- ---- memory after the other parts

pub else_some : (k : ℕ) (a b : Option PartDiff) → true ≡ is_some (as_checkpoint_break k a) → as_checkpoint_break k (option_or a b) ≡ as_checkpoint_break k a
else_some k None b e = absurd cc
else_some k (Some d) b e = refl

pub else_none : (k : ℕ) (a b : Option PartDiff) → false ≡ is_some (as_checkpoint_break k a) → as_checkpoint_break k (option_or a b) ≡ as_checkpoint_break k b
else_none k None b e = refl
else_none k (Some d) b e = absurd cc

-- the mapped page that differs is a program's
pub unlike_below : (opened : Pages) (rec : Recording) (k : ℕ) (pages : Pages) (unlike : Option (ℕ × BreakKind)) → IsFirstUnlike opened rec k pages unlike → ((page : ℕ) → IsSome (get pages page) → page < PROGRAM_PAGES)
    → IfSome unlike (λ u. u.0 < 2 ^ 20)
unlike_below opened rec k pages None is below = tt
unlike_below opened rec k pages (Some u) is below = omega (arith, below u.0 is.1)

pub missing_below_all : (least : Option ℕ) → IfSome least (λ n. n < PROGRAM_PAGES) → IfSome least (λ n. n < 2 ^ 20)
missing_below_all None h = tt
missing_below_all (Some n) h = omega (arith, h)
