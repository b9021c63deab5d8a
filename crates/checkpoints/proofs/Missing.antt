-- The least listed page that is not mapped.
use Rattle.std.proofs.Common.{zero, suc, ◌+◌, take, slice_get, get_or, ◌≡◌, ℕ, ◌<◌, ◌≤◌, Bool, true, false, List, [], ◌∷◌, ◌++◌, Some, None, refl, ap, ◌∙◌, sym, arith, inl, inr, ⊎_elim, ◌⊎◌}
use Rattle.std.specs.Prelude.{Option, IfSome, ◌==◌, ◌||◌, if◌then◌else◌, nat_lt}
use Rattle.std.specs.List.{AllByRecursion}
use Rattle.std.specs.FinMap.{contains_key}
use Rattle.std.proofs.lemmas.Grind.{common_steps}
use Rattle.std.proofs.lemmas.Bool.{cases_Bool}
use Rattle.std.proofs.lemmas.Option.{slice_get_within, get_or_from_slice_get}
use Rattle.rec_format.proofs.Listed.{take_item}
use Rattle.sl_model.specs.Pages.{Pages}
use Rattle.sl_model.specs.declared.layout.TheConstants.{PROGRAM_PAGES}
use Rattle.rec_format.specs.declared.recording.ListedPage.{ListedPage}
use Rattle.rec_format.specs.Rules.{IsListedPage}
use Rattle.rec_format.specs.Recorded.{is_listed}
use Rattle.checkpoints.specs.Memory.{lesser, missing_from}

pub missing_from-append : (pages : Pages) (least : Option ℕ) (xs ys : List ListedPage) → missing_from pages least (xs ++ ys) ≡ missing_from pages (missing_from pages least xs) ys
missing_from-append pages least [] ys = refl
missing_from-append pages least (x ∷ xs) ys = missing_from-append pages (if contains_key pages x.number then least else Some (lesser least x.number)) xs ys

lesser_below : (least : Option ℕ) (n bound : ℕ) → IfSome least (λ m. m < bound) → n < bound → lesser least n < bound
lesser_below None n bound p q = q
lesser_below (Some m) n bound p q = grind (arith, common_steps)

below_step : (b : Bool) (least : Option ℕ) (n bound : ℕ) → IfSome least (λ m. m < bound) → n < bound → IfSome (if b then least else Some (lesser least n)) (λ m. m < bound)
below_step true least n bound p q = p
below_step false least n bound p q = lesser_below least n bound p q

pub missing_below : (pages : Pages) (least : Option ℕ) (listed : List ListedPage) → IfSome least (λ m. m < PROGRAM_PAGES) → AllByRecursion IsListedPage listed → IfSome (missing_from pages least listed) (λ m. m < PROGRAM_PAGES)
missing_below pages least [] below all = below
missing_below pages least (x ∷ xs) below all =
    missing_below pages (if contains_key pages x.number then least else Some (lesser least x.number)) xs
    (below_step (contains_key pages x.number) least x.number PROGRAM_PAGES below (omega (arith, all.0.number))) all.1

-- no listed page below the result lies out of memory, and the result is one that does or was known before
abbrev pub IsLeastMissing : Pages → Option ℕ → List ListedPage → Option ℕ → Type 0
IsLeastMissing pages known listed None = (known ≡ None) × ((q : ℕ) → is_listed listed q ≡ true → contains_key pages q ≡ true)
IsLeastMissing pages known listed (Some n) =
    ((q : ℕ) → is_listed listed q ≡ true → q < n → contains_key pages q ≡ true)
    × IfSome known (λ m. n ≤ m)
    × ((known ≡ Some n) ⊎ ((is_listed listed n ≡ true) × (contains_key pages n ≡ false)))

same_number : (p q : ℕ) → (p == q) ≡ true → p ≡ q
same_number p q e = grind (arith, common_steps)

or_cases : (a b : Bool) → (a || b) ≡ true → (a ≡ true) ⊎ (b ≡ true)
or_cases true b e = inl refl
or_cases false b e = inr e

or_right : (a b : Bool) → b ≡ true → (a || b) ≡ true
or_right true b e = refl
or_right false b e = e

or_left : (a b : Bool) → a ≡ true → (a || b) ≡ true
or_left true b e = refl
or_left false b e = absurd cc

lesser_le : (least : Option ℕ) (n : ℕ) → lesser least n ≤ n
lesser_le None n = omega arith
lesser_le (Some m) n = grind (arith, common_steps)

lesser_le_known : (least : Option ℕ) (n r : ℕ) → r ≤ lesser least n → IfSome least (λ m. r ≤ m)
lesser_le_known None n r le = tt
lesser_le_known (Some m) n r le = grind (arith, common_steps)

lesser_is : (least : Option ℕ) (n : ℕ) → (least ≡ Some (lesser least n)) ⊎ (lesser least n ≡ n)
lesser_is None n = inr refl
lesser_is (Some m) n = elim (nat_lt m n) as (λ b. (◌≡◌ {A = Option ℕ} (Some m) (Some (if b then m else n))) ⊎ ((if b then m else n) ≡ n)) [ true ↦ inl refl | false ↦ inr refl ]

same_some : (a b : ℕ) → ◌≡◌ {A = Option ℕ} (Some a) (Some b) → a ≡ b
same_some a b e = cc

number_is : (n : ℕ) → (n == n) ≡ true
number_is n = grind (arith, common_steps)

missing_step : (pages : Pages) (known : Option ℕ) (x : ListedPage) (xs : List ListedPage) (b : Bool) (r : Option ℕ) → contains_key pages x.number ≡ b
    → IsLeastMissing pages (if b then known else Some (lesser known x.number)) xs r → IsLeastMissing pages known (x ∷ xs) r
missing_step pages known x xs true None is ih =
    (ih.0, λ q h. ⊎_elim (λ e. rw (← same_number x.number q e) is) (λ e. ih.1 q e) (or_cases (x.number == q) (is_listed xs q) h))
missing_step pages known x xs true (Some n) is ih = (
  λ q h lt. ⊎_elim (λ e. rw (← same_number x.number q e) is) (λ e. ih.0 q e lt) (or_cases (x.number == q) (is_listed xs q) h),
  ih.1,
  ⊎_elim (λ e. inl e) (λ f. inr (or_right (x.number == n) (is_listed xs n) f.0, f.1)) ih.2,
)
missing_step pages known x xs false None is ih = absurd cc
missing_step pages known x xs false (Some n) is ih = (
  λ q h lt. ⊎_elim (λ e. let same : x.number ≡ q = same_number x.number q e in let most : n ≤ lesser known x.number = ih.1 in absurd (omega (arith, lesser_le known x.number))) (λ e. ih.0 q e lt)
      (or_cases (x.number == q) (is_listed xs q) h),
  lesser_le_known known x.number n ih.1,
  ⊎_elim
      (λ e. let same : lesser known x.number ≡ n = same_some (lesser known x.number) n e in
      ⊎_elim (λ f. inl (f ∙ ap (λ m. Some m) same)) (λ f. let here : x.number ≡ n = sym f ∙ same in
      inr (or_left (x.number == n) (is_listed xs n) (rw here (number_is n)), rw (← here) is)) (lesser_is known x.number))
      (λ f. inr (or_right (x.number == n) (is_listed xs n) f.0, f.1)) ih.2,
)

pub least_missing : (pages : Pages) (known : Option ℕ) (listed : List ListedPage) → IsLeastMissing pages known listed (missing_from pages known listed)
least_missing pages None [] = (refl, λ q h. absurd cc)
least_missing pages (Some n) [] = (λ q h lt. absurd cc, omega arith, inl refl)
least_missing pages known (x ∷ xs) =
    missing_step pages known x xs (contains_key pages x.number) (missing_from pages known (x ∷ xs)) refl (least_missing pages (if contains_key pages x.number then known else Some (lesser known x.number)) xs)

-- ---- a page that is listed again

lesser_same : (m n : ℕ) → m ≤ n → lesser (Some m) n ≡ m
lesser_same m n le = grind (arith, common_steps)

repeated_by : (pages : Pages) (xs : List ListedPage) (number : ℕ) (r : Option ℕ) → IsLeastMissing pages None xs r
    → is_listed xs number ≡ true → contains_key pages number ≡ false → Some (lesser r number) ≡ r
repeated_by pages xs number None is listed absent = absurd (let e = is.1 number listed in cc)
repeated_by pages xs number (Some m) is listed absent = ⊎_elim
    (λ (lt : number < m). absurd (let e = is.0 number listed lt in cc))
    (λ (le : m ≤ number). ap (λ n. Some n) (lesser_same m number le))
    (lt_or_le number m)
  where
    lt_or_le : (a b : ℕ) → (a < b) ⊎ (b ≤ a)
    lt_or_le a zero = inr (omega arith)
    lt_or_le zero (suc b) = inl (omega arith)
    lt_or_le (suc a) (suc b) = ⊎_elim (λ l. inl (omega (arith, l))) (λ l. inr (omega (arith, l))) (lt_or_le a b)

missing_item : (pages : Pages) (listed : List ListedPage) (i : ℕ) (l : ListedPage) → slice_get listed i ≡ Some l
    → missing_from pages None (take (i + 1) listed)
    ≡ (if contains_key pages l.number then missing_from pages None (take i listed)
    else Some (lesser (missing_from pages None (take i listed)) l.number))
missing_item pages listed i l at =
    let lt = slice_get_within listed i l at in
    let same : l ≡ get_or listed i l = sym (get_or_from_slice_get listed i l l at) in
    ap (missing_from pages None) (take_item listed i l lt same)
    ∙ missing_from-append pages None (take i listed) (l ∷ [])

-- a further page that is not mapped
pub missing_more : (pages : Pages) (listed : List ListedPage) (i : ℕ) (l : ListedPage) → slice_get listed i ≡ Some l
    → contains_key pages l.number ≡ false
    → missing_from pages None (take (i + 1) listed)
    ≡ Some (lesser (missing_from pages None (take i listed)) l.number)
missing_more pages listed i l at absent = missing_item pages listed i l at ∙ rw absent refl

-- one that is mapped
pub missing_mapped : (pages : Pages) (listed : List ListedPage) (i : ℕ) (l : ListedPage) → slice_get listed i ≡ Some l
    → contains_key pages l.number ≡ true
    → missing_from pages None (take (i + 1) listed) ≡ missing_from pages None (take i listed)
missing_mapped pages listed i l at mapped = missing_item pages listed i l at ∙ rw mapped refl

-- one that was listed before
pub missing_again : (pages : Pages) (listed : List ListedPage) (i : ℕ) (l : ListedPage) → slice_get listed i ≡ Some l
    → is_listed (take i listed) l.number ≡ true
    → missing_from pages None (take (i + 1) listed) ≡ missing_from pages None (take i listed)
missing_again pages listed i l at again = ⊎_elim
    (λ (mapped : contains_key pages l.number ≡ true). missing_mapped pages listed i l at mapped)
    (λ (absent : contains_key pages l.number ≡ false).
    missing_more pages listed i l at absent
    ∙ repeated_by pages (take i listed) l.number (missing_from pages None (take i listed))
    (least_missing pages None (take i listed)) again absent)
    (cases_Bool (contains_key pages l.number))
