-- The dirty pages in order: they rise, are mapped, and are no more than a program may have.
use Rattle.std.specs.Prelude.{IsSome, IfSome, ◌^◌, is_some, Contains, nat_eq, map, ◌||◌, if◌then◌else◌}
use Rattle.std.specs.List.{All, AllByRecursion, AllPairs, IsDistinct, list_any, flat_map}
use Rattle.std.specs.List.Sorted.{IsPermutation, IsSorted, IsNonDecreasing, IsStrictlyIncreasing}
use Rattle.std.specs.Str.{bytes_eq}
use Rattle.std.specs.Ordering.{nat_cmp, eq_by_cmp}
use Rattle.std.specs.Cmp.{IsEquivalence, eq_by_cmp_equiv, nat_cmp_total}
use Rattle.std.specs.FinMap.{get, keys, len}
use Rattle.std.proofs.Common.{◌≡◌, ℕ, zero, suc, ◌+◌, ◌<◌, ◌≤◌, Bool, true, false, List, [], ◌∷◌, ◌++◌, length, get_or, Option, Some, None, refl, sym, ap, subst, ◌∙◌, arith, eqb, eq-eqb, inl, inr, ⊎_elim, ◌⊎◌, length-append}
use Rattle.std.proofs.lemmas.Grind.{common_steps}
use Rattle.std.proofs.lemmas.List.Elements.{All-contains_itself, All-weaker, recursion_from_All}
use Rattle.std.proofs.lemmas.List.Sorted.{IsNonDecreasingBy-from_sort, length_permutation, Contains-permutation, All-permutation}
use Rattle.std.proofs.lemmas.List.Kept.{AllPairs-from_increasing}
use Rattle.std.proofs.lemmas.Map.Keys.{IsDistinct-IsPermutation, IsStrictlyIncreasing-from_distinct}
use Rattle.std.proofs.lemmas.Map.Made.{length-le_from_is_member}
use Rattle.std.proofs.lemmas.Map.Views.{Contains-from_any, list_any-from_Contains}
use Rattle.std.proofs.lemmas.Bool.{eqb-true}
use Rattle.std.proofs.lemmas.Grind.{common_steps}
use Rattle.sl_model.specs.Pages.{Pages, IsPage}
use Rattle.sl_model.specs.declared.layout.TheConstants.{PROGRAM_PAGES}
use Rattle.sl_model.proofs.Counted.{length-keys, is_listed}
use Rattle.page_frames.specs.MarkedPages.{MarkedPages, IsKept}
use Rattle.rec_format.specs.declared.recording.ListedPage.{ListedPage}
use Rattle.rec_format.specs.Rules.{IsAbove, Rise, IsListedPage, number_of}
use Rattle.rec_format.proofs.Fronts.{All-join}
use Rattle.rec_format.specs.Compared.{PAGE_NUMBERS}
use Rattle.call_recorder.specs.Listing.{listed_over, changed_page, changed_pages}
use Rattle.call_recorder.specs.Kept.{OnlyMarked}
use Rattle.call_recorder.proofs.Ranges.{RiseFrom, over_range}
use Rattle.call_recorder.proofs.PageLists.{numbers_are}

-- ---- rising numbers

rises_in : (xs : List ℕ) → AllPairs (λ x y. x < y) xs → Rise None xs
rises_in [] pairs = tt
rises_in (x ∷ xs) pairs = (tt, rises_above x xs pairs)
  where
    tail_pairs : (x : ℕ) (xs : List ℕ) → AllPairs (λ x y. x < y) (x ∷ xs) → AllPairs (λ x y. x < y) xs
    tail_pairs x xs pairs i j d below within = pairs (suc i) (suc j) d (omega arith) (omega arith)

    rises_above : (x : ℕ) (xs : List ℕ) → AllPairs (λ x y. x < y) (x ∷ xs) → Rise (Some x) xs
    rises_above x [] pairs = tt
    rises_above x (y ∷ ys) pairs = (pairs 0 1 0 (omega arith) (omega arith), rises_above y ys (tail_pairs x (y ∷ ys) pairs))

-- numbers without equal ones rise once they are sorted
pub sorted_rise : (xs ys : List ℕ) → IsDistinct nat_eq xs → IsPermutation xs ys → IsSorted nat_cmp ys → Rise None ys
sorted_rise xs ys distinct permuted sorted =
    let apart : IsDistinct nat_eq ys = IsDistinct-IsPermutation nat_eq (λ x y. grind (arith, common_steps)) xs ys permuted distinct in
    let up : IsNonDecreasing ys = IsNonDecreasingBy-from_sort (λ x. x) ys sorted in
    rises_in ys (AllPairs-from_increasing ys (IsStrictlyIncreasing-from_distinct ys up apart))

rise_above : (n : ℕ) (ns : List ℕ) → Rise (Some n) ns → RiseFrom (n + 1) ns
rise_above n [] rise = tt
rise_above n (m ∷ ns) rise =
    let above = rise.0 in
    (omega arith, rise_above m ns rise.1)

pub rise_from : (ns : List ℕ) → Rise None ns → RiseFrom 0 ns
rise_from [] rise = tt
rise_from (n ∷ ns) rise = (omega arith, rise_above n ns rise.1)

-- ---- what is listed of them

module _ (recorded : ℕ → List ℕ) (now : Pages) where
  one_at_most : (n : ℕ) (page : Option (List ℕ)) → length (listed_over (recorded n) n page) ≤ 1
  one_at_most n None = omega arith
  one_at_most n (Some page) = chosen (bytes_eq (recorded n) page)
    where
      chosen : (b : Bool) → length {A = ListedPage} (if b then [] else record { number = n; bytes = page } ∷ []) ≤ 1
      chosen true = omega arith
      chosen false = omega arith

  pub few_listed : (ns : List ℕ) → length (flat_map (changed_page recorded now) ns) ≤ length ns
  few_listed [] = omega arith
  few_listed (n ∷ ns) = omega (arith, length-append (changed_page recorded now n) (flat_map (changed_page recorded now) ns), one_at_most n (get now n), few_listed ns)

  -- above a number, and the same before a number that is below
  above_less : (a b : Option ℕ) (ns : List ℕ) → ((n : ℕ) → IsAbove b n → IsAbove a n) → Rise b ns → Rise a ns
  above_less a b [] less rise = tt
  above_less a b (n ∷ ns) less rise = (less n rise.0, rise.1)

  lower : (before : Option ℕ) (n m : ℕ) → IsAbove before n → n < m → IsAbove before m
  lower None n m is lt = tt
  lower (Some k) n m is lt = omega arith

  one_more : (before : Option ℕ) (n : ℕ) (page : Option (List ℕ)) (pages : List ListedPage) → IsAbove before n → Rise (Some n) (map number_of pages) → Rise before (map number_of (listed_over (recorded n) n page ++ pages))
  one_more before n None pages above rest = above_less before (Some n) (map number_of pages) (λ m lt. lower before n m above lt) rest
  one_more before n (Some page) pages above rest = chosen (bytes_eq (recorded n) page)
    where
      chosen : (b : Bool) → Rise before (map number_of ((if b then [] else record { number = n; bytes = page } ∷ []) ++ pages))
      chosen true = above_less before (Some n) (map number_of pages) (λ m lt. lower before n m above lt) rest
      chosen false = (above, rest)

  listed_rise : (before : Option ℕ) (ns : List ℕ) → Rise before ns → Rise before (map number_of (flat_map (changed_page recorded now) ns))
  listed_rise before [] rise = tt
  listed_rise before (n ∷ ns) rise = one_more before n (get now n) (flat_map (changed_page recorded now) ns) rise.0 (listed_rise (Some n) ns rise.1)

  pub rising_pages : (ns : List ℕ) → Rise None ns → Rise None (map number_of (flat_map (changed_page recorded now) ns))
  rising_pages ns rise = listed_rise None ns rise

-- a listed page is one that a recording may list
pub fit_listed : (recorded : ℕ → List ℕ) (f : MarkedPages) (ns : List ℕ) → IsKept f → AllByRecursion IsListedPage (flat_map (changed_page recorded f.pages) ns)
fit_listed recorded f [] kept = tt
fit_listed recorded f (n ∷ ns) kept = All-join IsListedPage (changed_page recorded f.pages n) (flat_map (changed_page recorded f.pages) ns) (by (get f.pages n) (kept.whole n) (kept.below n)) (fit_listed recorded f ns kept)
  where
    chosen : (b : Bool) (page : List ℕ) → n < PROGRAM_PAGES → IsPage page → AllByRecursion IsListedPage (if b then [] else record { number = n; bytes = page } ∷ [])
    chosen true page below is = tt
    chosen false page below is = (record { number = omega arith; bytes = is.whole }, tt)

    by : (page : Option (List ℕ)) → IfSome page (λ p. (n < 2 ^ 20) × IsPage p) → (IsSome page → n < PROGRAM_PAGES) → AllByRecursion IsListedPage (listed_over (recorded n) n page)
    by None whole below = tt
    by (Some page) whole below = chosen (bytes_eq (recorded n) page) page (below refl) whole.1

-- ---- how many they are

-- two numbers tie where they are equal
tie : (x y : ℕ) → eq_by_cmp nat_cmp x y ≡ nat_eq x y
tie x y = grind (arith, common_steps)

same_test : ◌≡◌ {A = ℕ → ℕ → Bool} (eq_by_cmp nat_cmp) nat_eq
same_test = λ i x y. tie x y i

module _ (f : MarkedPages) (kept : IsKept f) where
  dirty_are_mapped : (q : ℕ) → list_any (nat_eq q) f.dirty ≡ true → list_any (nat_eq q) (keys f.pages) ≡ true
  dirty_are_mapped q any =
      let mapped : is_some (get f.pages q) ≡ true = kept.mapped q (Contains-from_any (λ x y same. eqb-true x y same) q f.dirty any) in
      subst (λ (test : ℕ → ℕ → Bool). list_any (test q) (keys f.pages) ≡ true) same_test (is_listed f.pages q ∙ mapped)

  pub few_dirty : length f.dirty ≤ 16384
  few_dirty =
      let le : length f.dirty ≤ length (keys f.pages) = length-le_from_is_member (subst (λ (test : ℕ → ℕ → Bool). IsEquivalence test) same_test (eq_by_cmp_equiv nat_cmp_total)) f.dirty (keys f.pages) kept.once dirty_are_mapped in
      omega (arith, length-keys f.pages, kept.few)

  pub dirty_below : (numbers : List ℕ) → IsPermutation f.dirty numbers → All (λ q. q < PROGRAM_PAGES) numbers
  dirty_below numbers permuted =
      All-permutation (λ q. q < PROGRAM_PAGES) f.dirty numbers permuted
      (All-weaker (Contains f.dirty) (λ q. q < PROGRAM_PAGES) (λ q has. kept.below q (kept.mapped q has)) f.dirty (All-contains_itself f.dirty))

-- ---- where no other page differs, they are all that do

all_below : (ns : List ℕ) (count : ℕ) → PROGRAM_PAGES ≤ count → All (λ q. q < PROGRAM_PAGES) ns → AllByRecursion (λ n. n < count) ns
all_below ns count le all = recursion_from_All (λ n. n < count) ns (All-weaker (λ q. q < PROGRAM_PAGES) (λ q. q < count) (λ q low. omega arith) ns all)

pub all_changed : (recorded : ℕ → List ℕ) (f : MarkedPages) (ns : List ℕ) → Rise None ns → All (λ q. q < PROGRAM_PAGES) ns → ((q : ℕ) → Contains f.dirty q → Contains ns q) → OnlyMarked recorded f
    → flat_map (changed_page recorded f.pages) ns ≡ changed_pages recorded f.pages
unfolding changed_pages
all_changed recorded f ns rise below all marked = with_count (2 ^ 20) refl (omega arith)
  where
    laws : IsEquivalence nat_eq
    laws = subst (λ (test : ℕ → ℕ → Bool). IsEquivalence test) same_test (eq_by_cmp_equiv nat_cmp_total)

    with_count : (count : ℕ) → count ≡ 2 ^ 20 → PROGRAM_PAGES ≤ count → flat_map (changed_page recorded f.pages) ns ≡ flat_map (changed_page recorded f.pages) PAGE_NUMBERS
    with_count count is le =
        over_range (changed_page recorded f.pages) count 0 count ns (omega arith) (rise_from ns rise) (all_below ns count le below) (λ q low high. ⊎_elim
        (λ (none : changed_page recorded f.pages q ≡ []). inl none)
        (λ (has : Contains f.dirty q). inr (list_any-from_Contains laws q ns (all q has)))
        (marked q))
        ∙ ap (flat_map (changed_page recorded f.pages)) (sym (numbers_are count is))
