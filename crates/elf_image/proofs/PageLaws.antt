-- The reader's set of pages, and how many pages some segments meet.
use Rattle.std.specs.Prelude.{nat_le, ◌&&◌, ◌||◌, Result, Ok, Err, IfOk}
use Rattle.std.specs.declared.alloc.AllocError.{AllocError}
use Rattle.sl_model.specs.declared.layout.TheConstants.{STACK_PAGES, MOST_LOADED_PAGES}
use Rattle.std.specs.List.{list_any}
use Rattle.std.specs.Ordering.{nat_cmp}
use Rattle.std.specs.Cmp.{nat_cmp_total}
use Rattle.std.specs.BTreeSet.{BTreeSet, btree_set_len, contains, IsOrdered}
use Rattle.std.specs.FinSet.{from_list, len, contains-from_list, same_set, nat_cmp-IsAntisymmetric}
use Rattle.std.proofs.Common.{◌≡◌, ℕ, ◌+◌, ◌/◌, ◌<◌, ◌≤◌, Bool, true, false, List, [], ◌∷◌, ◌++◌, length, refl, sym, ap, subst, ◌∙◌, ⊎_elim, arith, le-leb}
use Rattle.std.proofs.lemmas.Bool.{leb-true, cases_Bool}
use Rattle.elf_image.specs.Segments.{are_few}
use Rattle.std.proofs.lemmas.List.Folds.{list_any-append}
use Rattle.std.proofs.lemmas.Map.Keys.{IsDistinct-from_sorted}
use Rattle.elf_image.specs.declared.image.Segment.{Segment}
use Rattle.elf_image.specs.Flat.{page_count}
use Rattle.elf_image.specs.Loadable.{takes_memory, meets_page, page_set, number_of_pages}
use Rattle.elf_image.specs.Ranges.{ArePages, IsWithRow, IsWithin, is_in_row}
use Rattle.elf_image.proofs.PageSet.{contains-page_set, len-from_list-le, length-le-number_of_pages}

-- the set of the keys is the set of the pages
same_pages : (pages : BTreeSet ℕ) (segments : List Segment) → ArePages pages segments → page_set segments ≡ from_list pages.keys
same_pages pages segments are = same_set nat_cmp_total nat_cmp-IsAntisymmetric (page_set segments) (from_list pages.keys)
    (λ q. contains-page_set segments q ∙ sym (are q) ∙ sym (contains-from_list nat_cmp_total pages.keys q))

-- no more pages than keys
pub number-le-len : (pages : BTreeSet ℕ) (segments : List Segment) → ArePages pages segments → number_of_pages segments ≤ btree_set_len pages
number-le-len pages segments are = subst (λ s. len s ≤ length pages.keys) (sym (same_pages pages segments are)) (len-from_list-le pages.keys)

-- no more keys than pages, where each of them meets a segment
pub len-le-number : (pages : BTreeSet ℕ) (segments : List Segment) → IsOrdered nat_cmp pages
    → ((page : ℕ) → contains nat_cmp pages page ≡ true → list_any (λ s. meets_page s page) segments ≡ true) → btree_set_len pages ≤ number_of_pages segments
len-le-number pages segments ordered each = length-le-number_of_pages segments pages.keys (IsDistinct-from_sorted nat_cmp pages.keys ordered) each

-- ---- one more segment

meets_row : (segment : Segment) (page : ℕ) → takes_memory segment ≡ true → meets_page segment page ≡ is_in_row (segment.vaddr / 4096) (page_count segment.vaddr segment.memsz) page
meets_row segment page takes = ap (λ b. b && is_in_row (segment.vaddr / 4096) (page_count segment.vaddr segment.memsz) page) takes

meets_more : (segments : List Segment) (segment : Segment) (page : ℕ) → takes_memory segment ≡ true
    → list_any (λ s. meets_page s page) (segments ++ segment ∷ []) ≡ (list_any (λ s. meets_page s page) segments || is_in_row (segment.vaddr / 4096) (page_count segment.vaddr segment.memsz) page)
meets_more segments segment page takes =
    list_any-append (λ s. meets_page s page) segments (segment ∷ [])
    ∙ ap (λ b. list_any (λ s. meets_page s page) segments || b) (or_false (meets_page segment page) ∙ meets_row segment page takes)
  where
    or_false : (b : Bool) → (b || false) ≡ b
    or_false true = refl
    or_false false = refl

module _ (old new : BTreeSet ℕ) (segments : List Segment) (segment : Segment) (are : ArePages old segments) (takes : takes_memory segment ≡ true) where
  pub ArePages-more : IsWithRow old new (segment.vaddr / 4096) (page_count segment.vaddr segment.memsz) → ArePages new (segments ++ segment ∷ [])
  ArePages-more row page =
      row page
      ∙ ap (λ b. b || is_in_row (segment.vaddr / 4096) (page_count segment.vaddr segment.memsz) page) (are page)
      ∙ sym (meets_more segments segment page takes)

  pub too_many : IsWithin old new (segment.vaddr / 4096) (page_count segment.vaddr segment.memsz) → IsOrdered nat_cmp new → btree_set_len new ≤ number_of_pages (segments ++ segment ∷ [])
  too_many within ordered = len-le-number new (segments ++ segment ∷ []) ordered
      (λ page is. meets_more segments segment page takes
      ∙ sym (ap (λ b. b || is_in_row (segment.vaddr / 4096) (page_count segment.vaddr segment.memsz) page) (are page))
      ∙ within page is)

-- ---- what adding a row of pages tells

few_is : (n : ℕ) → n ≤ 12032 → true ≡ nat_le (n + STACK_PAGES) MOST_LOADED_PAGES
few_is n le = sym (le-leb (n + STACK_PAGES) MOST_LOADED_PAGES (omega arith))

many_is : (n : ℕ) → 12032 < n → false ≡ nat_le (n + STACK_PAGES) MOST_LOADED_PAGES
many_is n lt = ⊎_elim
    (λ (is : nat_le (n + STACK_PAGES) MOST_LOADED_PAGES ≡ true).
    let le : n + STACK_PAGES ≤ MOST_LOADED_PAGES = leb-true (n + STACK_PAGES) MOST_LOADED_PAGES is in
    absurd (omega arith))
    (λ (is : nat_le (n + STACK_PAGES) MOST_LOADED_PAGES ≡ false). sym is)
    (cases_Bool (nat_le (n + STACK_PAGES) MOST_LOADED_PAGES))

module _ (old new : BTreeSet ℕ) (segment : Segment) (takes : takes_memory segment ≡ true) where
  abbrev first : ℕ
  first = segment.vaddr / 4096

  abbrev count : ℕ
  count = page_count segment.vaddr segment.memsz

  pub few_tells : (r : Result Bool AllocError)
      → IfOk r (λ few. few ≡ true → IsWithRow old new first count) → IfOk r (λ few. few ≡ true → btree_set_len new ≤ 12032)
      → IfOk r (λ few. few ≡ false → IsWithin old new first count) → IfOk r (λ few. few ≡ false → 12032 < btree_set_len new)
      → IfOk r (λ few. IsOrdered nat_cmp new)
      → IfOk r (λ few. (before : List Segment) → ArePages old before → few ≡ are_few (before ++ segment ∷ []))
  few_tells (Ok true) row few within many ordered = λ before are.
      few_is (number_of_pages (before ++ segment ∷ [])) (omega (arith, number-le-len new (before ++ segment ∷ []) (ArePages-more old new before segment are takes (row refl)), few refl))
  few_tells (Ok false) row few within many ordered = λ before are.
      many_is (number_of_pages (before ++ segment ∷ [])) (omega (arith, too_many old new before segment are takes (within refl) ordered, many refl))
  few_tells (Err e) row few within many ordered = tt
