-- What a loader needs of an image that can be loaded.
use Rattle.std.specs.Prelude.{nat_lt, nat_le, ◌&&◌, ◌-◌}
use Rattle.std.specs.List.{AllByRecursion, IsDistinct, list_any}
use Rattle.std.specs.Ordering.{nat_cmp, eq_by_cmp}
use Rattle.std.proofs.Common.{◌≡◌, ℕ, ◌+◌, ◌/◌, ◌<◌, ◌≤◌, Bool, true, false, List, [], ◌∷◌, length, sym, ◌⊎◌, inl, inr, ⊎_elim, arith, true≢false, ltb-false, leb-false, lt-ltb, le-leb}
use Rattle.std.proofs.lemmas.Bool.{and_parts, and_cases, and_from, or_cases, ltb-true, leb-true}
use Rattle.elf_image.specs.declared.image.Image.{Image}
use Rattle.elf_image.specs.declared.image.Segment.{Segment}
use Rattle.sl_model.specs.declared.layout.TheConstants.{FIRST_STACK_PAGE, STACK_PAGES}
use Rattle.elf_image.specs.Flat.{page_count}
use Rattle.elf_image.specs.Loadable.{takes_memory, meets_page, number_of_pages, IsByteOf, IsPlaced, IsLoadable}
use Rattle.elf_image.proofs.PageSet.{length-le-number_of_pages}

-- ---- one segment

-- a page that meets a segment holds a byte of it
pub record HoldsByte (segment : Segment) (page : ℕ) : Type 0 where
  pub takes : 0 < segment.memsz
  pub from : segment.vaddr / 4096 ≤ page
  pub to : page ≤ (segment.vaddr + segment.memsz - 1) / 4096

pub HoldsByte-from_meets : (segment : Segment) (page : ℕ) → meets_page segment page ≡ true → HoldsByte segment page
HoldsByte-from_meets segment page is =
    let first = segment.vaddr / 4096 in
    let count = page_count segment.vaddr segment.memsz in
    let parts = and_parts (takes_memory segment) (nat_le first page && nat_lt page (first + count)) is in
    let ends = and_parts (nat_le first page) (nat_lt page (first + count)) parts.1 in
    let takes : 0 < segment.memsz = ltb-true 0 segment.memsz parts.0 in
    let to : page < first + count = ltb-true page (first + count) ends.1 in
    record { takes = takes; from = leb-true first page ends.0; to = omega arith }

-- the page of a segment's byte meets it
pub meets_page-byte : (segment : Segment) (address : ℕ) → IsByteOf segment address → meets_page segment (address / 4096) ≡ true
meets_page-byte segment address is =
    let from = is.from in
    let to = is.to in
    let first = segment.vaddr / 4096 in
    let last = first + page_count segment.vaddr segment.memsz in
    and_from (takes_memory segment) (nat_le first (address / 4096) && nat_lt (address / 4096) last) (lt-ltb 0 segment.memsz (omega arith))
    (and_from (nat_le first (address / 4096)) (nat_lt (address / 4096) last) (le-leb first (address / 4096) (omega arith)) (lt-ltb (address / 4096) last (omega arith)))

-- some segment passes the test, with what is known of each
passing : (p : Segment → Bool) (P : Segment → Type 0) (segments : List Segment) → AllByRecursion P segments → list_any p segments ≡ true
    → (segment : Segment) × (p segment ≡ true) × P segment
passing p P [] each is = absurd (true≢false (sym is))
passing p P (segment ∷ segments) each is = ⊎_elim
    (λ (here : p segment ≡ true). (segment, here, each.0))
    (λ (later : list_any p segments ≡ true). passing p P segments each.1 later)
    (or_cases (p segment) (list_any p segments) is)

below : (segment : Segment) (page : ℕ) → IsPlaced segment → HoldsByte segment page → page < 0xBFFFF
below segment page placed held =
    let end = placed.below_end held.takes in
    let to = held.to in
    omega arith

beside : (segment : Segment) (page : ℕ) → IsPlaced segment → HoldsByte segment page → (page < FIRST_STACK_PAGE) ⊎ (FIRST_STACK_PAGE + STACK_PAGES ≤ page)
beside segment page placed held =
    let first = segment.vaddr / 4096 in
    let last = (segment.vaddr + segment.memsz - 1) / 4096 in
    let from = held.from in
    let to = held.to in
    ⊎_elim
    (λ (above : nat_lt first (FIRST_STACK_PAGE + STACK_PAGES) ≡ false).
    let high : FIRST_STACK_PAGE + STACK_PAGES ≤ first = ltb-false first (FIRST_STACK_PAGE + STACK_PAGES) above in
    inr (omega arith))
    (λ (under : nat_le FIRST_STACK_PAGE last ≡ false).
    let low : last < FIRST_STACK_PAGE = leb-false FIRST_STACK_PAGE last under in
    inl (omega arith))
    (and_cases (nat_lt first (FIRST_STACK_PAGE + STACK_PAGES)) (nat_le FIRST_STACK_PAGE last) (placed.beside_stack held.takes))

-- ---- all segments

module _ (image : Image) (loadable : IsLoadable image) where
  -- each page that meets a segment lies below the end of program memory
  pub page_below_end : (page : ℕ) → list_any (λ segment. meets_page segment page) image.segments ≡ true → page < 0xBFFFF
  page_below_end page is =
      let found = passing (λ segment. meets_page segment page) IsPlaced image.segments loadable.placed is in
      below found.0 page found.2 (HoldsByte-from_meets found.0 page found.1)

  -- and beside the stack
  pub page_beside_stack : (page : ℕ) → list_any (λ segment. meets_page segment page) image.segments ≡ true
      → (page < FIRST_STACK_PAGE) ⊎ (FIRST_STACK_PAGE + STACK_PAGES ≤ page)
  page_beside_stack page is =
      let found = passing (λ segment. meets_page segment page) IsPlaced image.segments loadable.placed is in
      beside found.0 page found.2 (HoldsByte-from_meets found.0 page found.1)

  -- there are no more of them than 12,032
  pub few_pages : number_of_pages image.segments ≤ 12032
  few_pages = omega (arith, loadable.few)

  pub few_distinct : (pages : List ℕ) → IsDistinct (eq_by_cmp nat_cmp) pages
      → ((page : ℕ) → list_any (eq_by_cmp nat_cmp page) pages ≡ true → list_any (λ segment. meets_page segment page) image.segments ≡ true)
      → length pages ≤ 12032
  few_distinct pages distinct each = omega (arith, length-le-number_of_pages image.segments pages distinct each, few_pages)
