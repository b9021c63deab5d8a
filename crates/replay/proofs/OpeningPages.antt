-- Which pages a program finds mapped, and how many.
use Rattle.std.specs.Prelude.{if◌then◌else◌, ◌||◌, ◌&&◌, ◌==◌, IsSome, nat_le, nat_lt, is_some}
use Rattle.std.specs.List.{list_any}
use Rattle.std.specs.Ordering.{nat_cmp}
use Rattle.std.specs.FinMap.{empty, get, get-empty, keys, len}
use Rattle.std.proofs.Common.{◌≡◌, ℕ, ◌+◌, ◌/◌, ◌<◌, ◌≤◌, ⊎_elim, Bool, true, false, List, [], ◌∷◌, refl, sym, ap, ◌∙◌, arith}
use Rattle.std.proofs.lemmas.Bool.{or_cases, and_parts, ltb-true, leb-true, eqb-false, eqb-true}
use Rattle.std.proofs.lemmas.Bool.Decides.{nat_tests}
use Rattle.sl_model.specs.Pages.{Pages, set_bytes}
use Rattle.sl_model.proofs.PagesLaws.{AreWhole, is_some-set_bytes}
use Rattle.sl_model.specs.Mapping.{map_pages}
use Rattle.sl_model.specs.declared.layout.TheConstants.{FIRST_STACK_PAGE, STACK_PAGES}
use Rattle.sl_model.proofs.Counted.{length-keys, IsDistinct-keys, is_listed, len-map_pages-above, len-map_pages-below}
use Rattle.sl_model.proofs.Mapping.{is_among, is_some-map_pages, AreWhole-map_pages}
use Rattle.sl_model.proofs.WholePages.{AreWhole-set_bytes}
use Rattle.elf_image.specs.declared.image.Image.{Image}
use Rattle.elf_image.specs.declared.image.Segment.{Segment}
use Rattle.elf_image.specs.Flat.{page_count}
use Rattle.elf_image.specs.Loadable.{meets_page, IsLoadable}
use Rattle.elf_image.proofs.LoadableLaws.{page_below_end, few_distinct}
use Rattle.replay.specs.Opening.{map_segment, map_segments, mapped, fill_segments, opening_pages}

-- ---- which pages

-- a page of the stack
abbrev pub in_stack : ℕ → Bool
in_stack number = is_among FIRST_STACK_PAGE (FIRST_STACK_PAGE + STACK_PAGES) number

-- a page that meets one of some segments
abbrev pub in_segments : List Segment → ℕ → Bool
in_segments segments number = list_any (λ segment. meets_page segment number) segments

or_none : (a : Bool) → a ≡ (a || false)
or_none true = refl
or_none false = refl

or_assoc : (a b c : Bool) → ((a || b) || c) ≡ (a || (b || c))
or_assoc true b c = refl
or_assoc false b c = refl

takes_none : (size : ℕ) → (size == 0) ≡ true → nat_lt 0 size ≡ false
takes_none size is = rw (eqb-true size 0 is) refl

takes_some : (size : ℕ) → (size == 0) ≡ false → nat_lt 0 size ≡ true
takes_some size is =
    let not_zero = eqb-false size 0 is in
    grind (arith, nat_tests)

pub is_some-map_segment : (pages : Pages) (segment : Segment) (number : ℕ) → is_some (get (map_segment pages segment) number) ≡ (is_some (get pages number) || meets_page segment number)
is_some-map_segment pages segment number = chosen (segment.memsz == 0) refl
  where
    first : ℕ
    first = segment.vaddr / 4096

    chosen : (b : Bool) → (segment.memsz == 0) ≡ b
        → is_some (get (if b then pages else map_pages pages (segment.vaddr / 4096) (page_count segment.vaddr segment.memsz)) number) ≡ (is_some (get pages number) || meets_page segment number)
    chosen true is =
        or_none (is_some (get pages number))
        ∙ ap (λ t. is_some (get pages number) || (t && is_among (segment.vaddr / 4096) (segment.vaddr / 4096 + page_count segment.vaddr segment.memsz) number)) (sym (takes_none segment.memsz is))
    chosen false is =
        is_some-map_pages pages (segment.vaddr / 4096) (page_count segment.vaddr segment.memsz) number
        ∙ ap (λ t. is_some (get pages number) || (t && is_among (segment.vaddr / 4096) (segment.vaddr / 4096 + page_count segment.vaddr segment.memsz) number)) (sym (takes_some segment.memsz is))

pub is_some-map_segments : (pages : Pages) (segments : List Segment) (number : ℕ) → is_some (get (map_segments pages segments) number) ≡ (is_some (get pages number) || in_segments segments number)
unfolding map_segments
is_some-map_segments pages [] number = or_none (is_some (get pages number))
is_some-map_segments pages (segment ∷ segments) number =
    is_some-map_segments (map_segment pages segment) segments number
    ∙ ap (λ b. b || in_segments segments number) (is_some-map_segment pages segment number)
    ∙ or_assoc (is_some (get pages number)) (meets_page segment number) (in_segments segments number)

none_or : (number : ℕ) (b : Bool) → (is_some (get (empty {X = List ℕ} {R = nat_cmp}) number) || b) ≡ b
none_or number b = rw (get-empty nat_cmp number) refl

-- the pages that meet a segment and those of the stack
pub is_some-mapped : (image : Image) (number : ℕ) → is_some (get (mapped image) number) ≡ (in_segments image.segments number || in_stack number)
is_some-mapped image number =
    is_some-map_pages (map_segments empty image.segments) FIRST_STACK_PAGE STACK_PAGES number
    ∙ ap (λ b. b || in_stack number) (is_some-map_segments empty image.segments number ∙ none_or number (in_segments image.segments number))

pub is_some-filled : (pages : Pages) (segments : List Segment) (number : ℕ) → is_some (get (fill_segments pages segments) number) ≡ is_some (get pages number)
unfolding fill_segments
is_some-filled pages [] number = refl
is_some-filled pages (segment ∷ segments) number =
    is_some-filled (set_bytes pages segment.vaddr segment.bytes) segments number ∙ is_some-set_bytes pages segment.vaddr segment.bytes number

pub is_some-opening : (image : Image) (args : List (List ℕ)) (number : ℕ) → is_some (get (opening_pages image args) number) ≡ (in_segments image.segments number || in_stack number)
is_some-opening image args number =
    is_some-set_bytes _ _ _ number ∙ is_some-set_bytes _ _ _ number ∙ is_some-filled (mapped image) image.segments number ∙ is_some-mapped image number

-- ---- pages stay whole

AreWhole-empty : AreWhole empty
AreWhole-empty number = rw (get-empty nat_cmp number) tt

pub AreWhole-map_segment : (pages : Pages) (segment : Segment) → AreWhole pages → AreWhole (map_segment pages segment)
AreWhole-map_segment pages segment whole = chosen (segment.memsz == 0)
  where
    chosen : (b : Bool) → AreWhole (if b then pages else map_pages pages (segment.vaddr / 4096) (page_count segment.vaddr segment.memsz))
    chosen true = whole
    chosen false = AreWhole-map_pages pages (segment.vaddr / 4096) (page_count segment.vaddr segment.memsz) whole

AreWhole-map_segments : (pages : Pages) (segments : List Segment) → AreWhole pages → AreWhole (map_segments pages segments)
unfolding map_segments
AreWhole-map_segments pages [] whole = whole
AreWhole-map_segments pages (segment ∷ segments) whole = AreWhole-map_segments (map_segment pages segment) segments (AreWhole-map_segment pages segment whole)

pub AreWhole-mapped : (image : Image) → AreWhole (mapped image)
AreWhole-mapped image = AreWhole-map_pages (map_segments empty image.segments) FIRST_STACK_PAGE STACK_PAGES (AreWhole-map_segments empty image.segments AreWhole-empty)

pub AreWhole-filled : (pages : Pages) (segments : List Segment) → AreWhole pages → AreWhole (fill_segments pages segments)
unfolding fill_segments
AreWhole-filled pages [] whole = whole
AreWhole-filled pages (segment ∷ segments) whole = AreWhole-filled (set_bytes pages segment.vaddr segment.bytes) segments (AreWhole-set_bytes pages segment.vaddr segment.bytes whole)

-- ---- how many

pub len-map_segment-above : (pages : Pages) (segment : Segment) → len pages ≤ len (map_segment pages segment)
len-map_segment-above pages segment = chosen (segment.memsz == 0)
  where
    chosen : (b : Bool) → len pages ≤ len (if b then pages else map_pages pages (segment.vaddr / 4096) (page_count segment.vaddr segment.memsz))
    chosen true = omega arith
    chosen false = len-map_pages-above pages (segment.vaddr / 4096) (page_count segment.vaddr segment.memsz)

pub len-map_segments-above : (pages : Pages) (segments : List Segment) → len pages ≤ len (map_segments pages segments)
unfolding map_segments
len-map_segments-above pages [] = omega arith
len-map_segments-above pages (segment ∷ segments) = omega (arith, len-map_segment-above pages segment, len-map_segments-above (map_segment pages segment) segments)

-- an image that can be loaded has at most 12,032 pages
pub len-segments : (image : Image) → IsLoadable image → len (map_segments empty image.segments) ≤ 12032
len-segments image loadable =
    let pages : Pages = map_segments empty image.segments in
    let few = few_distinct image loadable (keys pages) (IsDistinct-keys pages) (λ page is.
    sym (none_or page (in_segments image.segments page)) ∙ sym (is_some-map_segments empty image.segments page) ∙ sym (is_listed pages page) ∙ is) in
    omega (arith, length-keys pages, few)

-- and at most 12,288 with those of the stack
pub len-mapped : (image : Image) → IsLoadable image → len (mapped image) ≤ 12288
len-mapped image loadable = omega (arith, len-segments image loadable, len-map_pages-below (map_segments empty image.segments) FIRST_STACK_PAGE STACK_PAGES)

-- ---- where they lie

pub stack_range : (number : ℕ) → in_stack number ≡ true → (FIRST_STACK_PAGE ≤ number) × (number < FIRST_STACK_PAGE + STACK_PAGES)
stack_range number is =
    let parts = and_parts (nat_le FIRST_STACK_PAGE number) (nat_lt number (FIRST_STACK_PAGE + STACK_PAGES)) is in
    (leb-true FIRST_STACK_PAGE number parts.0, ltb-true number (FIRST_STACK_PAGE + STACK_PAGES) parts.1)

pub opening_below_end : (image : Image) (args : List (List ℕ)) → IsLoadable image → (number : ℕ) → IsSome (get (opening_pages image args) number) → number < 0xBFFFF
opening_below_end image args loadable number some = ⊎_elim
    (λ (met : in_segments image.segments number ≡ true). page_below_end image loadable number met)
    (λ (stack : in_stack number ≡ true).
    let last = (stack_range number stack).1 in
    omega arith)
    (or_cases (in_segments image.segments number) (in_stack number) (sym (is_some-opening image args number) ∙ some))
