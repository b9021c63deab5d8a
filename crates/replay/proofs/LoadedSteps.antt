-- The steps of a loader: segments that are mapped and filled one after the other, and the stack behind them.
use Rattle.std.specs.Prelude.{◌||◌, IsSome, drop, nat_le, nat_lt, slice_set, replicate}
use Rattle.std.specs.List.{AllByRecursion, flat_map}
use Rattle.std.specs.FinMap.{get, len}
use Rattle.std.proofs.Common.{◌≡◌, ℕ, ◌+◌, ◌/◌, ◌<◌, ◌≤◌, true, List, ◌∷◌, length, refl, sym, ap, subst, ◌∙◌, arith, get_or}
use Rattle.std.proofs.lemmas.Bool.{or_right, and_from}
use Rattle.std.proofs.lemmas.List.{drop_all}
use Rattle.std.proofs.Common.{le-leb, lt-ltb}
use Rattle.sl_model.specs.declared.layout.Layout.{Layout}
use Rattle.sl_model.specs.declared.run_state.RunState.TheVariants.{Running}
use Rattle.sl_model.specs.declared.layout.TheConstants.{STACK_START, STACK_END, FIRST_STACK_PAGE, STACK_PAGES}
use Rattle.sl_model.specs.Pages.{Pages, bytes_at, set_bytes, low_bytes}
use Rattle.sl_model.proofs.PagesLaws.{AreWhole, is_some-set_bytes}
use Rattle.sl_model.specs.State.{State}
use Rattle.sl_model.proofs.Memory.{bytes_at-from_pages}
use Rattle.sl_model.proofs.WholePages.{AreWhole-set_bytes}
use Rattle.elf_image.specs.declared.image.Image.{Image}
use Rattle.elf_image.specs.declared.image.Segment.{Segment}
use Rattle.elf_image.specs.Loadable.{meets_page, IsPlaced, IsLoadable}
use Rattle.elf_image.proofs.LoadableLaws.{meets_page-byte}
use Rattle.rec_format.specs.Rules.{AreArguments}
use Rattle.replay.specs.Opening.{map_segment, map_segments, mapped, fill_segments, strings, strings_start, stack_words, stack_pointer, heap_start, heap_limit, opening_pages, opening}
use Rattle.replay.proofs.OpeningPages.{in_segments, in_stack, is_some-mapped, is_some-filled, AreWhole-mapped, AreWhole-filled, len-map_segments-above}
use Rattle.replay.proofs.OpeningStack.{from_next, StandsAt, stands_at, length-stack_words}

-- ---- pages

pub map_next : (pages : Pages) (segments : List Segment) (i : ℕ) (segment : Segment) → i < length segments → segment ≡ get_or segments i segment
    → map_segments pages (drop i segments) ≡ map_segments (map_segment pages segment) (drop (i + 1) segments)
unfolding map_segments
map_next pages segments i segment within is = ap (map_segments pages) (from_next segments i segment within is)

pub map_none : (pages : Pages) (segments : List Segment) (i : ℕ) → length segments ≤ i → map_segments pages (drop i segments) ≡ pages
unfolding map_segments
map_none pages segments i past = ap (map_segments pages) (drop_all i segments past)

pub room_for_segment : (pages : Pages) (segments : List Segment) (i : ℕ) (segment : Segment) (all : Pages) (most : ℕ) → i < length segments → segment ≡ get_or segments i segment
    → map_segments pages (drop i segments) ≡ all → len all ≤ most → len (map_segment pages segment) ≤ most
room_for_segment pages segments i segment all most within is left few =
    let same : len (map_segments (map_segment pages segment) (drop (i + 1) segments)) ≡ len all = ap len (sym (map_next pages segments i segment within is) ∙ left) in
    let above = len-map_segments-above (map_segment pages segment) (drop (i + 1) segments) in
    omega arith

pub placed_next : (segments : List Segment) (i : ℕ) (segment : Segment) → i < length segments → segment ≡ get_or segments i segment
    → AllByRecursion IsPlaced (drop i segments) → IsPlaced segment × AllByRecursion IsPlaced (drop (i + 1) segments)
placed_next segments i segment within is placed = subst (AllByRecursion IsPlaced) (from_next segments i segment within is) placed

-- ---- bytes

-- each page that meets one of the segments is mapped
abbrev pub AreMapped : Pages → List Segment → Type 0
AreMapped pages segments = (number : ℕ) → in_segments segments number ≡ true → IsSome (get pages number)

pub AreMapped-image : (image : Image) → AreMapped (mapped image) image.segments
AreMapped-image image number met = is_some-mapped image number ∙ ap (λ b. b || in_stack number) met

-- the bytes of a segment are mapped where its pages are
pub segment_mapped : (pages : Pages) (segment : Segment) → AreWhole pages → IsPlaced segment → ((number : ℕ) → meets_page segment number ≡ true → IsSome (get pages number))
    → IsSome (bytes_at pages segment.vaddr (length segment.bytes))
segment_mapped pages segment whole placed there =
    bytes_at-from_pages pages segment.vaddr (length segment.bytes) whole (λ k within.
    let size = placed.size in
    there ((segment.vaddr + k) / 4096) (meets_page-byte segment (segment.vaddr + k) (record { from = omega arith; to = omega arith })))

pub record IsFilling (pages : Pages) (segments : List Segment) (all : Pages) : Type 0 where
  pub left : fill_segments pages segments ≡ all
  pub placed : AllByRecursion IsPlaced segments
  pub there : AreMapped pages segments
  pub whole : AreWhole pages

pub filling_image : (image : Image) → IsLoadable image → IsFilling (mapped image) image.segments (fill_segments (mapped image) image.segments)
filling_image image loadable = record { left = refl; placed = loadable.placed; there = AreMapped-image image; whole = AreWhole-mapped image }

module _ (pages : Pages) (segments : List Segment) (i : ℕ) (segment : Segment) (all : Pages) (within : i < length segments) (is : segment ≡ get_or segments i segment)
    (filling : IsFilling pages (drop i segments) all) where
  next : drop i segments ≡ segment ∷ drop (i + 1) segments
  next = from_next segments i segment within is

  at_next : IsFilling pages (segment ∷ drop (i + 1) segments) all
  at_next = subst (λ l. IsFilling pages l all) next filling

  pub next_mapped : IsSome (bytes_at pages segment.vaddr (length segment.bytes))
  next_mapped = segment_mapped pages segment at_next.whole at_next.placed.0 (λ number met. at_next.there number (ap (λ b. b || in_segments (drop (i + 1) segments) number) met))

  pub filling_next : IsFilling (set_bytes pages segment.vaddr segment.bytes) (drop (i + 1) segments) all
  unfolding fill_segments
  filling_next = record {
    left = at_next.left;
    placed = at_next.placed.1;
    there = λ number met. is_some-set_bytes pages segment.vaddr segment.bytes number
        ∙ at_next.there number (or_right (meets_page segment number) (in_segments (drop (i + 1) segments) number) met);
    whole = AreWhole-set_bytes pages segment.vaddr segment.bytes at_next.whole;
  }

pub filling_done : (pages : Pages) (segments : List Segment) (i : ℕ) (all : Pages) → length segments ≤ i → IsFilling pages (drop i segments) all → pages ≡ all
unfolding fill_segments
filling_done pages segments i all past filling = sym (ap (fill_segments pages) (drop_all i segments past)) ∙ filling.left

-- ---- the stack

-- a page of an address in the stack is one of the stack
stack_page : (address : ℕ) → STACK_START ≤ address → address < STACK_END → in_stack (address / 4096) ≡ true
stack_page address from to =
    and_from (nat_le FIRST_STACK_PAGE (address / 4096)) (nat_lt (address / 4096) (FIRST_STACK_PAGE + STACK_PAGES))
    (le-leb FIRST_STACK_PAGE (address / 4096) (omega arith))
    (lt-ltb (address / 4096) (FIRST_STACK_PAGE + STACK_PAGES) (omega arith))

-- bytes in the stack are mapped where its pages are
pub stack_mapped : (pages : Pages) (address count : ℕ) → AreWhole pages → ((number : ℕ) → in_stack number ≡ true → IsSome (get pages number)) → STACK_START ≤ address → address + count ≤ STACK_END
    → IsSome (bytes_at pages address count)
stack_mapped pages address count whole there from to =
    bytes_at-from_pages pages address count whole (λ k within. there ((address + k) / 4096) (stack_page (address + k) (omega arith) (omega arith)))

module _ (image : Image) (args : List (List ℕ)) (are : AreArguments args) where
  abbrev filled : Pages
  filled = fill_segments (mapped image) image.segments

  stack_there : (number : ℕ) → in_stack number ≡ true → IsSome (get filled number)
  stack_there number is = is_some-filled (mapped image) image.segments number ∙ is_some-mapped image number ∙ or_right (in_segments image.segments number) (in_stack number) is

  whole : AreWhole filled
  whole = AreWhole-filled (mapped image) image.segments (AreWhole-mapped image)

  at : StandsAt args
  at = stands_at args are

  pub strings_mapped : IsSome (bytes_at filled (strings_start args) (length (strings args)))
  strings_mapped =
      let start = at.start in
      stack_mapped filled (strings_start args) (length (strings args)) whole stack_there (omega arith) at.end

  pub words_mapped : IsSome (bytes_at (set_bytes filled (strings_start args) (strings args)) (stack_pointer args) (length (flat_map (low_bytes 4) (stack_words args))))
  words_mapped =
      let end = at.end in
      let words_end = at.words_end in
      stack_mapped (set_bytes filled (strings_start args) (strings args)) (stack_pointer args) (length (flat_map (low_bytes 4) (stack_words args)))
      (AreWhole-set_bytes filled (strings_start args) (strings args) whole)
      (λ number is. is_some-set_bytes filled (strings_start args) (strings args) number ∙ stack_there number is)
      at.pointer (omega (arith, length-stack_words args))

-- ---- the state

pub opened_at : (image : Image) (args : List (List ℕ)) (pointer : ℕ) (layout : Layout) → pointer ≡ stack_pointer args → layout.brk_start ≡ heap_start image → layout.heap_limit ≡ heap_limit layout.brk_start
    → ◌≡◌ {A = State} (record { pc = image.entry; x = slice_set (replicate 32 0) 2 pointer; pages = opening_pages image args; brk = layout.brk_start; brk_end = layout.brk_start; next_call = 0; status = Running; count = 0; layout = layout }) (opening image args)
unfolding opening
opened_at image args pointer layout points starts ends =
    let limits : layout.heap_limit ≡ heap_limit (heap_start image) = ends ∙ ap heap_limit starts in
    λ i. record {
      pc = image.entry;
      x = slice_set (replicate 32 0) 2 (points i);
      pages = opening_pages image args;
      brk = starts i;
      brk_end = starts i;
      next_call = 0;
      status = Running;
      count = 0;
      layout = record { brk_start = starts i; heap_limit = limits i };
    }
