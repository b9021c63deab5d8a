-- A program that is loaded stands before its first instruction, with its memory laid out.
use Rattle.std.specs.Prelude.{if◌then◌else◌, ◌*◌, ◌-◌, ◌&&◌, ◌==◌, IsSome, nat_le, nat_lt, max, min, replicate, filter}
use Rattle.std.specs.List.{AllByRecursion}
use Rattle.std.specs.FinMap.{get, keys}
use Rattle.std.proofs.Common.{◌≡◌, ℕ, zero, suc, ◌+◌, ◌/◌, ◌%◌, ◌<◌, ◌≤◌, ◌⊎◌, inl, inr, ⊎_elim, Bool, true, false, List, [], ◌∷◌, length, refl, sym, ap, subst, ◌∙◌, arith, le_refl, ltb-false, leb-true, leb-false, true≢false}
use Rattle.std.proofs.lemmas.Bool.{or_cases, and_cases, eqb-false, eqb-true}
use Rattle.std.proofs.Math.ListN.{length-set}
use Rattle.sl_model.specs.declared.layout.TheConstants.{MEMORY_END, STACK_START, STACK_END, FIRST_STACK_PAGE, STACK_PAGES, HEAP_SIZE}
use Rattle.sl_model.specs.Pages.{ArePages}
use Rattle.sl_model.specs.Words.{IsWord}
use Rattle.sl_model.specs.State.{IsState, Fits, IsOpening, is_outside_heap}
use Rattle.sl_model.proofs.Counted.{same_number, length-passing}
use Rattle.sl_model.proofs.Steps.{words-set}
use Rattle.elf_image.specs.declared.image.Image.{Image}
use Rattle.elf_image.specs.declared.image.Segment.{Segment}
use Rattle.elf_image.specs.Flat.{meets_stack}
use Rattle.elf_image.specs.Loadable.{meets_page, IsPlaced, IsLoadable}
use Rattle.elf_image.proofs.LoadableLaws.{HoldsByte-from_meets}
use Rattle.rec_format.specs.Rules.{AreArguments}
use Rattle.replay.specs.Opening.{mapped, end_of, highest_end, heap_start, heap_limit, round_up, stack_pointer, opening_pages, opening}
use Rattle.replay.proofs.OpeningPages.{in_segments, in_stack, stack_range, is_some-mapped, is_some-opening, opening_below_end, len-mapped}
use Rattle.replay.proofs.OpeningStack.{stands_at}

-- ---- the heap lies behind the image

-- a segment that takes memory lies above the stack or below it
segment_apart : (address size : ℕ) → 0 < size → meets_stack address size ≡ false → (STACK_END ≤ address) ⊎ (address + size ≤ STACK_START)
segment_apart address size some none = ⊎_elim
    (λ (above : nat_lt (address / 4096) (FIRST_STACK_PAGE + STACK_PAGES) ≡ false).
    let low : FIRST_STACK_PAGE + STACK_PAGES ≤ address / 4096 = ltb-false (address / 4096) (FIRST_STACK_PAGE + STACK_PAGES) above in
    inl (omega arith))
    (λ (below : nat_le FIRST_STACK_PAGE ((address + size - 1) / 4096) ≡ false).
    let high : (address + size - 1) / 4096 < FIRST_STACK_PAGE = leb-false FIRST_STACK_PAGE ((address + size - 1) / 4096) below in
    inr (omega arith))
    (and_cases (nat_lt (address / 4096) (FIRST_STACK_PAGE + STACK_PAGES)) (nat_le FIRST_STACK_PAGE ((address + size - 1) / 4096)) none)

-- a number that is no place in the stack, but for its first byte
abbrev IsApart : ℕ → Type 0
IsApart n = (STACK_END ≤ n) ⊎ (n ≤ STACK_START)

record EndsWell (end : ℕ) : Type 0 where
  within : end ≤ MEMORY_END
  apart : IsApart end

end_well : (segment : Segment) → IsPlaced segment → EndsWell (end_of segment)
end_well segment placed = chosen (segment.memsz == 0) refl
  where
    chosen : (b : Bool) → (segment.memsz == 0) ≡ b → EndsWell (if b then 0 else segment.vaddr + segment.memsz)
    chosen true is = record { within = omega arith; apart = inr (omega arith) }
    chosen false is =
        let not_zero = eqb-false segment.memsz 0 is in
        let some : 0 < segment.memsz = omega arith in
        record {
          within = placed.below_end some;
          apart = ⊎_elim (λ (above : STACK_END ≤ segment.vaddr). inl (omega arith)) (λ (below : segment.vaddr + segment.memsz ≤ STACK_START). inr below)
              (segment_apart segment.vaddr segment.memsz some (placed.beside_stack some));
        }

max_well : (a b : ℕ) → EndsWell a → EndsWell b → EndsWell (max a b)
max_well a b first second = ⊎_elim
    (λ (less : a ≤ b). subst EndsWell (omega arith) second)
    (λ (more : b ≤ a). subst EndsWell (omega arith) first)
    (total a b)
  where
    total : (a b : ℕ) → (a ≤ b) ⊎ (b ≤ a)
    total a b = grind arith

highest_well : (segments : List Segment) → AllByRecursion IsPlaced segments → EndsWell (highest_end segments)
highest_well [] placed = record { within = omega arith; apart = inr (omega arith) }
highest_well (segment ∷ segments) placed = max_well (end_of segment) (highest_end segments) (end_well segment placed.0) (highest_well segments placed.1)

rounded : (n : ℕ) → EndsWell n → EndsWell (round_up 4096 n)
rounded n well =
    let within = well.within in
    record { within = omega arith; apart = ⊎_elim (λ (above : STACK_END ≤ n). inl (omega arith)) (λ (below : n ≤ STACK_START). inr (omega arith)) well.apart }

start_well : (image : Image) → IsLoadable image → EndsWell (heap_start image)
start_well image loadable = rounded (highest_end image.segments) (highest_well image.segments loadable.placed)

-- no page that meets a segment begins behind its end
below_end : (segment : Segment) (page : ℕ) → meets_page segment page ≡ true → page * 4096 < end_of segment
below_end segment page met =
    let held = HoldsByte-from_meets segment page met in
    chosen (segment.memsz == 0) refl held.takes held.to
  where
    chosen : (b : Bool) → (segment.memsz == 0) ≡ b → 0 < segment.memsz → page ≤ (segment.vaddr + segment.memsz - 1) / 4096
        → page * 4096 < (if b then 0 else segment.vaddr + segment.memsz)
    chosen true is takes to =
        let none = eqb-true segment.memsz 0 is in
        absurd (omega arith)
    chosen false is takes to = omega arith

-- nor behind the highest end
below_highest : (segments : List Segment) (page : ℕ) → in_segments segments page ≡ true → page * 4096 < highest_end segments
below_highest [] page met = absurd (true≢false (sym met))
below_highest (segment ∷ segments) page met = ⊎_elim
    (λ (here : meets_page segment page ≡ true). omega (arith, below_end segment page here))
    (λ (later : in_segments segments page ≡ true). omega (arith, below_highest segments page later))
    (or_cases (meets_page segment page) (in_segments segments page) met)

-- ---- its bounds

record IsLimit (start limit : ℕ) : Type 0 where
  page : limit % 4096 ≡ 0
  above : start ≤ limit
  within : limit ≤ MEMORY_END
  size : limit ≤ start + HEAP_SIZE
  -- no page of the stack lies between them
  free : (number : ℕ) → in_stack number ≡ true → start ≤ number * 4096 → number * 4096 < limit → ⊥

is_limit : (start : ℕ) → EndsWell start → start % 4096 ≡ 0 → IsLimit start (heap_limit start)
is_limit start well page = chosen (nat_le start STACK_START) refl
  where
    chosen : (low : Bool) → nat_le start STACK_START ≡ low → IsLimit start (min (start + HEAP_SIZE) (if low then STACK_START else MEMORY_END))
    chosen true low =
        let below : start ≤ STACK_START = leb-true start STACK_START low in
        record {
          page = omega arith;
          above = omega arith;
          within = omega arith;
          size = omega arith;
          free = λ number is from to.
              let first = (stack_range number is).0 in
              absurd (omega arith);
        }
    chosen false low =
        let above : STACK_START < start = leb-false start STACK_START low in
        let within = well.within in
        record {
          page = omega arith;
          above = omega arith;
          within = omega arith;
          size = omega arith;
          free = λ number is from to.
              let last = (stack_range number is).1 in
              ⊎_elim (λ (high : STACK_END ≤ start). absurd (omega arith)) (λ (under : start ≤ STACK_START). absurd (omega arith)) well.apart;
        }

-- ---- the state

zeros_are_words : (n : ℕ) → AllByRecursion IsWord (replicate n 0)
zeros_are_words zero = tt
zeros_are_words (suc n) = (omega arith, zeros_are_words n)

module _ (image : Image) (args : List (List ℕ)) (loadable : IsLoadable image) (are : AreArguments args) where
  well : EndsWell (heap_start image)
  well = start_well image loadable

  page : heap_start image % 4096 ≡ 0
  page = omega arith

  limit : IsLimit (heap_start image) (heap_limit (heap_start image))
  limit = is_limit (heap_start image) well page

  heap_is_free : (number : ℕ) → heap_start image ≤ number * 4096 → number * 4096 < heap_limit (heap_start image) → IsSome (get (opening_pages image args) number) → ⊥
  heap_is_free number from to some = ⊎_elim
      (λ (met : in_segments image.segments number ≡ true).
      let below = below_highest image.segments number met in
      absurd (omega arith))
      (λ (stack : in_stack number ≡ true). limit.free number stack from to)
      (or_cases (in_segments image.segments number) (in_stack number) (sym (is_some-opening image args number) ∙ some))

  few_pages : (p : ℕ → Bool) → length (filter p (keys (opening_pages image args))) ≤ 12288
  few_pages p =
      let same : length (filter p (keys (opening_pages image args))) ≡ length (filter p (keys (mapped image))) =
      same_number p (opening_pages image args) (mapped image) (λ q. ap (λ b. b && p q) (is_some-opening image args q ∙ sym (is_some-mapped image q))) in
      omega (arith, length-passing p (mapped image), len-mapped image loadable)

  Fits-opening : Fits (opening image args)
  unfolding opening
  Fits-opening = record {
    layout = record { start = page; limit = limit.page; ordered = limit.above; below_end = limit.within; size = limit.size };
    mapped_end = page;
    end_from = le_refl (heap_start image);
    end_to = limit.above;
    pages_below = λ number some.
        let below = opening_below_end image args loadable number some in
        omega arith;
    heap = λ number from to. ((λ some. absurd (heap_is_free number from to some)), (λ below. absurd (omega arith)));
    few = few_pages (is_outside_heap (record { brk_start = heap_start image; heap_limit = heap_limit (heap_start image) }));
  }

  IsState-opening : ArePages (opening_pages image args) → IsState (opening image args)
  unfolding opening
  IsState-opening pages =
      let at = stands_at args are in
      let below = at.words_end in
      let within = well.within in
      let high = limit.within in
      record {
        pc = loadable.entry;
        registers = length-set (replicate 32 0) 2 (stack_pointer args);
        words = words-set (replicate 32 0) 2 (stack_pointer args) (zeros_are_words 32) (omega arith);
        zero = refl;
        pages = pages;
        brk = omega arith;
        brk_end = omega arith;
        next_call = omega arith;
        status = tt;
        count = omega arith;
        layout = record { brk_start = omega arith; heap_limit = omega arith };
      }

  pub IsOpening-pages : ArePages (opening_pages image args) → IsOpening (opening image args)
  unfolding opening
  IsOpening-pages pages = record {
    state = IsState-opening pages;
    fits = Fits-opening;
    running = refl;
    count = refl;
    next_call = refl;
    brk = refl;
    no_heap = refl;
  }
