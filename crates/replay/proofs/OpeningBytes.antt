-- Memory of a program that is loaded consists of pages of bytes.
use Rattle.std.specs.Prelude.{if◌then◌else◌, ◌==◌, ◌++◌}
use Rattle.std.specs.List.{All, AllByRecursion, flat_map}
use Rattle.std.specs.Ordering.{nat_cmp}
use Rattle.std.specs.FinMap.{empty, get-empty}
use Rattle.std.proofs.Common.{◌≡◌, ℕ, ◌+◌, ◌/◌, ◌^◌, ◌<◌, ◌≤◌, Bool, true, false, List, [], ◌∷◌, refl, arith}
use Rattle.std.proofs.lemmas.Bool.{eqb-false}
use Rattle.std.proofs.lemmas.List.Elements.{All-nil, All-cons, All-append}
use Rattle.sl_model.specs.declared.layout.TheConstants.{MEMORY_END, FIRST_STACK_PAGE, STACK_PAGES}
use Rattle.sl_model.specs.Pages.{Pages, ArePages, set_bytes, low_bytes}
use Rattle.sl_model.proofs.PagesLaws.{All-low_bytes}
use Rattle.sl_model.specs.Mapping.{map_pages}
use Rattle.sl_model.proofs.Mapping.{ArePages-map_pages}
use Rattle.sl_model.proofs.Memory.{ArePages-set_bytes}
use Rattle.elf_image.specs.declared.image.Image.{Image}
use Rattle.elf_image.specs.declared.image.Segment.{Segment}
use Rattle.elf_image.specs.Flat.{page_count}
use Rattle.elf_image.specs.Loadable.{IsPlaced, IsLoadable}
use Rattle.replay.specs.Opening.{map_segment, map_segments, mapped, fill_segments, strings, strings_start, stack_words, stack_pointer, opening_pages, AreBytes}

ArePages-empty : ArePages empty
ArePages-empty number = rw (get-empty nat_cmp number) tt

last_page : (start len : ℕ) → 0 < len → start + len ≤ MEMORY_END → start / 4096 + page_count start len ≤ 2 ^ 20
last_page start len some within = omega arith

ArePages-map_segment : (pages : Pages) (segment : Segment) → ArePages pages → IsPlaced segment → ArePages (map_segment pages segment)
ArePages-map_segment pages segment are placed = chosen (segment.memsz == 0) refl
  where
    chosen : (b : Bool) → (segment.memsz == 0) ≡ b → ArePages (if b then pages else map_pages pages (segment.vaddr / 4096) (page_count segment.vaddr segment.memsz))
    chosen true is = are
    chosen false is =
        let not_zero = eqb-false segment.memsz 0 is in
        let some : 0 < segment.memsz = omega arith in
        ArePages-map_pages pages (segment.vaddr / 4096) (page_count segment.vaddr segment.memsz) are (last_page segment.vaddr segment.memsz some (placed.below_end some))

ArePages-map_segments : (pages : Pages) (segments : List Segment) → ArePages pages → AllByRecursion IsPlaced segments → ArePages (map_segments pages segments)
unfolding map_segments
ArePages-map_segments pages [] are placed = are
ArePages-map_segments pages (segment ∷ segments) are placed = ArePages-map_segments (map_segment pages segment) segments (ArePages-map_segment pages segment are placed.0) placed.1

ArePages-filled : (pages : Pages) (segments : List Segment) → ArePages pages → AllByRecursion IsPlaced segments → ArePages (fill_segments pages segments)
unfolding fill_segments
ArePages-filled pages [] are placed = are
ArePages-filled pages (segment ∷ segments) are placed =
    ArePages-filled (set_bytes pages segment.vaddr segment.bytes) segments (ArePages-set_bytes pages segment.vaddr segment.bytes are placed.0.bytes) placed.1

small_strings : (args : List (List ℕ)) → AreBytes args → All (λ b. b < 256) (strings args)
small_strings [] bytes = All-nil (λ b. b < 256)
small_strings (arg ∷ args) bytes =
    All-append (λ b. b < 256) (arg ++ 0 ∷ []) (strings args) (All-append (λ b. b < 256) arg (0 ∷ []) bytes.0 (All-cons (λ b. b < 256) 0 [] (omega arith) (All-nil (λ b. b < 256)))) (small_strings args bytes.1)

small_words : (words : List ℕ) → All (λ b. b < 256) (flat_map (low_bytes 4) words)
small_words [] = All-nil (λ b. b < 256)
small_words (word ∷ words) = All-append (λ b. b < 256) (low_bytes 4 word) (flat_map (low_bytes 4) words) (All-low_bytes 4 word) (small_words words)

pub ArePages-opening : (image : Image) (args : List (List ℕ)) → IsLoadable image → AreBytes args → ArePages (opening_pages image args)
ArePages-opening image args loadable bytes =
    let segments = ArePages-map_segments empty image.segments ArePages-empty loadable.placed in
    let all = ArePages-map_pages (map_segments empty image.segments) FIRST_STACK_PAGE STACK_PAGES segments (omega arith) in
    let filled = ArePages-filled (mapped image) image.segments all loadable.placed in
    ArePages-set_bytes (set_bytes (fill_segments (mapped image) image.segments) (strings_start args) (strings args)) (stack_pointer args) (flat_map (low_bytes 4) (stack_words args))
    (ArePages-set_bytes (fill_segments (mapped image) image.segments) (strings_start args) (strings args) filled (small_strings args bytes))
    (small_words (stack_words args))
