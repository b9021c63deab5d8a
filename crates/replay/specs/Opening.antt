-- The opening state: a program as it is loaded, with its stack.
use Rattle.std.specs.Prelude.{ℕ, ◌<◌, ◌+◌, ◌-◌, ◌*◌, ◌/◌, ◌==◌, List, [], ◌∷◌, ◌++◌, length, min, max, replicate, slice_set, nat_le, if◌then◌else◌}
use Rattle.std.specs.List.{All, AllByRecursion, flat_map}
use Rattle.std.specs.FinMap.{empty}
use Rattle.sl_model.specs.declared.run_state.RunState.TheVariants.{Running}
use Rattle.sl_model.specs.Pages.{Pages, set_bytes, low_bytes}
use Rattle.sl_model.specs.Mapping.{map_pages}
use Rattle.sl_model.specs.State.{State}
use Rattle.sl_model.specs.declared.layout.TheConstants.{PAGE_SIZE, MEMORY_END, STACK_START, STACK_END, FIRST_STACK_PAGE, STACK_PAGES, HEAP_SIZE}
use Rattle.elf_image.specs.declared.image.Image.{Image}
use Rattle.elf_image.specs.declared.image.Segment.{Segment}
use Rattle.elf_image.specs.Flat.{page_count}

-- ---- memory

-- the pages that meet a segment
abbrev pub map_segment : Pages → Segment → Pages
map_segment pages segment =
    if segment.memsz == 0 then pages
    else map_pages pages (segment.vaddr / PAGE_SIZE) (page_count segment.vaddr segment.memsz)

unfoldable pub map_segments : Pages → List Segment → Pages
map_segments pages [] = pages
map_segments pages (segment ∷ segments) = map_segments (map_segment pages segment) segments

-- the pages of an image and of the stack, of zeros
abbrev pub mapped : Image → Pages
mapped image = map_pages (map_segments empty image.segments) FIRST_STACK_PAGE STACK_PAGES

-- the bytes of each segment stand at its start
unfoldable pub fill_segments : Pages → List Segment → Pages
fill_segments pages [] = pages
fill_segments pages (segment ∷ segments) =
    fill_segments (set_bytes pages segment.vaddr segment.bytes) segments

-- ---- the stack

-- the least multiple of a size that is n or more
abbrev pub round_up : ℕ → ℕ → ℕ
round_up size n = (n + (size - 1)) / size * size

-- the arguments, each with a zero byte behind it
abbrev pub strings : List (List ℕ) → List ℕ
strings args = flat_map (λ arg. arg ++ 0 ∷ []) args

-- where they start
abbrev pub strings_start : List (List ℕ) → ℕ
strings_start args = STACK_END - round_up 16 (length (strings args))

-- where each of them starts, the first at this address
abbrev pub string_addresses : ℕ → List (List ℕ) → List ℕ
string_addresses address [] = []
string_addresses address (arg ∷ args) = address ∷ string_addresses (address + length arg + 1) args

-- the words at the stack pointer: the number of arguments, their addresses, and four zeros, which
-- end them, are the empty environment and the empty list behind it
abbrev pub stack_words : List (List ℕ) → List ℕ
stack_words args = length args ∷ (string_addresses (strings_start args) args ++ replicate 4 0)

abbrev pub stack_pointer : List (List ℕ) → ℕ
stack_pointer args = (strings_start args - 4 * (length args + 5)) / 16 * 16

-- the arguments, and the words at the stack pointer
abbrev pub fill_stack : Pages → List (List ℕ) → Pages
fill_stack pages args =
    let with_strings : Pages = set_bytes pages (strings_start args) (strings args) in
    set_bytes with_strings (stack_pointer args) (flat_map (low_bytes 4) (stack_words args))

-- ---- the heap

-- the end of a segment, and 0 where it takes no memory
abbrev pub end_of : Segment → ℕ
end_of segment = if segment.memsz == 0 then 0 else segment.vaddr + segment.memsz

-- the end of the highest segment that takes memory
abbrev pub highest_end : List Segment → ℕ
highest_end [] = 0
highest_end (segment ∷ segments) = max (end_of segment) (highest_end segments)

-- where the heap starts
abbrev pub heap_start : Image → ℕ
heap_start image = round_up PAGE_SIZE (highest_end image.segments)

-- what a heap must not pass: the stack, where it starts below it, and else the end of memory
abbrev pub wall : ℕ → ℕ
wall start = if nat_le start STACK_START then STACK_START else MEMORY_END

-- 16 MiB of heap, as far as there is room
abbrev pub heap_limit : ℕ → ℕ
heap_limit start = min (start + HEAP_SIZE) (wall start)

-- ---- the state

abbrev pub opening_pages : Image → List (List ℕ) → Pages
opening_pages image args = fill_stack (fill_segments (mapped image) image.segments) args

-- all registers are 0 but the stack pointer, x2
abbrev pub opening_registers : List (List ℕ) → List ℕ
opening_registers args = slice_set (replicate 32 0) 2 (stack_pointer args)

unfoldable pub opening : Image → List (List ℕ) → State
opening image args =
    let start : ℕ = heap_start image in
    record {
      pc = image.entry;
      x = opening_registers args;
      pages = opening_pages image args;
      brk = start;
      brk_end = start;
      next_call = 0;
      status = Running;
      count = 0;
      layout = record { brk_start = start; heap_limit = heap_limit start };
    }

-- arguments are bytes
abbrev pub AreBytes : List (List ℕ) → Type 0
AreBytes args = AllByRecursion (λ arg. All (λ b. b < 256) arg) args
