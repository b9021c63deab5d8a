-- Images that can be loaded: what every image that is read keeps.
use Rattle.std.specs.Prelude.{◌≡◌, ℕ, ◌+◌, ◌/◌, ◌^◌, ◌<◌, ◌≤◌, ◌&&◌, Bool, false, true, List, [], length, nat_lt, nat_le, if◌then◌else◌}
use Rattle.std.specs.List.{All, AllByRecursion, AllPairs, flat_map, list_any, range_with_len}
use Rattle.std.specs.Ordering.{nat_cmp}
use Rattle.std.specs.FinSet.{FinSet, from_list, len}
use Rattle.sl_base.specs.declared.symbol.Symbol.{Symbol}
use Rattle.elf_image.specs.declared.image.Image.{Image}
use Rattle.elf_image.specs.declared.image.Segment.{Segment}
use Rattle.sl_model.specs.declared.layout.TheConstants.{PAGE_SIZE, MEMORY_END, STACK_PAGES, MOST_LOADED_PAGES}
use Rattle.elf_image.specs.Flat.{page_count, meets_stack}

abbrev pub takes_memory : Segment → Bool
takes_memory segment = nat_lt 0 segment.memsz

-- the address is that of a byte of the segment
pub record IsByteOf (segment : Segment) (address : ℕ) : Type 0 where
  pub from : segment.vaddr ≤ address
  pub to : address < segment.vaddr + segment.memsz

abbrev pub ShareNoByte : Segment → Segment → Type 0
ShareNoByte a b = (address : ℕ) → IsByteOf a address → IsByteOf b address → ⊥

-- the pages that meet a segment
abbrev pub segment_pages : Segment → List ℕ
segment_pages segment =
    if takes_memory segment
    then range_with_len (segment.vaddr / PAGE_SIZE) (page_count segment.vaddr segment.memsz)
    else []

-- does the page meet a segment
abbrev pub meets_page : Segment → ℕ → Bool
meets_page segment page =
    let first = segment.vaddr / PAGE_SIZE in
    let count = page_count segment.vaddr segment.memsz in
    takes_memory segment && (nat_le first page && nat_lt page (first + count))

-- the set of the pages that meet some of the segments, and its size
unfoldable pub page_set : List Segment → FinSet nat_cmp
page_set segments = from_list (flat_map segment_pages segments)

abbrev pub number_of_pages : List Segment → ℕ
number_of_pages segments = len (page_set segments)

-- its bytes are bytes of its memory, which has a place in program memory beside the stack
pub record IsPlaced (segment : Segment) : Type 0 where
  pub vaddr : segment.vaddr < 2 ^ 32
  pub memsz : segment.memsz < 2 ^ 32
  pub bytes : All (λ b. b < 256) segment.bytes
  pub size : length segment.bytes ≤ segment.memsz
  pub below_end : 0 < segment.memsz → segment.vaddr + segment.memsz ≤ MEMORY_END
  pub beside_stack : 0 < segment.memsz → meets_stack segment.vaddr segment.memsz ≡ false

pub record IsNamed (symbol : Symbol) : Type 0 where
  pub name : All (λ b. b < 256) symbol.name
  pub value : symbol.value < 2 ^ 32

pub record IsLoadable (image : Image) : Type 0 where
  pub entry : image.entry < 2 ^ 32
  pub some : list_any takes_memory image.segments ≡ true
  pub placed : AllByRecursion IsPlaced image.segments
  pub apart : AllPairs ShareNoByte image.segments
  pub few : number_of_pages image.segments + STACK_PAGES ≤ MOST_LOADED_PAGES
  pub named : AllByRecursion IsNamed image.symbols
