-- Flat images, and the pages that a range of memory meets.
use Rattle.std.specs.Prelude.{ℕ, ◌+◌, ◌-◌, ◌/◌, ◌==◌, ◌&&◌, Bool, List, [], ◌∷◌, length, nat_lt, nat_le, Result, Ok, Err, if◌then◌else◌}
use Rattle.sl_model.specs.declared.layout.TheConstants.{PAGE_SIZE, MEMORY_END, FIRST_STACK_PAGE, STACK_PAGES, MOST_LOADED_PAGES}
use Rattle.elf_image.specs.declared.image.Image.{Image}
use Rattle.elf_image.specs.declared.fault.ImageFault.{ImageFault}
use Rattle.elf_image.specs.declared.fault.ImageCause.{ImageCause}
use Rattle.elf_image.specs.declared.fault.ImageCause.TheVariants as cause

-- how many pages a range that isn't empty meets
abbrev pub page_count : ℕ → ℕ → ℕ
page_count start len = (start + len - 1) / PAGE_SIZE - start / PAGE_SIZE + 1

-- does a range that isn't empty meet a page of the stack
abbrev pub meets_stack : ℕ → ℕ → Bool
meets_stack start len =
    nat_lt (start / PAGE_SIZE) (FIRST_STACK_PAGE + STACK_PAGES)
    && nat_le FIRST_STACK_PAGE ((start + len - 1) / PAGE_SIZE)

-- a fault of a flat image, which is told at its start
abbrev pub flat_fault : ImageCause → Result Image ImageFault
flat_fault cause = Err (record { place = 0; cause = cause })

-- one segment of these bytes, which is entered at its first byte
abbrev pub one_segment : ℕ → List ℕ → Image
one_segment address bytes =
    record {
      entry = address;
      segments = record { vaddr = address; memsz = length bytes; bytes = bytes } ∷ [];
      symbols = [];
    }

-- the image of bytes that are loaded at an address, or its fault
unfoldable pub flat_image : ℕ → List ℕ → Result Image ImageFault
flat_image address bytes =
    let len = length bytes in
    if len == 0 then flat_fault cause.SegmentRange
    else if nat_lt MEMORY_END (address + len) then flat_fault cause.SegmentRange
    else if nat_lt MOST_LOADED_PAGES (page_count address len + STACK_PAGES)
    then flat_fault cause.SegmentRange
    else if meets_stack address len then flat_fault cause.Overlap
    else Ok (one_segment address bytes)
