-- The program headers of an ELF32 file, the segments that they load, and their checks (System V
-- ABI, Program Header).
use Rattle.std.specs.Prelude.{ℕ, zero, suc, ◌+◌, ◌==◌, ◌&&◌, ◌||◌, not, Bool, List, [], ◌∷◌, ◌++◌, length, map, filter, nat_lt, nat_le, slice_range, if◌then◌else◌}
use Rattle.std.specs.List.{list_any}
use Rattle.sl_model.specs.declared.layout.TheConstants.{MEMORY_END, STACK_PAGES, MOST_LOADED_PAGES}
use Rattle.elf_image.specs.declared.check.Check.{Check}
use Rattle.elf_image.specs.declared.headers.ProgramHeader.{ProgramHeader}
use Rattle.elf_image.specs.declared.image.Segment.{Segment}
use Rattle.elf_image.specs.declared.fault.ImageCause.TheVariants.{Short, Interp, SegmentRange, Overlap}
use Rattle.elf_image.specs.Checks.{check}
use Rattle.elf_image.specs.Flat.{meets_stack}
use Rattle.elf_image.specs.Header.{word_at, e_phoff, e_phnum}
use Rattle.elf_image.specs.Loadable.{number_of_pages}

-- the offsets of so many entries of a size, the first at an offset
abbrev pub offsets : ℕ → ℕ → ℕ → List ℕ
offsets start size zero = []
offsets start size (suc count) = start ∷ offsets (start + size) size count

-- the program header that stands at an offset
unfoldable pub program_header : List ℕ → ℕ → ProgramHeader
program_header file place =
    record {
      place = place;
      p_type = word_at file place;
      p_offset = word_at file (place + 4);
      p_vaddr = word_at file (place + 8);
      p_filesz = word_at file (place + 16);
      p_memsz = word_at file (place + 20);
    }

abbrev pub program_headers : List ℕ → List ProgramHeader
program_headers file = map (program_header file) (offsets (e_phoff file) 32 (e_phnum file))

-- PT_LOAD, with some memory
abbrev pub is_loaded : ProgramHeader → Bool
is_loaded header = header.p_type == 1 && nat_lt 0 header.p_memsz

-- what a header loads
abbrev pub segment_of : List ℕ → ProgramHeader → Segment
segment_of file header =
    record {
      vaddr = header.p_vaddr;
      memsz = header.p_memsz;
      bytes = slice_range file header.p_offset (header.p_offset + header.p_filesz);
    }

abbrev pub segments : List ℕ → List Segment
segments file = map (segment_of file) (filter is_loaded (program_headers file))

-- ---- the checks

-- does a segment have a byte from one address up to before another
abbrev pub has_byte_in : ℕ → ℕ → Segment → Bool
has_byte_in start end segment =
    nat_lt start (segment.vaddr + segment.memsz) && nat_lt segment.vaddr end

-- the segment shares no byte with those before it, and meets no page of the stack
abbrev pub is_free : List Segment → Segment → Bool
is_free before segment =
    let end = segment.vaddr + segment.memsz in
    not (list_any (has_byte_in segment.vaddr end) before || meets_stack segment.vaddr segment.memsz)

-- do the segments and the stack meet few enough pages
abbrev pub are_few : List Segment → Bool
are_few segments = nat_le (number_of_pages segments + STACK_PAGES) MOST_LOADED_PAGES

-- its bytes lie in the file and in its memory, and its memory in that of a program
abbrev pub range_checks : List ℕ → ProgramHeader → List Check
range_checks file header =
    check (nat_le (header.p_offset + header.p_filesz) (length file)) (header.place + 4) Short
    ∷ check (nat_le header.p_filesz header.p_memsz) (header.place + 16) SegmentRange
    ∷ check (nat_le (header.p_vaddr + header.p_memsz) MEMORY_END) (header.place + 8) SegmentRange
    ∷ []

-- its memory is free, and with those before it it meets few enough pages
abbrev pub memory_checks : List Segment → Segment → ℕ → List Check
memory_checks before segment place =
    check (is_free before segment) place Overlap
    ∷ check (are_few (before ++ segment ∷ [])) place SegmentRange
    ∷ []

-- the segments after a header, behind those before it
abbrev pub with_header : List ℕ → List Segment → ProgramHeader → List Segment
with_header file before header =
    if is_loaded header then before ++ segment_of file header ∷ [] else before

-- a header that loads a segment, behind those before it
abbrev pub load_checks : List ℕ → List Segment → ProgramHeader → List Check
load_checks file before header =
    range_checks file header ++ memory_checks before (segment_of file header) header.place

-- a header, which is not PT_INTERP
abbrev pub one_header_checks : List ℕ → List Segment → ProgramHeader → List Check
one_header_checks file before header =
    check (not (header.p_type == 3)) header.place Interp
    ∷ (if is_loaded header then load_checks file before header else [])

-- the headers in order
unfoldable pub each_header_checks : List ℕ → List Segment → List ProgramHeader → List Check
each_header_checks file before [] = []
each_header_checks file before (header ∷ headers) =
    one_header_checks file before header
    ++ each_header_checks file (with_header file before header) headers

-- and then: at least one segment is loaded
abbrev pub segment_checks : List ℕ → List Check
segment_checks file =
    each_header_checks file [] (program_headers file)
    ++ check (nat_lt 0 (length (segments file))) 44 SegmentRange ∷ []
