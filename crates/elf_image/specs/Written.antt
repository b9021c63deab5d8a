-- ELF32 files that are written: the file header, the program headers, the segments' bytes, the
-- symbol table, the string table and the section headers. The tables start at multiples of 4.
use Rattle.std.specs.Prelude.{◌≡◌, ℕ, ◌+◌, ◌-◌, ◌*◌, ◌/◌, ◌^◌, ◌<◌, false, List, [], ◌∷◌, ◌++◌, length, replicate}
use Rattle.std.specs.List.{AllByRecursion, flat_map, list_any}
use Rattle.std.specs.Int.{w16, w32, to_le_bytes}
use Rattle.sl_base.specs.declared.symbol.Symbol.{Symbol}
use Rattle.elf_image.specs.declared.layout.FileLayout.{FileLayout}
use Rattle.elf_image.specs.declared.image.Image.{Image}
use Rattle.elf_image.specs.declared.image.Segment.{Segment}
use Rattle.elf_image.specs.Loadable.{IsLoadable}
use Rattle.elf_image.specs.Symbols.{is_zero}

-- ---- numbers, the lowest byte first

unfoldable pub half : ℕ → List ℕ
half n = to_le_bytes w16 n

unfoldable pub word : ℕ → List ℕ
word n = to_le_bytes w32 n

abbrev pub halves : List ℕ → List ℕ
halves ns = flat_map half ns

abbrev pub words : List ℕ → List ℕ
words ns = flat_map word ns

-- ---- where the parts start

-- the least multiple of 4 that is n or more
abbrev pub aligned : ℕ → ℕ
aligned n = (n + 3) / 4 * 4

-- zero bytes from an offset up to a multiple of 4
unfoldable pub padding : ℕ → List ℕ
padding offset = replicate (aligned offset - offset) 0

-- the segments' bytes, one after the other
abbrev pub segment_bytes : List Segment → List ℕ
segment_bytes segments = flat_map (λ s. s.bytes) segments

-- the names, each with a zero byte behind it, and in the string table another one before them
abbrev pub names : List Symbol → List ℕ
names symbols = flat_map (λ s. s.name ++ 0 ∷ []) symbols

abbrev pub string_table : List Symbol → List ℕ
string_table symbols = 0 ∷ names symbols

abbrev pub layout_of : Image → FileLayout
layout_of image =
    let bytes = 52 + 32 * length image.segments in
    let symbols = aligned (bytes + length (segment_bytes image.segments)) in
    let strings = symbols + 16 * (length image.symbols + 1) in
    let sections = aligned (strings + length (string_table image.symbols)) in
    record { bytes = bytes; symbols = symbols; strings = strings; sections = sections }

-- ---- the parts

-- 0x7F, "ELF", class, data and version 1, and zeros
abbrev pub ident : List ℕ
ident = 0x7F ∷ 0x45 ∷ 0x4C ∷ 0x46 ∷ 1 ∷ 1 ∷ 1 ∷ 0 ∷ 0 ∷ 0 ∷ 0 ∷ 0 ∷ 0 ∷ 0 ∷ 0 ∷ 0 ∷ []

-- type, machine; version, entry, e_phoff, e_shoff, flags; sizes and numbers of headers
unfoldable pub file_header : ℕ → ℕ → ℕ → List ℕ
file_header entry sections phnum =
    ident ++ halves (2 ∷ 243 ∷ []) ++ words (1 ∷ entry ∷ 52 ∷ sections ∷ 0 ∷ [])
    ++ halves (52 ∷ 32 ∷ phnum ∷ 40 ∷ 3 ∷ 0 ∷ [])

-- type, offset, vaddr, paddr, filesz, memsz, flags, align
abbrev pub header_of : ℕ → Segment → List ℕ
header_of offset s =
    words (1 ∷ offset ∷ s.vaddr ∷ s.vaddr ∷ length s.bytes ∷ s.memsz ∷ 7 ∷ 1 ∷ [])

-- the headers of segments whose bytes start at an offset
unfoldable pub headers_of : ℕ → List Segment → List ℕ
headers_of offset [] = []
headers_of offset (s ∷ ss) = header_of offset s ++ headers_of (offset + length s.bytes) ss

-- name, value, size; info, other; shndx
abbrev pub entry_of : ℕ → Symbol → List ℕ
entry_of name s = words (name ∷ s.value ∷ 0 ∷ []) ++ 0x10 ∷ 0 ∷ half 0xFFF1

-- the entries of symbols whose names start at an offset of the string table
unfoldable pub entries_of : ℕ → List Symbol → List ℕ
entries_of name [] = []
entries_of name (s ∷ ss) = entry_of name s ++ entries_of (name + length s.name + 1) ss

-- an entry of zeros, and those of the symbols
abbrev pub entries : List Symbol → List ℕ
entries symbols = replicate 16 0 ++ entries_of 1 symbols

-- name, type, flags, addr, offset, size, link, info, addralign, entsize
abbrev pub symbols_section : FileLayout → List ℕ
symbols_section at =
    words (0 ∷ 2 ∷ 0 ∷ 0 ∷ at.symbols ∷ (at.strings - at.symbols) ∷ 2 ∷ 1 ∷ 4 ∷ 16 ∷ [])

abbrev pub strings_section : ℕ → ℕ → List ℕ
strings_section offset size =
    words (0 ∷ 3 ∷ 0 ∷ 0 ∷ offset ∷ size ∷ 0 ∷ 0 ∷ 1 ∷ 0 ∷ [])

-- ---- the whole

-- the file header, the program headers and the segments' bytes
abbrev pub program_part : Image → List ℕ
program_part image =
    let at = layout_of image in
    let bytes = segment_bytes image.segments in
    file_header image.entry at.sections (length image.segments)
    ++ headers_of at.bytes image.segments
    ++ bytes ++ padding (at.bytes + length bytes)

-- and behind them the symbol table, the string table and the section headers
unfoldable pub written : Image → List ℕ
written image =
    let at = layout_of image in
    let strings = string_table image.symbols in
    program_part image
    ++ entries image.symbols
    ++ strings ++ padding (at.strings + length strings)
    ++ replicate 40 0 ++ symbols_section at ++ strings_section at.strings (length strings)

-- some bytes, and none of them zero
pub record IsName (name : List ℕ) : Type 0 where
  pub some : 0 < length name
  pub zero_free : list_any is_zero name ≡ false

-- an image that a file can spell
pub record IsWritable (image : Image) : Type 0 where
  pub loadable : IsLoadable image
  pub taking : AllByRecursion (λ s. 0 < s.memsz) image.segments
  pub names : AllByRecursion (λ s. IsName s.name) image.symbols
  pub number : length image.segments < 2 ^ 16
  pub size : length (written image) < 2 ^ 32
