-- The symbols of an ELF32 file, and the checks of their tables (System V ABI, Sections, String
-- Table, Symbol Table).
use Rattle.std.specs.Prelude.{ℕ, ◌+◌, ◌*◌, ◌/◌, ◌%◌, ◌==◌, ◌&&◌, ◌||◌, not, Bool, List, [], ◌∷◌, ◌++◌, length, map, find, drop, Option, None, Some, nat_lt, nat_le, slice_range, if◌then◌else◌}
use Rattle.std.specs.List.{filter_map, list_any, before_first}
use Rattle.std.specs.Option.{option_map}
use Rattle.sl_base.specs.declared.symbol.Symbol.{Symbol}
use Rattle.elf_image.specs.declared.check.Check.{Check}
use Rattle.elf_image.specs.declared.headers.SectionHeader.{SectionHeader}
use Rattle.elf_image.specs.declared.headers.SymbolEntry.{SymbolEntry}
use Rattle.elf_image.specs.declared.fault.ImageCause.TheVariants.{SymbolTable}
use Rattle.elf_image.specs.Checks.{check}
use Rattle.elf_image.specs.Header.{byte_at, half_at, word_at, e_shoff, e_shentsize, e_shnum}
use Rattle.elf_image.specs.Segments.{offsets}

-- ---- sections

-- the section header that stands at an offset
unfoldable pub section_header : List ℕ → ℕ → SectionHeader
section_header file place =
    record {
      place = place;
      sh_type = word_at file (place + 4);
      sh_offset = word_at file (place + 16);
      sh_size = word_at file (place + 20);
      sh_link = word_at file (place + 24);
      sh_entsize = word_at file (place + 36);
    }

abbrev pub has_sections : List ℕ → Bool
has_sections file = not (e_shoff file == 0 || e_shnum file == 0)

-- the section with an index
abbrev pub section : List ℕ → ℕ → SectionHeader
section file index = section_header file (e_shoff file + 40 * index)

abbrev pub section_headers : List ℕ → List SectionHeader
section_headers file = map (section_header file) (offsets (e_shoff file) 40 (e_shnum file))

abbrev pub lies_in_file : List ℕ → SectionHeader → Bool
lies_in_file file s = nat_le (s.sh_offset + s.sh_size) (length file)

abbrev pub section_bytes : List ℕ → SectionHeader → List ℕ
section_bytes file s = slice_range file s.sh_offset (s.sh_offset + s.sh_size)

-- SHT_SYMTAB
abbrev pub is_symbol_table : SectionHeader → Bool
is_symbol_table s = s.sh_type == 2

-- the first symbol table, if there is one
abbrev pub symbol_table : List ℕ → Option SectionHeader
symbol_table file =
    if has_sections file then find is_symbol_table (section_headers file) else None

-- ---- the checks

-- a table of whole entries of 16 bytes, which lies in the file, with a string table that does so
-- too
abbrev pub table_checks : List ℕ → Option SectionHeader → List Check
table_checks file None = []
table_checks file (Some s) =
    let strings = section file s.sh_link in
    check (s.sh_entsize == 16) (s.place + 36) SymbolTable
    ∷ check (s.sh_size % 16 == 0) (s.place + 20) SymbolTable
    ∷ check (lies_in_file file s) (s.place + 16) SymbolTable
    ∷ check (nat_lt s.sh_link (e_shnum file)) (s.place + 24) SymbolTable
    ∷ check (lies_in_file file strings) (strings.place + 16) SymbolTable
    ∷ []

-- the section headers take 40 bytes each and lie in the file
abbrev pub sections_checks : List ℕ → List Check
sections_checks file =
    check (e_shentsize file == 40) 46 SymbolTable
    ∷ check (nat_le (e_shoff file + 40 * e_shnum file) (length file)) 32 SymbolTable
    ∷ []

abbrev pub symbol_checks : List ℕ → List Check
symbol_checks file =
    if has_sections file
    then sections_checks file ++ table_checks file (symbol_table file)
    else []

-- ---- the symbols

-- the entry of a symbol table that stands at an offset
unfoldable pub symbol_entry : List ℕ → ℕ → SymbolEntry
symbol_entry file place =
    record {
      st_name = word_at file place;
      st_value = word_at file (place + 4);
      st_info = byte_at file (place + 12);
      st_shndx = half_at file (place + 14);
    }

-- STT_NOTYPE, STT_OBJECT or STT_FUNC, and not SHN_UNDEF
abbrev pub is_kept : SymbolEntry → Bool
is_kept entry = nat_le (entry.st_info % 16) 2 && not (entry.st_shndx == 0)

abbrev pub is_zero : ℕ → Bool
is_zero b = b == 0

-- the bytes from an offset of a string table up to the first zero byte, where there is one and some
-- stand before it
unfoldable pub name_at : List ℕ → ℕ → Option (List ℕ)
name_at strings offset =
    let rest = drop offset strings in
    let name = before_first is_zero rest in
    if list_any is_zero rest && nat_lt 0 (length name) then Some name else None

-- the symbol that an entry names, with this string table
abbrev pub symbol_of : List ℕ → SymbolEntry → Option Symbol
symbol_of strings entry =
    if is_kept entry
    then
    option_map (λ name. record { name = name; value = entry.st_value })
    (name_at strings entry.st_name)
    else None

-- the symbols of a table with these strings, in its order
unfoldable pub entry_symbols : List ℕ → SectionHeader → List ℕ → List Symbol
entry_symbols file table strings =
    filter_map (λ place. symbol_of strings (symbol_entry file place))
    (offsets table.sh_offset 16 (table.sh_size / 16))

abbrev pub table_symbols : List ℕ → Option SectionHeader → List Symbol
table_symbols file None = []
table_symbols file (Some s) = entry_symbols file s (section_bytes file (section file s.sh_link))

abbrev pub symbols : List ℕ → List Symbol
symbols file = table_symbols file (symbol_table file)
