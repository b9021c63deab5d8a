-- The section headers and the entries of a symbol table one after the other.
use Rattle.std.specs.Prelude.{◌*◌, ◌/◌, map, find, if◌then◌else◌}
use Rattle.std.specs.List.{filter_map, cons_option}
use Rattle.std.specs.Option.{option_map}
use Rattle.sl_base.specs.declared.symbol.Symbol.{Symbol}
use Rattle.std.proofs.Common.{◌≡◌, ℕ, ◌+◌, ◌<◌, ◌≤◌, true, false, cond, List, [], ◌∷◌, ◌++◌, Option, Some, None, sym, ap, ◌∙◌, append_assoc}
use Rattle.std.proofs.lemmas.List.{append-nil}
use Rattle.elf_image.specs.declared.headers.SectionHeader.{SectionHeader}
use Rattle.elf_image.specs.declared.headers.SymbolEntry.{SymbolEntry}
use Rattle.elf_image.specs.Header.{e_shoff, e_shnum}
use Rattle.elf_image.specs.Symbols.{section, section_header, section_headers, is_symbol_table, symbol_entry, symbol_of, entry_symbols, is_kept, name_at}
use Rattle.elf_image.proofs.Offsets.{offsets_from, offsets_from-more, offsets_from-none, offsets_from-all}

-- ---- the first symbol table

abbrev pub sections_from : List ℕ → ℕ → List SectionHeader
sections_from file i = map (section_header file) (offsets_from (e_shoff file) 40 (e_shnum file) i)

-- none of the sections before the i-th is a symbol table
abbrev pub IsSearched : List ℕ → ℕ → Type 0
IsSearched file i = find is_symbol_table (sections_from file i) ≡ find is_symbol_table (section_headers file)

pub none_searched : (file : List ℕ) → IsSearched file 0
none_searched file = ap (λ places. find is_symbol_table (map (section_header file) places)) (offsets_from-all (e_shoff file) 40 (e_shnum file))

find-more : (file : List ℕ) (i : ℕ) → i < e_shnum file → find is_symbol_table (sections_from file i) ≡ cond (is_symbol_table (section file i)) (Some (section file i)) (find is_symbol_table (sections_from file (i + 1)))
find-more file i more = ap (λ places. find is_symbol_table (map (section_header file) places)) (offsets_from-more (e_shoff file) 40 (e_shnum file) i more)

pub one_searched : (file : List ℕ) (i : ℕ) → i < e_shnum file → is_symbol_table (section file i) ≡ false → IsSearched file i → IsSearched file (i + 1)
one_searched file i more other is = sym (find-more file i more ∙ ap (λ b. cond b (Some (section file i)) (find is_symbol_table (sections_from file (i + 1)))) other) ∙ is

pub table_found : (file : List ℕ) (i : ℕ) → i < e_shnum file → is_symbol_table (section file i) ≡ true → IsSearched file i → Some (section file i) ≡ find is_symbol_table (section_headers file)
table_found file i more table is = sym (find-more file i more ∙ ap (λ b. cond b (Some (section file i)) (find is_symbol_table (sections_from file (i + 1)))) table) ∙ is

pub no_table : (file : List ℕ) (i : ℕ) → e_shnum file ≤ i → IsSearched file i → None ≡ find is_symbol_table (section_headers file)
no_table file i end is = sym (ap (λ places. find is_symbol_table (map (section_header file) places)) (offsets_from-none (e_shoff file) 40 (e_shnum file) i end)) ∙ is

-- ---- the symbols

abbrev entry_symbol : List ℕ → List ℕ → ℕ → Option Symbol
entry_symbol file strings place = symbol_of strings (symbol_entry file place)

-- the symbols of the entries before the i-th
pub record AreKept (file : List ℕ) (table : SectionHeader) (strings : List ℕ) (kept : List Symbol) (i : ℕ) : Type 0 where
  pub all : kept ++ filter_map (entry_symbol file strings) (offsets_from table.sh_offset 16 (table.sh_size / 16) i) ≡ entry_symbols file table strings

pub none_kept : (file : List ℕ) (table : SectionHeader) (strings : List ℕ) → AreKept file table strings [] 0
unfolding entry_symbols
none_kept file table strings = record { all = ap (filter_map (entry_symbol file strings)) (offsets_from-all table.sh_offset 16 (table.sh_size / 16)) }

-- strings with the same names give the same symbols
pub symbol_of_same : (names strings : List ℕ) (entry : SymbolEntry) → ((offset : ℕ) → name_at names offset ≡ name_at strings offset) → symbol_of names entry ≡ symbol_of strings entry
symbol_of_same names strings entry same =
    ap (λ name. if is_kept entry then option_map (λ (bytes : List ℕ). record { name = bytes; value = entry.st_value }) name else None) (same entry.st_name)

module _ (file : List ℕ) (table : SectionHeader) (strings : List ℕ) (kept : List Symbol) (i : ℕ) (are : AreKept file table strings kept i) where
  more : i < table.sh_size / 16 → kept ++ cons_option (entry_symbol file strings (table.sh_offset + 16 * i)) (filter_map (entry_symbol file strings) (offsets_from table.sh_offset 16 (table.sh_size / 16) (i + 1))) ≡ entry_symbols file table strings
  more lt = sym (ap (λ places. kept ++ filter_map (entry_symbol file strings) places) (offsets_from-more table.sh_offset 16 (table.sh_size / 16) i lt)) ∙ are.all

  pub one_kept : (symbol : Symbol) → i < table.sh_size / 16 → entry_symbol file strings (table.sh_offset + 16 * i) ≡ Some symbol → AreKept file table strings (kept ++ symbol ∷ []) (i + 1)
  one_kept symbol lt is = record {
    all = append_assoc kept (symbol ∷ []) _ ∙ sym (ap (λ o. kept ++ cons_option o (filter_map (entry_symbol file strings) (offsets_from table.sh_offset 16 (table.sh_size / 16) (i + 1)))) is) ∙ more lt;
  }

  pub one_dropped : i < table.sh_size / 16 → entry_symbol file strings (table.sh_offset + 16 * i) ≡ None → AreKept file table strings kept (i + 1)
  one_dropped lt is = record {
    all = sym (ap (λ o. kept ++ cons_option o (filter_map (entry_symbol file strings) (offsets_from table.sh_offset 16 (table.sh_size / 16) (i + 1)))) is) ∙ more lt;
  }

  pub all_kept : table.sh_size / 16 ≤ i → kept ≡ entry_symbols file table strings
  all_kept end = sym (append-nil kept) ∙ sym (ap (λ places. kept ++ filter_map (entry_symbol file strings) places) (offsets_from-none table.sh_offset 16 (table.sh_size / 16) i end)) ∙ are.all
