-- A written file is read as the image that it was written from.
use Rattle.std.specs.Prelude.{◌*◌, ◌/◌, ◌%◌, ◌-◌, ◌^◌, nat_lt, ◌==◌, map, find, replicate, zero, suc, if◌then◌else◌}
use Rattle.std.specs.List.{All, AllByRecursion, list_any, filter_map, cons_option}
use Rattle.std.proofs.Common.{◌≡◌, ℕ, ◌+◌, ◌<◌, ◌≤◌, Bool, true, false, cond, List, [], ◌∷◌, ◌++◌, length, Option, Some, None, refl, sym, ap, subst, ◌∙◌, arith, eq-eqb, le-leb, lt-ltb, true≢false, ⊎_elim}
use Rattle.std.proofs.lemmas.Bool.{eqb-true, cases_Bool}
use Rattle.sl_base.specs.declared.symbol.Symbol.{Symbol}
use Rattle.elf_image.specs.declared.check.Check.{Check}
use Rattle.elf_image.specs.declared.headers.ProgramHeader.{ProgramHeader}
use Rattle.elf_image.specs.declared.headers.SectionHeader.{SectionHeader}
use Rattle.elf_image.specs.declared.image.Image.{Image}
use Rattle.elf_image.specs.declared.image.Segment.{Segment}
use Rattle.elf_image.specs.Checks.{AllPass}
use Rattle.elf_image.specs.Header.{e_phnum, e_shoff, e_shnum, e_shentsize, header_checks}
use Rattle.elf_image.specs.Segments.{offsets, program_header, program_headers, segments, each_header_checks, segment_checks}
use Rattle.elf_image.specs.Symbols.{section_header, section_headers, section, has_sections, lies_in_file, section_bytes, is_symbol_table, symbol_table, sections_checks, table_checks, symbol_checks, entry_symbols, table_symbols, symbols, symbol_of, symbol_entry}
use Rattle.elf_image.specs.Loadable.{takes_memory}
use Rattle.elf_image.specs.Elf.{checks, IsImage}
use Rattle.elf_image.specs.Written.{layout_of, string_table, entries_of, written, IsWritable}
use Rattle.elf_image.proofs.CheckLaws.{AllPass-both}
use Rattle.elf_image.proofs.HeaderLoop.{loads}
use Rattle.elf_image.proofs.Stands.{whole, first, second, ends, range_is}
use Rattle.elf_image.proofs.WrittenLengths.{length-written}
use Rattle.elf_image.proofs.WrittenParts.{Parts, parts_of}
use Rattle.elf_image.proofs.WrittenHeader.{Fields, fields_of, header_passes}
use Rattle.elf_image.proofs.WrittenSegments.{AreSpelled, each_passes, loads_are}
use Rattle.elf_image.proofs.WrittenSymbols.{section_is, none_is, each_symbol, first_dropped}

pub sections_fit : (image : Image) → IsWritable image → (layout_of image).sections + 120 < 2 ^ 32
sections_fit image is = subst (λ (n : ℕ). n < 2 ^ 32) (length-written image) is.size

pub all_of : {X : Type 0} (P : X → Type 0) (xs : List X) → AllByRecursion P xs → All P xs
all_of P [] each k d within = absurd (omega arith)
all_of P (x ∷ xs) each zero d within = each.0
all_of P (x ∷ xs) each (suc k) d within = all_of P xs each.1 k d (omega arith)

some_segment : (segments : List Segment) → list_any takes_memory segments ≡ true → 0 < length segments
some_segment [] some = absurd (true≢false (sym some))
some_segment (s ∷ ss) some = omega arith

not_zero : (n : ℕ) → 0 < n → (n == 0) ≡ false
not_zero n some = ⊎_elim
    (λ (is : (n == 0) ≡ true).
    let zero_is : n ≡ 0 = eqb-true n 0 is in
    absurd (omega arith))
    (λ (is : (n == 0) ≡ false). is)
    (cases_Bool (n == 0))

passes_where : (b : Bool) (xs : List Check) → b ≡ true → AllPass xs → AllPass (if b then xs else [])
passes_where true xs is all = all
passes_where false xs is all = absurd cc

module _ (image : Image) (is : IsWritable image) (file : List ℕ) (total : length file ≡ (layout_of image).sections + 120) (parts : Parts image file) where
  abbrev sections : ℕ
  sections = (layout_of image).sections

  abbrev symbols_at : ℕ
  symbols_at = (layout_of image).symbols

  abbrev strings_at : ℕ
  strings_at = (layout_of image).strings

  size : length file < 2 ^ 32
  size = omega (arith, total, sections_fit image is)

  fields : Fields file image.entry (layout_of image).sections (length image.segments)
  fields = fields_of file image.entry (layout_of image).sections (length image.segments) is.loadable.entry (omega (arith, sections_fit image is)) is.number parts.header

  -- ---- header and segments

  spelled : AreSpelled image.segments
  spelled = record {
    taking = all_of (λ s. 0 < s.memsz) image.segments is.taking;
    placed = all_of _ image.segments is.loadable.placed;
    apart = is.loadable.apart;
    few = is.loadable.few;
  }

  headers_are : program_headers file ≡ map (program_header file) (offsets 52 32 (length image.segments))
  headers_are =
      ap (λ n. map (program_header file) (offsets n 32 (e_phnum file))) fields.e_phoff
      ∙ ap (λ n. map (program_header file) (offsets 52 32 n)) fields.e_phnum

  segments_are : segments file ≡ image.segments
  segments_are = ap (loads file) headers_are ∙ loads_are file image.segments 52 (layout_of image).bytes size spelled.taking spelled.placed parts.headers parts.bytes

  segments_pass : AllPass (segment_checks file)
  segments_pass =
      let each = subst (λ (headers : List ProgramHeader). AllPass (each_header_checks file [] headers)) (sym headers_are) (each_passes file [] image.segments 52 (layout_of image).bytes size spelled parts.headers parts.bytes) in
      let some : nat_lt 0 (length (segments file)) ≡ true = rw segments_are (lt-ltb 0 (length image.segments) (some_segment image.segments is.loadable.some)) in
      AllPass-both (each_header_checks file [] (program_headers file)) _ each (some, tt)

  header_pass : AllPass (header_checks file)
  header_pass = header_passes file image.entry (layout_of image).sections (length image.segments) fields (omega (arith, total)) (omega (arith, total))

  -- ---- the tables

  abbrev table : SectionHeader
  table = record { place = sections + 40; sh_type = 2; sh_offset = symbols_at; sh_size = strings_at - symbols_at; sh_link = 2; sh_entsize = 16 }

  abbrev strings_header : SectionHeader
  strings_header = record { place = sections + 80; sh_type = 3; sh_offset = strings_at; sh_size = length (string_table image.symbols); sh_link = 0; sh_entsize = 0 }

  table_is : section_header file (sections + 40) ≡ table
  table_is = section_is file (sections + 40) 2 symbols_at (strings_at - symbols_at) 2 1 4 16 (omega arith) (omega (arith, sections_fit image is)) (omega (arith, sections_fit image is)) (omega arith) (omega arith) parts.table

  strings_is : section_header file (sections + 80) ≡ strings_header
  strings_is = section_is file (sections + 80) 3 strings_at (length (string_table image.symbols)) 0 0 1 0 (omega arith) (omega (arith, sections_fit image is)) (omega (arith, sections_fit image is)) (omega arith) (omega arith) parts.table_strings

  linked_is : section file 2 ≡ strings_header
  linked_is = ap (λ n. section_header file (n + 80)) fields.e_shoff ∙ strings_is

  has : has_sections file ≡ true
  has = rw (fields.e_shoff, fields.e_shnum, above_zero) refl
    where
      above_zero : (sections == 0) ≡ false
      above_zero = not_zero sections (omega arith)

  found : find is_symbol_table (section_headers file) ≡ Some table
  found =
      let second_place : sections + 40 ≡ sections + 40 = refl in
      ap (λ n. find is_symbol_table (map (section_header file) (offsets n 40 (e_shnum file)))) fields.e_shoff
      ∙ ap (λ n. find is_symbol_table (map (section_header file) (offsets sections 40 n))) fields.e_shnum
      ∙ ap (λ n. cond (n == 2) (Some (section_header file sections)) (find is_symbol_table (map (section_header file) (offsets (sections + 40) 40 2)))) (none_is file sections parts.none)
      ∙ ap (λ (s : SectionHeader). cond (is_symbol_table s) (Some s) (find is_symbol_table (map (section_header file) (offsets (sections + 40 + 40) 40 1)))) table_is

  table_found : symbol_table file ≡ Some table
  table_found = ap (λ b. if b then find is_symbol_table (section_headers file) else None) has ∙ found

  table_passes : AllPass (table_checks file (Some table))
  table_passes =
      let shnum : nat_lt 2 (e_shnum file) ≡ true = ap (λ n. nat_lt 2 n) fields.e_shnum in
      let strings_lie : lies_in_file file (section file 2) ≡ true = rw linked_is (le-leb (strings_at + length (string_table image.symbols)) (length file) (omega (arith, total))) in (
        refl,
        (
          eq-eqb ((strings_at - symbols_at) % 16) 0 (omega arith),
          (
            le-leb (symbols_at + (strings_at - symbols_at)) (length file) (omega (arith, total)),
            (shnum, (strings_lie, tt)),
          ),
        ),
      )

  symbols_pass : AllPass (symbol_checks file)
  symbols_pass =
      let entsize = eq-eqb (e_shentsize file) 40 fields.e_shentsize in
      let end : e_shoff file + 40 * e_shnum file ≤ length file = rw (fields.e_shoff, fields.e_shnum) (omega (arith, total)) in
      let lies = le-leb (e_shoff file + 40 * e_shnum file) (length file) end in
      let tables = subst (λ (o : Option SectionHeader). AllPass (table_checks file o)) (sym table_found) table_passes in
      passes_where (has_sections file) (sections_checks file ++ table_checks file (symbol_table file)) has (AllPass-both (sections_checks file) (table_checks file (symbol_table file)) (entsize, (lies, tt)) tables)

  kept : entry_symbols file table (string_table image.symbols) ≡ image.symbols
  unfolding entry_symbols
  kept =
      let strings = string_table image.symbols in
      let none_stands = first file symbols_at (replicate 16 0) (entries_of 1 image.symbols) parts.entries in
      let rest_stands = second file symbols_at (replicate 16 0) (entries_of 1 image.symbols) parts.entries in
      let count : (strings_at - symbols_at) / 16 ≡ suc (length image.symbols) = omega arith in
      ap (λ n. filter_map (λ place. symbol_of strings (symbol_entry file place)) (offsets symbols_at 16 n)) count
      ∙ ap (λ (o : Option Symbol). cons_option o (filter_map (λ place. symbol_of strings (symbol_entry file place)) (offsets (symbols_at + 16) 16 (length image.symbols)))) (first_dropped file strings symbols_at none_stands)
      ∙ each_symbol file strings (0 ∷ []) image.symbols (symbols_at + 16) refl (omega (arith, total, size, ends file strings_at strings parts.strings)) is.loadable.named is.names rest_stands

  symbols_are : symbols file ≡ image.symbols
  symbols_are =
      ap (λ (o : Option SectionHeader). table_symbols file o) table_found
      ∙ ap (λ (s : SectionHeader). entry_symbols file table (section_bytes file s)) linked_is
      ∙ ap (λ (strings : List ℕ). entry_symbols file table strings) (range_is file strings_at (string_table image.symbols) parts.strings)
      ∙ kept

pub IsImage-written : (image : Image) → IsWritable image → IsImage (written image) image
unfolding checks
IsImage-written image is =
    let file = written image in
    let total = length-written image in
    let parts = parts_of image file (whole file) in
    let fields = fields_of file image.entry (layout_of image).sections (length image.segments) is.loadable.entry (omega (arith, sections_fit image is)) is.number parts.header in
    record {
      checked = AllPass-both (header_checks file ++ segment_checks file) (symbol_checks file)
          (AllPass-both (header_checks file) (segment_checks file) (header_pass image is file total parts) (segments_pass image is file total parts))
          (symbols_pass image is file total parts);
      entry = sym fields.e_entry;
      segments = sym (segments_are image is file total parts);
      symbols = sym (symbols_are image is file total parts);
    }
