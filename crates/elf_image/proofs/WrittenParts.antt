-- Where the parts of a written file stand.
use Rattle.std.specs.Prelude.{replicate}
use Rattle.std.proofs.Common.{◌≡◌, ℕ, ◌+◌, List, [], ◌∷◌, ◌++◌, length, ap, ◌∙◌, arith, length-append}
use Rattle.elf_image.specs.declared.image.Image.{Image}
use Rattle.elf_image.specs.Written.{segment_bytes, string_table, padding, layout_of, file_header, headers_of, entries, symbols_section, strings_section, written}
use Rattle.elf_image.proofs.WrittenLengths.{to_headers, to_bytes, to_symbols, to_strings, to_names, to_sections, length-file_header, length-to_headers, length-to_symbols, length-to_strings, length-to_sections, length-words}
use Rattle.elf_image.proofs.Stands.{Stands, moved, first, second}

pub record Parts (image : Image) (file : List ℕ) : Type 0 where
  pub header : Stands file 0 (file_header image.entry (layout_of image).sections (length image.segments))
  pub headers : Stands file 52 (headers_of (layout_of image).bytes image.segments)
  pub bytes : Stands file (layout_of image).bytes (segment_bytes image.segments)
  pub entries : Stands file (layout_of image).symbols (entries image.symbols)
  pub strings : Stands file (layout_of image).strings (string_table image.symbols)
  pub none : Stands file (layout_of image).sections (replicate 40 0)
  pub table : Stands file ((layout_of image).sections + 40) (symbols_section (layout_of image))
  pub table_strings : Stands file ((layout_of image).sections + 80) (strings_section (layout_of image).strings (length (string_table image.symbols)))

module _ (image : Image) (file : List ℕ) where
  -- a part behind others, whose length is known
  behind : (before part : List ℕ) (at : ℕ) → length before ≡ at → Stands file 0 (before ++ part) → Stands file at part
  behind before part at size stands =
      let sum : 0 + length before ≡ at = omega (arith, size) in
      moved file (0 + length before) at part sum (second file 0 before part stands)

  twice : (n : ℕ) → n + 40 + 40 ≡ n + 80
  twice n = omega arith

  pub parts_of : Stands file 0 (written image) → Parts image file
  unfolding written
  parts_of all =
      let at = layout_of image in
      let none = replicate 40 0 in
      let table = symbols_section at in
      let table_strings = strings_section at.strings (length (string_table image.symbols)) in
      let to_table = first file 0 (to_sections image ++ none ++ table) table_strings all in
      let to_none = first file 0 (to_sections image ++ none) table to_table in
      let sections = first file 0 (to_sections image) none to_none in
      let names = first file 0 (to_names image) (padding (at.strings + length (string_table image.symbols))) sections in
      let strings = first file 0 (to_strings image) (string_table image.symbols) names in
      let symbols = first file 0 (to_symbols image) (entries image.symbols) strings in
      let bytes = first file 0 (to_bytes image) (padding (at.bytes + length (segment_bytes image.segments))) symbols in
      let headers = first file 0 (to_headers image) (segment_bytes image.segments) bytes in
      let none_size : length (to_sections image ++ none) ≡ at.sections + 40 = length-append (to_sections image) none ∙ ap (λ n. n + 40) (length-to_sections image) in
      let table_size : length (to_sections image ++ none ++ table) ≡ at.sections + 80 =
      length-append (to_sections image ++ none) table ∙ ap (λ n. n + length table) none_size
      ∙ ap (λ n. at.sections + 40 + n) (length-words (0 ∷ 2 ∷ 0 ∷ 0 ∷ at.symbols ∷ _ ∷ 2 ∷ 1 ∷ 4 ∷ 16 ∷ [])) ∙ twice at.sections in
      record {
        header = first file 0 (file_header image.entry at.sections (length image.segments)) (headers_of at.bytes image.segments) headers;
        headers = behind (file_header image.entry at.sections (length image.segments)) (headers_of at.bytes image.segments) 52 (length-file_header image.entry at.sections (length image.segments)) headers;
        bytes = behind (to_headers image) (segment_bytes image.segments) at.bytes (length-to_headers image) bytes;
        entries = behind (to_symbols image) (entries image.symbols) at.symbols (length-to_symbols image) strings;
        strings = behind (to_strings image) (string_table image.symbols) at.strings (length-to_strings image) names;
        none = behind (to_sections image) none at.sections (length-to_sections image) to_none;
        table = behind (to_sections image ++ none) table (at.sections + 40) none_size to_table;
        table_strings = behind (to_sections image ++ none ++ table) table_strings (at.sections + 80) table_size all;
      }
