-- How long the parts of a written file are.
use Rattle.std.specs.Prelude.{◌*◌, ◌-◌, replicate}
use Rattle.std.proofs.Common.{◌≡◌, ℕ, ◌+◌, List, [], ◌∷◌, ◌++◌, length, refl, ap, ◌∙◌, arith, length-append}
use Rattle.std.proofs.lemmas.List.{length-replicate}
use Rattle.sl_base.specs.declared.symbol.Symbol.{Symbol}
use Rattle.elf_image.specs.declared.image.Image.{Image}
use Rattle.elf_image.specs.declared.image.Segment.{Segment}
use Rattle.elf_image.specs.Written.{half, word, halves, words, aligned, padding, segment_bytes, string_table, layout_of, file_header, header_of, headers_of, entry_of, entries_of, entries, symbols_section, strings_section, written}

pub length-half : (n : ℕ) → length (half n) ≡ 2
unfolding half
length-half n = refl

pub length-word : (n : ℕ) → length (word n) ≡ 4
unfolding word
length-word n = refl

pub length-words : (ns : List ℕ) → length (words ns) ≡ 4 * length ns
length-words [] = refl
length-words (n ∷ ns) = length-append (word n) (words ns) ∙ grind (arith, length-word n, length-words ns)

pub length-halves : (ns : List ℕ) → length (halves ns) ≡ 2 * length ns
length-halves [] = refl
length-halves (n ∷ ns) = length-append (half n) (halves ns) ∙ grind (arith, length-half n, length-halves ns)

pub length-padding : (offset : ℕ) → length (padding offset) ≡ aligned offset - offset
unfolding padding
length-padding offset = length-replicate (aligned offset - offset) 0

pub length-file_header : (entry sections phnum : ℕ) → length (file_header entry sections phnum) ≡ 52
unfolding file_header half word
length-file_header entry sections phnum = refl

pub length-headers_of : (offset : ℕ) (segments : List Segment) → length (headers_of offset segments) ≡ 32 * length segments
unfolding headers_of
length-headers_of offset [] = refl
length-headers_of offset (s ∷ ss) =
    length-append (header_of offset s) (headers_of (offset + length s.bytes) ss)
    ∙ grind (arith, length-words (1 ∷ offset ∷ s.vaddr ∷ s.vaddr ∷ length s.bytes ∷ s.memsz ∷ 7 ∷ 1 ∷ []), length-headers_of (offset + length s.bytes) ss)

pub length-entry_of : (name : ℕ) (s : Symbol) → length (entry_of name s) ≡ 16
unfolding half word
length-entry_of name s = refl

pub length-entries_of : (name : ℕ) (symbols : List Symbol) → length (entries_of name symbols) ≡ 16 * length symbols
unfolding entries_of
length-entries_of name [] = refl
length-entries_of name (s ∷ ss) =
    length-append (entry_of name s) (entries_of (name + length s.name + 1) ss)
    ∙ grind (arith, length-entry_of name s, length-entries_of (name + length s.name + 1) ss)

pub length-entries : (symbols : List Symbol) → length (entries symbols) ≡ 16 * (length symbols + 1)
length-entries symbols = length-append (replicate 16 0) (entries_of 1 symbols) ∙ grind (arith, length-entries_of 1 symbols)

-- ---- the parts one after the other

abbrev pub to_headers : Image → List ℕ
to_headers image = file_header image.entry (layout_of image).sections (length image.segments) ++ headers_of (layout_of image).bytes image.segments

abbrev pub to_bytes : Image → List ℕ
to_bytes image = to_headers image ++ segment_bytes image.segments

abbrev pub to_symbols : Image → List ℕ
to_symbols image = to_bytes image ++ padding ((layout_of image).bytes + length (segment_bytes image.segments))

abbrev pub to_strings : Image → List ℕ
to_strings image = to_symbols image ++ entries image.symbols

abbrev pub to_names : Image → List ℕ
to_names image = to_strings image ++ string_table image.symbols

abbrev pub to_sections : Image → List ℕ
to_sections image = to_names image ++ padding ((layout_of image).strings + length (string_table image.symbols))

module _ (image : Image) where
  abbrev at_bytes : ℕ
  at_bytes = (layout_of image).bytes

  pub length-to_headers : length (to_headers image) ≡ (layout_of image).bytes
  length-to_headers =
      length-append (file_header image.entry (layout_of image).sections (length image.segments)) (headers_of (layout_of image).bytes image.segments)
      ∙ grind (arith, length-file_header image.entry (layout_of image).sections (length image.segments), length-headers_of (layout_of image).bytes image.segments)

  pub length-to_bytes : length (to_bytes image) ≡ (layout_of image).bytes + length (segment_bytes image.segments)
  length-to_bytes = length-append (to_headers image) (segment_bytes image.segments) ∙ ap (λ n. n + length (segment_bytes image.segments)) length-to_headers

  aligned_up : (n : ℕ) → n + (aligned n - n) ≡ aligned n
  aligned_up n = omega arith

  pub length-to_symbols : length (to_symbols image) ≡ (layout_of image).symbols
  length-to_symbols =
      let end = (layout_of image).bytes + length (segment_bytes image.segments) in
      length-append (to_bytes image) (padding end)
      ∙ ap (λ n. n + length (padding end)) length-to_bytes
      ∙ ap (λ n. end + n) (length-padding end)
      ∙ aligned_up end

  pub length-to_strings : length (to_strings image) ≡ (layout_of image).strings
  length-to_strings =
      length-append (to_symbols image) (entries image.symbols)
      ∙ ap (λ n. n + length (entries image.symbols)) length-to_symbols
      ∙ ap (λ n. (layout_of image).symbols + n) (length-entries image.symbols)

  pub length-to_names : length (to_names image) ≡ (layout_of image).strings + length (string_table image.symbols)
  length-to_names = length-append (to_strings image) (string_table image.symbols) ∙ ap (λ n. n + length (string_table image.symbols)) length-to_strings

  pub length-to_sections : length (to_sections image) ≡ (layout_of image).sections
  length-to_sections =
      let end = (layout_of image).strings + length (string_table image.symbols) in
      length-append (to_names image) (padding end)
      ∙ ap (λ n. n + length (padding end)) length-to_names
      ∙ ap (λ n. end + n) (length-padding end)
      ∙ aligned_up end

  three_times : (n : ℕ) → n + 40 + 40 + 40 ≡ n + 120
  three_times n = omega arith

  pub length-written : length (written image) ≡ (layout_of image).sections + 120
  unfolding written word
  length-written =
      let at = layout_of image in
      let one = replicate 40 0 in
      let two = symbols_section at in
      let three = strings_section at.strings (length (string_table image.symbols)) in
      length-append (to_sections image ++ one ++ two) three
      ∙ ap (λ n. n + 40) (length-append (to_sections image ++ one) two ∙ ap (λ n. n + 40) (length-append (to_sections image) one ∙ ap (λ n. n + 40) length-to_sections))
      ∙ three_times at.sections
