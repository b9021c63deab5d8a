-- The tables of a written file pass their checks, and name its symbols.
use Rattle.std.specs.Prelude.{◌*◌, ◌%◌, ◌^◌, nat_le, ◌==◌, ◌||◌, not, replicate, suc}
use Rattle.std.specs.List.{AllByRecursion, list_any, filter_map, cons_option, position_or_len}
use Rattle.std.specs.Option.{option_map}
use Rattle.std.proofs.Common.{◌≡◌, ℕ, ◌+◌, ◌<◌, Bool, true, false, cond, List, [], ◌∷◌, ◌++◌, length, take, Option, Some, None, refl, sym, ap, subst, ◌∙◌, arith, lt-ltb, append_assoc, length-append}
use Rattle.std.proofs.lemmas.Bool.{or_right, and_right}
use Rattle.std.proofs.lemmas.List.Folds.{list_any-append}
use Rattle.std.proofs.Math.Seq.{drop-append_seam, take-append_seam}
use Rattle.sl_base.specs.declared.symbol.Symbol.{Symbol}
use Rattle.elf_image.specs.declared.headers.SymbolEntry.{SymbolEntry}
use Rattle.elf_image.specs.Header.{byte_at, half_at, word_at}
use Rattle.elf_image.specs.Segments.{offsets}
use Rattle.elf_image.specs.Symbols.{section_header, symbol_entry, symbol_of, is_kept, name_at, is_zero}
use Rattle.elf_image.specs.Loadable.{IsNamed}
use Rattle.elf_image.specs.Written.{half, word, words, names, entry_of, entries_of, IsName}
use Rattle.elf_image.proofs.WrittenLengths.{length-words, length-entry_of}
use Rattle.elf_image.proofs.Stands.{Stands, moved, first, second, half_is, byte_is, nth_word}

-- ---- section headers

-- the header of ten numbers
abbrev header_numbers : ℕ → ℕ → ℕ → ℕ → ℕ → ℕ → ℕ → List ℕ
header_numbers kind offset size link info align entsize = 0 ∷ kind ∷ 0 ∷ 0 ∷ offset ∷ size ∷ link ∷ info ∷ align ∷ entsize ∷ []

pub section_is : (file : List ℕ) (place kind offset size link info align entsize : ℕ) → kind < 2 ^ 32 → offset < 2 ^ 32 → size < 2 ^ 32 → link < 2 ^ 32 → entsize < 2 ^ 32
    → Stands file place (words (header_numbers kind offset size link info align entsize))
    → section_header file place ≡ record { place = place; sh_type = kind; sh_offset = offset; sh_size = size; sh_link = link; sh_entsize = entsize }
unfolding section_header
section_is file place kind offset size link info align entsize kind_fits offset_fits size_fits link_fits entsize_fits stands =
    let numbers = header_numbers kind offset size link info align entsize in
    let sh_type = nth_word file place numbers 1 (omega arith) kind_fits stands in
    let sh_offset = nth_word file place numbers 4 (omega arith) offset_fits stands in
    let sh_size = nth_word file place numbers 5 (omega arith) size_fits stands in
    let sh_link = nth_word file place numbers 6 (omega arith) link_fits stands in
    let sh_entsize = nth_word file place numbers 9 (omega arith) entsize_fits stands in
    λ i. record { place = place; sh_type = sh_type i; sh_offset = sh_offset i; sh_size = sh_size i; sh_link = sh_link i; sh_entsize = sh_entsize i }

-- forty zero bytes are no symbol table
pub none_is : (file : List ℕ) (place : ℕ) → Stands file place (replicate 40 0) → (section_header file place).sh_type ≡ 0
unfolding section_header word
none_is file place stands =
    let number : Stands file (place + 4) (words (0 ∷ [])) = first file (place + 4) (words (0 ∷ [])) (replicate 32 0) (second file place (replicate 4 0) (replicate 36 0) stands) in
    let at : place + 4 ≡ place + 4 + 4 * 0 = omega arith in
    ap (λ o. word_at file o) at ∙ nth_word file (place + 4) (0 ∷ []) 0 (omega arith) (omega arith) number

-- ---- names

before_zero : (name rest : List ℕ) → list_any is_zero name ≡ false → position_or_len is_zero (name ++ 0 ∷ rest) ≡ length name
before_zero [] rest none = refl
before_zero (b ∷ bs) rest none = chosen (is_zero b) none (before_zero bs rest)
  where
    chosen : (z : Bool) → (z || list_any is_zero bs) ≡ false → (list_any is_zero bs ≡ false → position_or_len is_zero (bs ++ 0 ∷ rest) ≡ length bs) → cond (not z) (1 + position_or_len is_zero (bs ++ 0 ∷ rest)) 0 ≡ suc (length bs)
    chosen true none later = absurd cc
    chosen false none later = grind (arith, later none)

has_zero : (name rest : List ℕ) → list_any is_zero (name ++ 0 ∷ rest) ≡ true
has_zero name rest = list_any-append is_zero name (0 ∷ rest) ∙ or_right (list_any is_zero name) true refl

-- a name that stands in the strings behind others
pub name_is : (before name rest : List ℕ) → IsName name → name_at (before ++ (name ++ 0 ∷ rest)) (length before) ≡ Some name
unfolding name_at
name_is before name rest is =
    let here = drop-append_seam before (name ++ 0 ∷ rest) in
    let text : take (length name) (name ++ 0 ∷ rest) ≡ name = take-append_seam name (0 ∷ rest) in
    rw (here, has_zero name rest, before_zero name rest is.zero_free, text, lt-ltb 0 (length name) is.some) refl

-- ---- entries

entry_is : (file : List ℕ) (place name : ℕ) (s : Symbol) → name < 2 ^ 32 → s.value < 2 ^ 32 → Stands file place (entry_of name s) → symbol_entry file place ≡ record { st_name = name; st_value = s.value; st_info = 0x10; st_shndx = 0xFFF1 }
unfolding symbol_entry
entry_is file place name s name_fits value_fits stands =
    let numbers : List ℕ = name ∷ s.value ∷ 0 ∷ [] in
    let start : place ≡ place + 4 * 0 = omega arith in
    let rest : List ℕ = 0x10 ∷ 0 ∷ half 0xFFF1 in
    let numbers_stand = first file place (words numbers) rest stands in
    let rest_stands : Stands file (place + 12) rest = moved file (place + length (words numbers)) (place + 12) rest (ap (λ n. place + n) (length-words numbers)) (second file place (words numbers) rest stands) in
    let st_name = ap (λ o. word_at file o) start ∙ nth_word file place numbers 0 (omega arith) name_fits numbers_stand in
    let st_value = nth_word file place numbers 1 (omega arith) value_fits numbers_stand in
    let st_info = byte_is file (place + 12) 0x10 (0 ∷ half 0xFFF1) rest_stands in
    let two : place + 12 + 2 ≡ place + 14 = omega arith in
    let shndx_stands : Stands file (place + 14) (half 0xFFF1) = moved file (place + 12 + 2) (place + 14) (half 0xFFF1) two (second file (place + 12) (0x10 ∷ 0 ∷ []) (half 0xFFF1) rest_stands) in
    let st_shndx = half_is file (place + 14) 0xFFF1 (omega arith) shndx_stands in
    λ i. record { st_name = st_name i; st_value = st_value i; st_info = st_info i; st_shndx = st_shndx i }

module _ (file strings : List ℕ) where
  pub each_symbol : (before : List ℕ) (symbols : List Symbol) (place : ℕ) → strings ≡ before ++ names symbols → length strings < 2 ^ 32 → AllByRecursion IsNamed symbols → AllByRecursion (λ s. IsName s.name) symbols
      → Stands file place (entries_of (length before) symbols)
      → filter_map (λ p. symbol_of strings (symbol_entry file p)) (offsets place 16 (length symbols)) ≡ symbols
  unfolding entries_of
  each_symbol before [] place is size named texts stands = refl
  each_symbol before (s ∷ ss) place is size named texts stands =
      let entry_stands = first file place (entry_of (length before) s) (entries_of (length before + length s.name + 1) ss) stands in
      let rest_stands = second file place (entry_of (length before) s) (entries_of (length before + length s.name + 1) ss) stands in
      let total : length strings ≡ length before + length (names (s ∷ ss)) = ap length is ∙ length-append before (names (s ∷ ss)) in
      let entry = entry_is file place (length before) s (omega (arith, total)) named.0.value entry_stands in
      let split : strings ≡ before ++ (s.name ++ 0 ∷ names ss) = is ∙ ap (λ rest. before ++ rest) (append_assoc s.name (0 ∷ []) (names ss)) in
      let name : name_at strings (length before) ≡ Some s.name = ap (λ (bytes : List ℕ). name_at bytes (length before)) split ∙ name_is before s.name (names ss) texts.0 in
      let kept : symbol_of strings (symbol_entry file place) ≡ Some s =
      ap (λ (e : SymbolEntry). symbol_of strings e) entry ∙ ap (λ (o : Option (List ℕ)). option_map (λ (bytes : List ℕ). record { name = bytes; value = s.value }) o) name in
      let after : strings ≡ before ++ (s.name ++ 0 ∷ []) ++ names ss = is ∙ sym (append_assoc before (s.name ++ 0 ∷ []) (names ss)) in
      let behind : length before + length s.name + 1 ≡ length (before ++ (s.name ++ 0 ∷ [])) = omega (arith, length-append before (s.name ++ 0 ∷ []), length-append s.name (0 ∷ [])) in
      let moved_on = moved file (place + length (entry_of (length before) s)) (place + 16) (entries_of (length (before ++ (s.name ++ 0 ∷ []))) ss) (ap (λ n. place + n) (length-entry_of (length before) s))
      (subst (λ n. Stands file (place + length (entry_of (length before) s)) (entries_of n ss)) behind rest_stands) in
      let later = each_symbol (before ++ (s.name ++ 0 ∷ [])) ss (place + 16) after size named.1 texts.1 moved_on in
      ap (λ (o : Option Symbol). cons_option o (filter_map (λ p. symbol_of strings (symbol_entry file p)) (offsets (place + 16) 16 (length ss)))) kept
      ∙ ap (λ (rest : List Symbol). s ∷ rest) later

  not_kept : (place : ℕ) → Stands file place (replicate 16 0) → is_kept (symbol_entry file place) ≡ false
  unfolding symbol_entry half
  not_kept place stands =
      let zeros : Stands file (place + 14) (half 0) = second file place (replicate 14 0) (half 0) stands in
      let shndx = half_is file (place + 14) 0 (omega arith) zeros in
      and_right (nat_le (byte_at file (place + 12) % 16) 2) (not (half_at file (place + 14) == 0)) (ap (λ n. not (n == 0)) shndx)

  -- sixteen zero bytes are no symbol that is kept
  pub first_dropped : (place : ℕ) → Stands file place (replicate 16 0) → symbol_of strings (symbol_entry file place) ≡ None
  first_dropped place stands = rw (not_kept place stands) refl
