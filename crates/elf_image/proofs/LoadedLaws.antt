-- The image that a file is can be loaded.
use Rattle.std.specs.Prelude.{nat_lt, ◌==◌, ◌&&◌, ◌||◌, not, ◌^◌, ◌-◌, filter, map, slice_range, IfSome, if◌then◌else◌}
use Rattle.std.specs.List.{All, AllByRecursion, AllPairs, list_any, filter_map, cons_option, before_first}
use Rattle.std.specs.Option.{option_map}
use Rattle.std.specs.Ordering.{nat_cmp}
use Rattle.std.specs.FinSet.{len-empty}
use Rattle.std.proofs.Common.{◌≡◌, ℕ, ◌+◌, ◌<◌, ◌≤◌, Bool, true, false, cond, List, [], ◌∷◌, ◌++◌, length, drop, get_or, Option, Some, None, refl, sym, ap, subst, ◌∙◌, arith, true≢false, lt-ltb}
use Rattle.std.proofs.lemmas.Bool.{leb-true, ltb-true, or_parts, and_parts, and_from}
use Rattle.std.proofs.lemmas.List.{append-nil, length-take}
use Rattle.std.proofs.lemmas.List.Folds.{list_any_at}
use Rattle.std.proofs.lemmas.List.Quantifiers.{all_pairs_push}
use Rattle.sl_base.specs.declared.symbol.Symbol.{Symbol}
use Rattle.sl_model.specs.declared.layout.TheConstants.{MEMORY_END, STACK_PAGES, MOST_LOADED_PAGES}
use Rattle.elf_image.specs.declared.image.Image.{Image}
use Rattle.elf_image.specs.declared.image.Segment.{Segment}
use Rattle.elf_image.specs.declared.headers.ProgramHeader.{ProgramHeader}
use Rattle.elf_image.specs.declared.headers.SectionHeader.{SectionHeader}
use Rattle.elf_image.specs.Checks.{AllPass}
use Rattle.elf_image.specs.Flat.{meets_stack}
use Rattle.elf_image.specs.Header.{word_at, header_checks}
use Rattle.elf_image.specs.Segments.{is_loaded, segment_of, segments, program_headers, has_byte_in, range_checks, memory_checks, load_checks, with_header, one_header_checks, each_header_checks, segment_checks}
use Rattle.elf_image.specs.Symbols.{symbol_checks, symbol_entry, symbol_of, entry_symbols, table_symbols, symbol_table, is_kept, name_at, is_zero}
use Rattle.elf_image.specs.Elf.{checks, IsImage}
use Rattle.elf_image.specs.Loadable.{takes_memory, ShareNoByte, page_set, number_of_pages, IsPlaced, IsNamed, IsLoadable}
use Rattle.elf_image.proofs.CheckLaws.{AllPass-append}
use Rattle.elf_image.proofs.Ends.{each_kept}
use Rattle.elf_image.proofs.HeaderLoop.{loads, loads-more}
use Rattle.elf_image.proofs.Bytes.{AreBytes, All-bytes, AreBytes-take, AreBytes-drop, AreBytes-range, word-lt}

-- ---- segments

-- segments that can be loaded together
record AreLoadable (segments : List Segment) : Type 0 where
  placed : AllByRecursion IsPlaced segments
  apart : AllPairs ShareNoByte segments
  few : number_of_pages segments + STACK_PAGES ≤ MOST_LOADED_PAGES

none_loadable : AreLoadable []
unfolding page_set
none_loadable = record {
  placed = tt;
  apart = λ i j d before within. absurd (omega arith);
  few = omega (arith, len-empty nat_cmp);
}

-- a segment that has no byte where another lies
apart_from : (before : List Segment) (segment : Segment) → list_any (has_byte_in segment.vaddr (segment.vaddr + segment.memsz)) before ≡ false
    → (k : ℕ) (d : Segment) → k < length before → ShareNoByte (get_or before k d) segment
apart_from before segment free k d within address one other =
    let s = get_or before k d in
    let from = one.from in
    let to = one.to in
    let first = other.from in
    let last = other.to in
    let has : has_byte_in segment.vaddr (segment.vaddr + segment.memsz) s ≡ true =
    and_from (nat_lt segment.vaddr (s.vaddr + s.memsz)) (nat_lt s.vaddr (segment.vaddr + segment.memsz)) (lt-ltb segment.vaddr (s.vaddr + s.memsz) (omega arith)) (lt-ltb s.vaddr (segment.vaddr + segment.memsz) (omega arith)) in
    absurd (true≢false (sym (list_any_at (has_byte_in segment.vaddr (segment.vaddr + segment.memsz)) before k d within has) ∙ free))

not_true : (b : Bool) → not b ≡ true → b ≡ false
not_true true is = absurd cc
not_true false is = refl

name_bytes : (strings : List ℕ) (offset : ℕ) → AreBytes strings → IfSome (name_at strings offset) (λ name. All (λ b. b < 256) name)
unfolding name_at
name_bytes strings offset are = chosen (list_any is_zero (drop offset strings) && nat_lt 0 (length (before_first is_zero (drop offset strings))))
  where
    chosen : (b : Bool) → IfSome (if b then Some (before_first is_zero (drop offset strings)) else None) (λ name. All (λ b. b < 256) name)
    chosen true = All-bytes (before_first is_zero (drop offset strings)) (AreBytes-take _ (drop offset strings) (AreBytes-drop offset strings are))
    chosen false = tt

named : (b : Bool) (value : ℕ) (o : Option (List ℕ)) → value < 2 ^ 32 → IfSome o (λ name. All (λ b. b < 256) name)
    → IfSome (if b then option_map (λ (name : List ℕ). record { name = name; value = value }) o else None) IsNamed
named true value None lt bytes = tt
named true value (Some name) lt bytes = record { name = bytes; value = lt }
named false value o lt bytes = tt

module _ (file : List ℕ) (bytes : AreBytes file) where
  placed_of : (header : ProgramHeader) → AllPass (range_checks file header) → meets_stack header.p_vaddr header.p_memsz ≡ false → IsPlaced (segment_of file header)
  placed_of header passes beside =
      let within = leb-true (header.p_vaddr + header.p_memsz) MEMORY_END passes.1.1.0 in
      let size = leb-true header.p_filesz header.p_memsz passes.1.0 in
      record {
        vaddr = omega arith;
        memsz = omega arith;
        bytes = All-bytes (slice_range file header.p_offset (header.p_offset + header.p_filesz)) (AreBytes-range file header.p_offset (header.p_offset + header.p_filesz) bytes);
        size = grind (arith, length-take (header.p_offset + header.p_filesz - header.p_offset) (drop header.p_offset file));
        below_end = λ _. within;
        beside_stack = λ _. beside;
      }

  one_more_loaded : (before : List Segment) (header : ProgramHeader) → AreLoadable before → AllPass (load_checks file before header) → AreLoadable (before ++ segment_of file header ∷ [])
  one_more_loaded before header are passes =
      let segment = segment_of file header in
      let parts = AllPass-append (range_checks file header) (memory_checks before segment header.place) passes in
      let free = or_parts (list_any (has_byte_in segment.vaddr (segment.vaddr + segment.memsz)) before) (meets_stack segment.vaddr segment.memsz)
      (not_true (list_any (has_byte_in segment.vaddr (segment.vaddr + segment.memsz)) before || meets_stack segment.vaddr segment.memsz) parts.1.0) in
      record {
        placed = each_kept IsPlaced IsPlaced (λ s is. is) before segment are.placed (placed_of header parts.0 free.1);
        apart = all_pairs_push ShareNoByte before segment are.apart (apart_from before segment free.0);
        few = leb-true (number_of_pages (before ++ segment ∷ []) + STACK_PAGES) MOST_LOADED_PAGES parts.1.1.0;
      }

  each_loaded : (before : List Segment) (headers : List ProgramHeader) → AreLoadable before → AllPass (each_header_checks file before headers) → AreLoadable (before ++ loads file headers)
  unfolding each_header_checks
  each_loaded before [] are passes = subst AreLoadable (sym (append-nil before)) are
  each_loaded before (header ∷ headers) are passes =
      let parts = AllPass-append (one_header_checks file before header) (each_header_checks file (with_header file before header) headers) passes in
      subst AreLoadable (sym (loads-more file before header headers))
      (each_loaded (with_header file before header) headers (chosen (is_loaded header) parts.0.1) parts.1)
    where
      chosen : (b : Bool) → AllPass (if b then load_checks file before header else []) → AreLoadable (if b then before ++ segment_of file header ∷ [] else before)
      chosen true loads = one_more_loaded before header are loads
      chosen false loads = are

  -- each loaded segment takes memory
  all_take : (headers : List ProgramHeader) → 0 < length (loads file headers) → list_any takes_memory (loads file headers) ≡ true
  all_take [] some = absurd (omega arith)
  all_take (header ∷ headers) some = chosen (is_loaded header) refl some (all_take headers)
    where
      chosen : (b : Bool) → is_loaded header ≡ b → 0 < length (map (segment_of file) (cond b (header ∷ filter is_loaded headers) (filter is_loaded headers)))
          → (0 < length (loads file headers) → list_any takes_memory (loads file headers) ≡ true)
          → list_any takes_memory (map (segment_of file) (cond b (header ∷ filter is_loaded headers) (filter is_loaded headers))) ≡ true
      chosen true is some later = ap (λ b. b || list_any takes_memory (loads file headers)) (and_parts (header.p_type == 1) (nat_lt 0 header.p_memsz) is).1
      chosen false is some later = later some

  -- ---- symbols

  named_of : (strings : List ℕ) (place : ℕ) → AreBytes strings → IfSome (symbol_of strings (symbol_entry file place)) IsNamed
  unfolding symbol_entry
  named_of strings place are = named (is_kept (symbol_entry file place)) (word_at file (place + 4)) (name_at strings (word_at file place)) (word-lt file (place + 4) bytes) (name_bytes strings (word_at file place) are)

  each_named : (strings : List ℕ) (places : List ℕ) → AreBytes strings → AllByRecursion IsNamed (filter_map (λ place. symbol_of strings (symbol_entry file place)) places)
  each_named strings [] are = tt
  each_named strings (place ∷ places) are = chosen (symbol_of strings (symbol_entry file place)) (named_of strings place are) (each_named strings places are)
    where
      chosen : (o : Option Symbol) → IfSome o IsNamed → AllByRecursion IsNamed (filter_map (λ place. symbol_of strings (symbol_entry file place)) places)
          → AllByRecursion IsNamed (cons_option o (filter_map (λ place. symbol_of strings (symbol_entry file place)) places))
      chosen None named rest = rest
      chosen (Some symbol) named rest = (named, rest)

  all_named : (table : Option SectionHeader) → AllByRecursion IsNamed (table_symbols file table)
  unfolding entry_symbols
  all_named None = tt
  all_named (Some s) = each_named _ _ (AreBytes-range file _ _ bytes)

  pub IsLoadable-image : (image : Image) → IsImage file image → IsLoadable image
  unfolding checks
  IsLoadable-image image is =
      let before = AllPass-append (header_checks file ++ segment_checks file) (symbol_checks file) is.checked in
      let passes = (AllPass-append (header_checks file) (segment_checks file) before.0).1 in
      let parts = AllPass-append (each_header_checks file [] (program_headers file)) _ passes in
      let are = each_loaded [] (program_headers file) none_loadable parts.0 in
      let some : 0 < length (segments file) = ltb-true 0 (length (segments file)) parts.1.0 in
      record {
        entry = rw is.entry (word-lt file 24 bytes);
        some = rw is.segments (all_take (program_headers file) some);
        placed = rw is.segments are.placed;
        apart = rw is.segments are.apart;
        few = rw is.segments are.few;
        named = rw is.symbols (all_named (symbol_table file));
      }
