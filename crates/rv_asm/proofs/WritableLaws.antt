-- The image of a source can be loaded and written.
use Rattle.std.proofs.Common.{◌≡◌, ℕ, zero, suc, ◌+◌, ◌-◌, ◌*◌, ◌/◌, ◌%◌, ◌^◌, ◌<◌, ◌≤◌, Bool, ◌&&◌, ◌||◌, cond, true, false, List, [], ◌∷◌, ◌++◌, length, get_or, map, refl, sym, ap, subst, ◌∙◌, arith, length-append}
use Rattle.std.specs.Str.Lines.{lines}
use Rattle.asm_text.specs.declared.mnemonic.Section.TheVariants.{Text, Data}
use Rattle.std.specs.Prelude.{None, ◌==◌, nat_lt, nat_le, replicate, unwrap_or, codes, Result, Ok, Err, IfOk}
use Rattle.std.specs.List.{All, AllByRecursion, AllPairs, flat_map, range_with_len}
use Rattle.std.proofs.Math.Nat.{mod-lt}
use Rattle.std.proofs.lemmas.Bool.{lt-ltb, lt-leb, eqb-false}
use Rattle.std.proofs.lemmas.List.{length-replicate}
use Rattle.std.proofs.lemmas.List.FromFn.{length-range_with_len}
use Rattle.sl_base.specs.declared.symbol.Symbol.{Symbol}
use Rattle.elf_image.specs.declared.image.Image.{Image}
use Rattle.elf_image.specs.declared.image.Segment.{Segment}
use Rattle.sl_model.specs.declared.layout.TheConstants.{PAGE_SIZE, FIRST_STACK_PAGE, STACK_PAGES}
use Rattle.elf_image.specs.Flat.{page_count, meets_stack}
use Rattle.elf_image.specs.Loadable.{takes_memory, segment_pages, page_set, number_of_pages, ShareNoByte, IsPlaced, IsNamed, IsLoadable}
use Rattle.elf_image.specs.Written.{half, word, aligned, padding, segment_bytes, string_table, names, layout_of, file_header, header_of, headers_of, entry_of, entries_of, entries, symbols_section, strings_section, program_part, written, IsName, IsWritable}
use Rattle.elf_image.proofs.PageSet.{len-from_list-le}
use Rattle.rv_asm.specs.declared.place.Label.{Label}
use Rattle.rv_asm.specs.declared.table.Table.{Table}
use Rattle.rv_asm.specs.Places.{text_start, data_start, start, end_of}
use Rattle.rv_asm.specs.Labels.{address_of, labels_in}
use Rattle.rv_asm.specs.Lines.{value, first_fault}
use Rattle.rv_asm.specs.Output.{bytes_in}
use Rattle.rv_asm.specs.Assembly.{most_source, table_of, segment, data_segments, symbol_of, image_from}
use Rattle.rv_asm.proofs.NameLaws.{IsProper, AreProper, total, all_proper, labels_few}
use Rattle.rv_asm.proofs.SizeLaws.{section_len, end_small}

-- ---- one segment

record Lies (address len : ℕ) : Type 0 where
  some : 0 < len
  low : 0x10000 ≤ address
  high : address + len ≤ 0x2000000

no_and : (a b : Bool) → b ≡ false → (a && b) ≡ false
no_and true b is = is
no_and false b is = refl

beside : (address len : ℕ) → Lies address len → meets_stack address len ≡ false
beside address len lies =
    no_and (nat_lt (address / PAGE_SIZE) (FIRST_STACK_PAGE + STACK_PAGES)) (nat_le FIRST_STACK_PAGE ((address + len - 1) / PAGE_SIZE))
    (lt-leb FIRST_STACK_PAGE ((address + len - 1) / PAGE_SIZE) (let high = lies.high in omega arith))

placed : (address : ℕ) (bytes : List ℕ) → Lies address (length bytes) → All (λ b. b < 256) bytes → IsPlaced (segment address bytes)
placed address bytes lies each =
    let high = lies.high in
    record {
      vaddr = omega arith;
      memsz = omega arith;
      bytes = each;
      size = omega arith;
      below_end = λ _. omega arith;
      beside_stack = λ _. beside address (length bytes) lies;
    }

chosen_pages : (b : Bool) (xs : List ℕ) (n : ℕ) → length xs ≡ n → length (cond b xs []) ≤ n
chosen_pages true xs n is = omega arith
chosen_pages false xs n is = omega arith

pages_few : (address : ℕ) (bytes : List ℕ) → length (segment_pages (segment address bytes)) ≤ page_count address (length bytes)
pages_few address bytes = chosen_pages (nat_lt 0 (length bytes)) (range_with_len (address / 4096) (page_count address (length bytes))) (page_count address (length bytes))
    (length-range_with_len (address / 4096) (page_count address (length bytes)))

one_few : (s : Segment) → number_of_pages (s ∷ []) ≤ length (segment_pages s)
unfolding page_set
one_few s =
    let some = len-from_list-le (segment_pages s ++ []) in
    omega (arith, some, length-append (segment_pages s) [])

two_few : (s t : Segment) → number_of_pages (s ∷ t ∷ []) ≤ length (segment_pages s) + length (segment_pages t)
unfolding page_set
two_few s t =
    let some = len-from_list-le (segment_pages s ++ (segment_pages t ++ [])) in
    omega (arith, some, length-append (segment_pages s) (segment_pages t ++ []), length-append (segment_pages t) [])

-- ---- symbols

symbols_len : (data_at : ℕ) (labels : List Label) → length (map (symbol_of data_at) labels) ≤ total labels
symbols_len data_at [] = omega arith
symbols_len data_at (label ∷ labels) = let rest = symbols_len data_at labels in omega arith

names_len : (data_at : ℕ) (labels : List Label) → length (names (map (symbol_of data_at) labels)) ≡ total labels
names_len data_at [] = refl
names_len data_at (label ∷ labels) =
    let rest = names_len data_at labels in
    omega (arith, rest, length-append (label.name ++ 0 ∷ []) (names (map (symbol_of data_at) labels)), length-append label.name (0 ∷ []))

named : (data_at : ℕ) (labels : List Label) → AreProper labels → AllByRecursion IsNamed (map (symbol_of data_at) labels)
named data_at [] all = tt
named data_at (label ∷ labels) all =
    (record { name = all.0.bytes; value = mod-lt (address_of data_at label.spot) {m = 2 ^ 32} (omega arith) }, named data_at labels all.1)

spelled : (data_at : ℕ) (labels : List Label) → AreProper labels → AllByRecursion (λ s. IsName s.name) (map (symbol_of data_at) labels)
spelled data_at [] all = tt
spelled data_at (label ∷ labels) all = (record { some = all.0.some; zero_free = all.0.free }, spelled data_at labels all.1)

-- ---- how long the file is

padding_len : (offset : ℕ) → length (padding offset) ≤ 3
unfolding padding
padding_len offset = omega (arith, length-replicate {A = ℕ} (aligned offset - offset) 0)

entries_len : (name : ℕ) (symbols : List Symbol) → length (entries_of name symbols) ≡ 16 * length symbols
unfolding entries_of half word
entries_len name [] = refl
entries_len name (s ∷ ss) =
    let rest = entries_len (name + length s.name + 1) ss in
    omega (arith, rest, length-append (entry_of name s) (entries_of (name + length s.name + 1) ss))

headers_len : (offset : ℕ) (segments : List Segment) → length (headers_of offset segments) ≡ 32 * length segments
unfolding headers_of word
headers_len offset [] = refl
headers_len offset (s ∷ ss) =
    let rest = headers_len (offset + length s.bytes) ss in
    omega (arith, rest, length-append (header_of offset s) (headers_of (offset + length s.bytes) ss))

header_len : (entry sections phnum : ℕ) → length (file_header entry sections phnum) ≡ 52
unfolding file_header half word
header_len entry sections phnum = refl

four : (a b c d : List ℕ) → length (a ++ b ++ c ++ d) ≡ length a + length b + length c + length d
four a b c d = simp length-append

seven : (a b c d e f g : List ℕ) → length (a ++ b ++ c ++ d ++ e ++ f ++ g) ≡ length a + length b + length c + length d + length e + length f + length g
seven a b c d e f g = simp length-append

symbols_section_len : (image : Image) → length (symbols_section (layout_of image)) ≡ 40
unfolding word
symbols_section_len image = refl

strings_section_len : (offset size : ℕ) → length (strings_section offset size) ≡ 40
unfolding word
strings_section_len offset size = refl

written_len : (image : Image)
    → length (written image) ≤ 300 + 32 * length image.segments + length (segment_bytes image.segments) + 16 * length image.symbols + length (names image.symbols)
unfolding written
written_len image =
    let at = layout_of image in
    let bytes = segment_bytes image.segments in
    let strings = string_table image.symbols in
    let whole = seven (program_part image) (entries image.symbols) strings (padding (at.strings + length strings)) (replicate 40 0) (symbols_section at) (strings_section at.strings (length strings)) in
    let program = four (file_header image.entry at.sections (length image.segments)) (headers_of at.bytes image.segments) bytes (padding (at.bytes + length bytes)) in
    let table = length-append (replicate 16 0) (entries_of 1 image.symbols) in
    omega (
      arith,
      whole,
      program,
      table,
      header_len image.entry at.sections (length image.segments),
      headers_len at.bytes image.segments,
      padding_len (at.bytes + length bytes),
      entries_len 1 image.symbols,
      padding_len (at.strings + length strings),
      symbols_section_len image,
      strings_section_len at.strings (length strings),
    )

-- ---- the image

pub record Made (table : Table) (text bytes : List ℕ) : Type 0 where
  pub some : 0 < length text
  pub text_few : length text ≤ 2 ^ 20
  pub data_few : length bytes ≤ 2 ^ 24
  pub text_bytes : All (λ b. b < 256) text
  pub data_bytes : All (λ b. b < 256) bytes
  pub start : table.data_start ≡ data_start (length text)
  pub proper : AreProper table.labels
  pub few : total table.labels ≤ 2 ^ 20

record IsAt (len at : ℕ) : Type 0 where
  behind : 0x10000 + len ≤ at
  near : at ≤ 0x10000 + len + 4095

data_at : (len start : ℕ) → len ≤ 2 ^ 20 → start ≡ data_start len → IsAt len (start % 2 ^ 32)
data_at len start few is = record { behind = omega arith; near = omega arith }

entry_fits : (table : Table) → unwrap_or (value table (codes "_start")) text_start % 2 ^ 32 < 2 ^ 32
entry_fits table = mod-lt (unwrap_or (value table (codes "_start")) text_start) {m = 2 ^ 32} (omega arith)

pages_text : (len : ℕ) → len ≤ 2 ^ 20 → page_count 0x10000 len ≤ 257
pages_text len few = omega arith

pages_data : (at len : ℕ) → len ≤ 2 ^ 24 → page_count at len ≤ 4098
pages_data at len few = omega arith

share_none : (text bytes : List ℕ) (at : ℕ) → 0x10000 + length text ≤ at → ShareNoByte (segment 0x10000 text) (segment at bytes)
share_none text bytes at behind address a b = let to = a.to in let from = b.from in absurd (omega arith)

both_apart : (s t : Segment) → ShareNoByte s t → AllPairs ShareNoByte (s ∷ t ∷ [])
both_apart s t apart zero zero d before within = absurd (omega arith)
both_apart s t apart zero (suc zero) d before within = apart
both_apart s t apart zero (suc (suc j)) d before within = absurd (omega arith)
both_apart s t apart (suc i) zero d before within = absurd (omega arith)
both_apart s t apart (suc i) (suc zero) d before within = absurd (omega arith)
both_apart s t apart (suc i) (suc (suc j)) d before within = absurd (omega arith)

or_true : (a b : Bool) → a ≡ true → (a || b) ≡ true
or_true true b is = refl
or_true false b is = absurd (let h : false ≡ true = is in cc)

-- its file has at most 64 MiB
pub made_small : (table : Table) (text bytes : List ℕ) → Made table text bytes → length (written (image_from table text bytes)) ≤ 2 ^ 26
made_small table text [] made =
    let few = made.text_few in
    let labels = made.few in
    let len = written_len (image_from table text []) in
    omega (arith, len, length-append text [], symbols_len table.data_start table.labels, names_len table.data_start table.labels)
made_small table text (b ∷ bs) made =
    let few = made.text_few in
    let data_few = made.data_few in
    let labels = made.few in
    let len = written_len (image_from table text (b ∷ bs)) in
    omega (arith, len, length-append text ((b ∷ bs) ++ []), length-append (b ∷ bs) [], symbols_len table.data_start table.labels, names_len table.data_start table.labels)

pub made_writable : (table : Table) (text bytes : List ℕ) → Made table text bytes → IsWritable (image_from table text bytes)
made_writable table text [] made =
    let some = made.some in
    let few = made.text_few in
    let lies : Lies 0x10000 (length text) = record { some = some; low = omega arith; high = omega arith } in
    let pages = one_few (segment 0x10000 text) in
    let here = pages_few 0x10000 text in
    let page = pages_text (length text) few in
    record {
      loadable = record {
        entry = entry_fits table;
        some = ap (λ b. b || false) (lt-ltb 0 (length text) some);
        placed = (placed 0x10000 text lies made.text_bytes, tt);
        apart = λ i j d before within. absurd (omega arith);
        few = omega arith;
        named = named table.data_start table.labels made.proper;
      };
      taking = (some, tt);
      names = spelled table.data_start table.labels made.proper;
      number = omega arith;
      size =
          let small = made_small table text [] made in
          omega arith;
    }
made_writable table text (b ∷ bs) made =
    let some = made.some in
    let few = made.text_few in
    let data_few = made.data_few in
    let at = table.data_start % 2 ^ 32 in
    let is_at = data_at (length text) table.data_start few made.start in
    let behind = is_at.behind in
    let near = is_at.near in
    let lies : Lies 0x10000 (length text) = record { some = some; low = omega arith; high = omega arith } in
    let lies_data : Lies at (length (b ∷ bs)) = record { some = omega arith; low = omega arith; high = omega arith } in
    let pages = two_few (segment 0x10000 text) (segment at (b ∷ bs)) in
    let here = pages_few 0x10000 text in
    let there = pages_few at (b ∷ bs) in
    let page = pages_text (length text) few in
    let page_data = pages_data at (length (b ∷ bs)) data_few in
    record {
      loadable = record {
        entry = entry_fits table;
        some = or_true (nat_lt 0 (length text)) _ (lt-ltb 0 (length text) some);
        placed = (placed 0x10000 text lies made.text_bytes, (placed at (b ∷ bs) lies_data made.data_bytes, tt));
        apart = both_apart (segment 0x10000 text) (segment at (b ∷ bs)) (share_none text (b ∷ bs) at behind);
        few = omega arith;
        named = named table.data_start table.labels made.proper;
      };
      taking = (some, (omega arith, tt));
      names = spelled table.data_start table.labels made.proper;
      number = omega arith;
      size =
          let small = made_small table text (b ∷ bs) made in
          omega arith;
    }

pub made : (source : List ℕ) (table : Table) (text bytes : List ℕ) → length source ≤ most_source → table ≡ table_of (lines source)
    → first_fault table start 1 (lines source) ≡ None → text ≡ bytes_in Text table start (lines source) → bytes ≡ bytes_in Data table start (lines source)
    → (length text == 0) ≡ false → All (λ b. b < 256) text → All (λ b. b < 256) bytes → Made table text bytes
unfolding table_of
made source table text bytes few is none text_is bytes_is some text_bytes data_bytes =
    let text_len = section_len Text table start 1 (lines source) none in
    let data_len = section_len Data table start 1 (lines source) none in
    let small = end_small table start 1 (lines source) none (omega arith) (omega arith) in
    let labels : table.labels ≡ labels_in start 1 (lines source) = ap (λ (t : Table). t.labels) is in
    let grown : length text ≡ (end_of start (lines source)).text_size = omega (arith, ap length text_is, text_len) in
    let apart = eqb-false (length text) 0 some in
    let listed = labels_few start 1 source in
    record {
      some = omega (arith, apart);
      text_few = omega (arith, grown, small.0);
      data_few = omega (arith, ap length bytes_is, data_len, small.1);
      text_bytes = text_bytes;
      data_bytes = data_bytes;
      start = ap (λ (t : Table). t.data_start) is ∙ ap data_start (sym grown);
      proper = subst AreProper (sym labels) (all_proper start 1 (lines source));
      few = omega (arith, ap total labels, listed);
    }
