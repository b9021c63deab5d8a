-- The program headers of a written file pass their checks, and load its segments.
use Rattle.std.specs.Prelude.{◌*◌, ◌^◌, nat_lt, ◌||◌, filter, map, max, suc, if◌then◌else◌}
use Rattle.std.specs.List.{All, AllPairs, list_any, flat_map}
use Rattle.std.specs.Ordering.{nat_cmp}
use Rattle.std.specs.Cmp.{nat_cmp_total}
use Rattle.std.specs.FinSet.{from_list, len, contains, contains-from_list_nat, len-insert, same_set, nat_cmp-IsAntisymmetric}
use Rattle.std.proofs.Common.{◌≡◌, ℕ, ◌+◌, ◌<◌, ◌≤◌, Bool, true, false, cond, List, [], ◌∷◌, ◌++◌, length, get_or, refl, sym, ap, subst, ◌∙◌, ⊎_elim, arith, le-leb, lt-ltb, append_assoc, length-append, nat_eq}
use Rattle.std.proofs.lemmas.List.Concat.{flat_map-append}
use Rattle.std.proofs.Math.ListN.{get_or-append}
use Rattle.std.proofs.Math.Seq.{get_or-append_seam}
use Rattle.std.proofs.lemmas.Bool.{and_parts, ltb-true, cases_Bool}
use Rattle.std.proofs.lemmas.List.Folds.{list_any-append, list_any_none}
use Rattle.sl_model.specs.declared.layout.TheConstants.{MEMORY_END, STACK_PAGES, MOST_LOADED_PAGES}
use Rattle.elf_image.specs.declared.check.Check.{Check}
use Rattle.elf_image.specs.declared.headers.ProgramHeader.{ProgramHeader}
use Rattle.elf_image.specs.declared.image.Segment.{Segment}
use Rattle.elf_image.specs.Checks.{AllPass}
use Rattle.elf_image.specs.Header.{word_at}
use Rattle.elf_image.specs.Segments.{offsets, program_header, is_loaded, segment_of, has_byte_in, is_free, range_checks, memory_checks, load_checks, with_header, one_header_checks, each_header_checks}
use Rattle.elf_image.specs.Loadable.{ShareNoByte, segment_pages, page_set, number_of_pages, IsPlaced}
use Rattle.elf_image.specs.Written.{segment_bytes, header_of, headers_of}
use Rattle.elf_image.proofs.CheckLaws.{AllPass-both}
use Rattle.elf_image.proofs.WrittenLengths.{length-words}
use Rattle.elf_image.proofs.HeaderLoop.{loads}
use Rattle.elf_image.proofs.Stands.{Stands, moved, first, second, ends, range_is, nth_word}

-- ---- one header

-- the header of a segment whose bytes stand at an offset
abbrev expected : ℕ → ℕ → Segment → ProgramHeader
expected place offset s = record { place = place; p_type = 1; p_offset = offset; p_vaddr = s.vaddr; p_filesz = length s.bytes; p_memsz = s.memsz }

header_is : (file : List ℕ) (place offset : ℕ) (s : Segment) → offset < 2 ^ 32 → IsPlaced s → Stands file place (header_of offset s) → program_header file place ≡ expected place offset s
unfolding program_header
header_is file place offset s fits placed stands =
    let numbers : List ℕ = 1 ∷ offset ∷ s.vaddr ∷ s.vaddr ∷ length s.bytes ∷ s.memsz ∷ 7 ∷ 1 ∷ [] in
    let vaddr = placed.vaddr in
    let memsz = placed.memsz in
    let size = placed.size in
    let start : place ≡ place + 4 * 0 = omega arith in
    let p_type = ap (λ o. word_at file o) start ∙ nth_word file place numbers 0 (omega arith) (omega arith) stands in
    let p_offset = nth_word file place numbers 1 (omega arith) fits stands in
    let p_vaddr = nth_word file place numbers 2 (omega arith) vaddr stands in
    let p_filesz = nth_word file place numbers 4 (omega arith) (omega arith) stands in
    let p_memsz = nth_word file place numbers 5 (omega arith) memsz stands in
    λ i. record { place = place; p_type = p_type i; p_offset = p_offset i; p_vaddr = p_vaddr i; p_filesz = p_filesz i; p_memsz = p_memsz i }

segment_is : (file : List ℕ) (place offset : ℕ) (s : Segment) → Stands file offset s.bytes → segment_of file (expected place offset s) ≡ s
segment_is file place offset s stands = λ i. record { vaddr = s.vaddr; memsz = s.memsz; bytes = range_is file offset s.bytes stands i }

range_passes : (file : List ℕ) (place offset : ℕ) (s : Segment) → 0 < s.memsz → IsPlaced s → Stands file offset s.bytes → AllPass (range_checks file (expected place offset s))
range_passes file place offset s takes placed stands = (
  le-leb (offset + length s.bytes) (length file) (ends file offset s.bytes stands),
  (
    le-leb (length s.bytes) s.memsz placed.size,
    (le-leb (s.vaddr + s.memsz) MEMORY_END (placed.below_end takes), tt),
  ),
)

-- ---- a segment behind others

-- two segments that take memory and share no byte
apart_is : (a b : Segment) → 0 < a.memsz → 0 < b.memsz → ShareNoByte a b → has_byte_in b.vaddr (b.vaddr + b.memsz) a ≡ false
apart_is a b a_takes b_takes apart = ⊎_elim
    (λ (is : has_byte_in b.vaddr (b.vaddr + b.memsz) a ≡ true).
    let parts = and_parts (nat_lt b.vaddr (a.vaddr + a.memsz)) (nat_lt a.vaddr (b.vaddr + b.memsz)) is in
    let below = ltb-true b.vaddr (a.vaddr + a.memsz) parts.0 in
    let above = ltb-true a.vaddr (b.vaddr + b.memsz) parts.1 in
    absurd (apart (max a.vaddr b.vaddr) (record { from = omega arith; to = omega arith }) (record { from = omega arith; to = omega arith })))
    (λ (is : has_byte_in b.vaddr (b.vaddr + b.memsz) a ≡ false). is)
    (cases_Bool (has_byte_in b.vaddr (b.vaddr + b.memsz) a))

-- more pages for more segments
grown : (xs ys : List ℕ) → len (from_list {R = nat_cmp} ys) ≤ len (from_list {R = nat_cmp} (xs ++ ys))
grown [] ys = omega arith
grown (x ∷ xs) ys = chosen (contains (from_list (xs ++ ys)) x) (len-insert nat_cmp_total (from_list (xs ++ ys)) x) (grown xs ys)
  where
    chosen : (b : Bool) → len (from_list {R = nat_cmp} (x ∷ (xs ++ ys))) ≡ cond b (len (from_list {R = nat_cmp} (xs ++ ys))) (len (from_list {R = nat_cmp} (xs ++ ys)) + 1)
        → len (from_list {R = nat_cmp} ys) ≤ len (from_list {R = nat_cmp} (xs ++ ys)) → len (from_list {R = nat_cmp} ys) ≤ len (from_list {R = nat_cmp} (x ∷ (xs ++ ys)))
    chosen true is before = omega arith
    chosen false is before = omega arith

swapped : (xs ys : List ℕ) → from_list {R = nat_cmp} (xs ++ ys) ≡ from_list (ys ++ xs)
swapped xs ys = same_set nat_cmp_total nat_cmp-IsAntisymmetric (from_list (xs ++ ys)) (from_list (ys ++ xs))
    (λ q. contains-from_list_nat (xs ++ ys) q ∙ list_any-append _ xs ys ∙ or_swap (list_any (λ y. nat_eq y q) xs) (list_any (λ y. nat_eq y q) ys) ∙ sym (list_any-append _ ys xs) ∙ sym (contains-from_list_nat (ys ++ xs) q))
  where
    or_swap : (a b : Bool) → (a || b) ≡ (b || a)
    or_swap true true = refl
    or_swap true false = refl
    or_swap false true = refl
    or_swap false false = refl

pages-le : (before after : List Segment) → number_of_pages before ≤ number_of_pages (before ++ after)
unfolding page_set
pages-le before after =
    let xs = flat_map segment_pages before in
    let ys = flat_map segment_pages after in
    let all : from_list {R = nat_cmp} (flat_map segment_pages (before ++ after)) ≡ from_list (ys ++ xs) = ap (λ (ks : List ℕ). from_list {R = nat_cmp} ks) (flat_map-append segment_pages before after) ∙ swapped xs ys in
    subst (λ s. len (from_list {R = nat_cmp} xs) ≤ len s) (sym all) (grown ys xs)

-- ---- all headers

-- what holds of the segments of a file that is written
pub record AreSpelled (segments : List Segment) : Type 0 where
  pub taking : All (λ s. 0 < s.memsz) segments
  pub placed : All IsPlaced segments
  pub apart : AllPairs ShareNoByte segments
  pub few : number_of_pages segments + STACK_PAGES ≤ MOST_LOADED_PAGES

none_has : (before after : List Segment) (s : Segment) → AreSpelled (before ++ s ∷ after) → list_any (has_byte_in s.vaddr (s.vaddr + s.memsz)) before ≡ false
none_has before after s are = list_any_none (has_byte_in s.vaddr (s.vaddr + s.memsz)) before each
  where
    each : (k : ℕ) (d : Segment) → k < length before → has_byte_in s.vaddr (s.vaddr + s.memsz) (get_or before k d) ≡ false
    each k d within =
        let all = before ++ s ∷ after in
        let here : get_or all k d ≡ get_or before k d = get_or-append before (s ∷ after) d k within in
        let there : get_or all (length before) d ≡ s = get_or-append_seam before s after d in
        let total = length-append before (s ∷ after) in
        let takes = subst (λ (a : Segment). 0 < a.memsz) here (are.taking k d (omega (arith, total))) in
        let s_takes = subst (λ (a : Segment). 0 < a.memsz) there (are.taking (length before) d (omega (arith, total))) in
        let apart = subst (λ (b : Segment). ShareNoByte (get_or before k d) b) there
        (subst (λ (a : Segment). ShareNoByte a (get_or all (length before) d)) here (are.apart k (length before) d within (omega (arith, total)))) in
        apart_is (get_or before k d) s takes s_takes apart

placed_is : (before after : List Segment) (s : Segment) → All IsPlaced (before ++ s ∷ after) → IsPlaced s
placed_is before after s placed =
    let total = length-append before (s ∷ after) in
    subst IsPlaced (get_or-append_seam before s after s) (placed (length before) s (omega (arith, total)))

takes_is : (before after : List Segment) (s : Segment) → All (λ a. 0 < a.memsz) (before ++ s ∷ after) → 0 < s.memsz
takes_is before after s taking =
    let total = length-append before (s ∷ after) in
    subst (λ (a : Segment). 0 < a.memsz) (get_or-append_seam before s after s) (taking (length before) s (omega (arith, total)))

moved_on : (before ss : List Segment) (s : Segment) → AreSpelled (before ++ s ∷ ss) → AreSpelled (before ++ s ∷ [] ++ ss)
moved_on before ss s are = subst AreSpelled (sym (append_assoc before (s ∷ []) ss)) are

loaded_is : (b : Bool) (xs : List Check) → b ≡ true → AllPass xs → AllPass (if b then xs else [])
loaded_is true xs is all = all
loaded_is false xs is all = absurd cc

module _ (file : List ℕ) where
  memory_passes : (before after : List Segment) (s : Segment) (place : ℕ) → AreSpelled (before ++ s ∷ after) → AllPass (memory_checks before s place)
  memory_passes before after s place are =
      let placed = placed_is before after s are.placed in
      let takes = takes_is before after s are.taking in
      let free : is_free before s ≡ true = rw (none_has before after s are, placed.beside_stack takes) refl in
      let fewer : number_of_pages (before ++ s ∷ []) ≤ number_of_pages (before ++ s ∷ [] ++ after) = pages-le (before ++ s ∷ []) after in
      let few = (moved_on before after s are).few in
      (free, (le-leb (number_of_pages (before ++ s ∷ []) + STACK_PAGES) MOST_LOADED_PAGES (omega (arith, fewer, few)), tt))

  -- the headers and the bytes behind the first segment's
  headers_on : (place offset : ℕ) (s : Segment) (ss : List Segment) → Stands file place (header_of offset s ++ headers_of (offset + length s.bytes) ss) → Stands file (place + 32) (headers_of (offset + length s.bytes) ss)
  headers_on place offset s ss stands =
      let size = length-words (1 ∷ offset ∷ s.vaddr ∷ s.vaddr ∷ length s.bytes ∷ s.memsz ∷ 7 ∷ 1 ∷ []) in
      moved file (place + length (header_of offset s)) (place + 32) (headers_of (offset + length s.bytes) ss) (ap (λ n. place + n) size) (second file place (header_of offset s) (headers_of (offset + length s.bytes) ss) stands)

  pub each_passes : (before segments : List Segment) (place offset : ℕ) → length file < 2 ^ 32 → AreSpelled (before ++ segments)
      → Stands file place (headers_of offset segments) → Stands file offset (segment_bytes segments)
      → AllPass (each_header_checks file before (map (program_header file) (offsets place 32 (length segments))))
  unfolding each_header_checks headers_of
  each_passes before [] place offset size are headers bytes = tt
  each_passes before (s ∷ ss) place offset size are headers bytes =
      let placed = placed_is before ss s are.placed in
      let takes = takes_is before ss s are.taking in
      let body = first file offset s.bytes (segment_bytes ss) bytes in
      let within = ends file offset s.bytes body in
      let same = header_is file place offset s (omega (arith, within)) placed (first file place (header_of offset s) (headers_of (offset + length s.bytes) ss) headers) in
      let header = expected place offset s in
      let loaded : is_loaded header ≡ true = lt-ltb 0 s.memsz takes in
      let segment = segment_is file place offset s body in
      let rest = map (program_header file) (offsets (place + 32) 32 (length ss)) in
      let with : with_header file before header ≡ before ++ s ∷ [] = ap (λ b. if b then before ++ segment_of file header ∷ [] else before) loaded ∙ ap (λ (one : Segment). before ++ one ∷ []) segment in
      let memory = subst (λ (one : Segment). AllPass (memory_checks before one place)) (sym segment) (memory_passes before ss s place are) in
      let one : AllPass (one_header_checks file before header) = (refl, loaded_is (is_loaded header) (load_checks file before header) loaded (AllPass-both (range_checks file header) (memory_checks before (segment_of file header) place) (range_passes file place offset s takes placed body) memory)) in
      let later = each_passes (before ++ s ∷ []) ss (place + 32) (offset + length s.bytes) size (moved_on before ss s are) (headers_on place offset s ss headers) (second file offset s.bytes (segment_bytes ss) bytes) in
      let then_ = subst (λ (segments : List Segment). AllPass (each_header_checks file segments rest)) (sym with) later in
      subst (λ (h : ProgramHeader). AllPass (one_header_checks file before h ++ each_header_checks file (with_header file before h) rest)) (sym same)
      (AllPass-both (one_header_checks file before header) (each_header_checks file (with_header file before header) rest) one then_)

  pub loads_are : (segments : List Segment) (place offset : ℕ) → length file < 2 ^ 32 → All (λ s. 0 < s.memsz) segments → All IsPlaced segments
      → Stands file place (headers_of offset segments) → Stands file offset (segment_bytes segments)
      → loads file (map (program_header file) (offsets place 32 (length segments))) ≡ segments
  unfolding headers_of
  loads_are [] place offset size taking placed headers bytes = refl
  loads_are (s ∷ ss) place offset size taking placed headers bytes =
      let body = first file offset s.bytes (segment_bytes ss) bytes in
      let within = ends file offset s.bytes body in
      let same = header_is file place offset s (omega (arith, within)) (placed_is [] ss s placed) (first file place (header_of offset s) (headers_of (offset + length s.bytes) ss) headers) in
      let header = expected place offset s in
      let loaded : is_loaded header ≡ true = lt-ltb 0 s.memsz (takes_is [] ss s taking) in
      let rest = map (program_header file) (offsets (place + 32) 32 (length ss)) in
      let later = loads_are ss (place + 32) (offset + length s.bytes) size (λ k d within. taking (suc k) d (omega arith)) (λ k d within. placed (suc k) d (omega arith)) (headers_on place offset s ss headers) (second file offset s.bytes (segment_bytes ss) bytes) in
      ap (λ (h : ProgramHeader). loads file (h ∷ rest)) same
      ∙ ap (λ b. map (segment_of file) (cond b (header ∷ filter is_loaded rest) (filter is_loaded rest))) loaded
      ∙ ap (λ (one : Segment). one ∷ loads file rest) (segment_is file place offset s body)
      ∙ ap (λ (segments : List Segment). s ∷ segments) later
