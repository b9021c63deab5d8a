-- The program headers one after the other.
use Rattle.std.specs.Prelude.{◌*◌, filter, map, nat_le, ◌==◌}
use Rattle.std.specs.BTreeSet.{BTreeSet, IsEmpty}
use Rattle.std.proofs.Common.{◌≡◌, ℕ, ◌+◌, ◌<◌, ◌≤◌, Bool, true, false, cond, List, [], ◌∷◌, ◌++◌, length, None, refl, sym, ap, subst, ◌∙◌, ⊎_elim, arith, append_assoc}
use Rattle.std.proofs.lemmas.Bool.{or_cases, eqb-true, leb-true}
use Rattle.std.proofs.lemmas.List.{append-nil}
use Rattle.sl_base.specs.declared.refused.Refused.{Refused}
use Rattle.sl_base.specs.declared.refused.Refused.TheVariants as refused
use Rattle.elf_image.specs.declared.check.Check.{Check}
use Rattle.elf_image.specs.declared.headers.ProgramHeader.{ProgramHeader}
use Rattle.elf_image.specs.declared.fault.ImageFault.{ImageFault}
use Rattle.elf_image.specs.declared.image.Segment.{Segment}
use Rattle.elf_image.specs.Checks.{first_failing, Refuses}
use Rattle.elf_image.specs.Header.{e_phoff, e_phnum, header_checks, ident_checks, kind_checks}
use Rattle.elf_image.specs.Segments.{program_header, program_headers, is_loaded, segment_of, segments, with_header, one_header_checks, each_header_checks}
use Rattle.elf_image.specs.Ranges.{ArePages}
use Rattle.elf_image.proofs.Offsets.{offsets_from, offsets_from-more, offsets_from-none, offsets_from-all}
use Rattle.elf_image.proofs.CheckLaws.{first_failing-later, refuses_early, AllPass-append, all_pass}

-- ---- the headers that are left

abbrev pub headers_from : List ℕ → ℕ → List ProgramHeader
headers_from file i = map (program_header file) (offsets_from (e_phoff file) 32 (e_phnum file) i)

headers-more : (file : List ℕ) (i : ℕ) → i < e_phnum file → headers_from file i ≡ program_header file (e_phoff file + 32 * i) ∷ headers_from file (i + 1)
headers-more file i more = ap (map (program_header file)) (offsets_from-more (e_phoff file) 32 (e_phnum file) i more)

headers-none : (file : List ℕ) (i : ℕ) → e_phnum file ≤ i → headers_from file i ≡ []
headers-none file i end = ap (map (program_header file)) (offsets_from-none (e_phoff file) 32 (e_phnum file) i end)

headers-all : (file : List ℕ) → headers_from file 0 ≡ program_headers file
headers-all file = ap (map (program_header file)) (offsets_from-all (e_phoff file) 32 (e_phnum file))

-- ---- what the loop keeps

abbrev pub loads : List ℕ → List ProgramHeader → List Segment
loads file headers = map (segment_of file) (filter is_loaded headers)

-- the headers before the i-th passed, and these are their segments
pub record AreRead (file : List ℕ) (loaded : List Segment) (pages : BTreeSet ℕ) (i : ℕ) : Type 0 where
  pub checked : first_failing (each_header_checks file loaded (headers_from file i)) ≡ first_failing (each_header_checks file [] (program_headers file))
  pub all : loaded ++ loads file (headers_from file i) ≡ segments file
  pub met : ArePages pages loaded

pub none_read : (file : List ℕ) (pages : BTreeSet ℕ) → IsEmpty pages → AreRead file [] pages 0
none_read file pages empty = record {
  checked = ap (λ hs. first_failing (each_header_checks file [] hs)) (headers-all file);
  all = ap (loads file) (headers-all file);
  met = λ page. rw empty refl;
}

refuses_same : (e : Refused ImageFault) (xs ys : List Check) → first_failing xs ≡ first_failing ys → Refuses e xs → Refuses e ys
refuses_same refused.Memory xs ys same is = tt
refuses_same (refused.Fault fault) xs ys same is = sym same ∙ is

pub loads-more : (file : List ℕ) (loaded : List Segment) (header : ProgramHeader) (headers : List ProgramHeader) → loaded ++ loads file (header ∷ headers) ≡ with_header file loaded header ++ loads file headers
loads-more file loaded header headers = chosen (is_loaded header)
  where
    chosen : (b : Bool) → loaded ++ map (segment_of file) (cond b (header ∷ filter is_loaded headers) (filter is_loaded headers)) ≡ (cond b (loaded ++ segment_of file header ∷ []) loaded) ++ loads file headers
    chosen true = sym (append_assoc loaded (segment_of file header ∷ []) (loads file headers))
    chosen false = refl

module _ (file : List ℕ) (loaded : List Segment) (pages : BTreeSet ℕ) (i : ℕ) (are : AreRead file loaded pages i) where
  abbrev header : ProgramHeader
  header = program_header file (e_phoff file + 32 * i)

  pub one_more : (after : List Segment) (pages_after : BTreeSet ℕ) → i < e_phnum file → first_failing (one_header_checks file loaded header) ≡ None
      → after ≡ with_header file loaded header → ArePages pages_after after → AreRead file after pages_after (i + 1)
  unfolding each_header_checks
  one_more after pages_after more passes is are_pages = record {
    checked =
        ap (λ segments. first_failing (each_header_checks file segments (headers_from file (i + 1)))) is
        ∙ sym (first_failing-later (one_header_checks file loaded header) (each_header_checks file (with_header file loaded header) (headers_from file (i + 1))) passes)
        ∙ sym (ap (λ hs. first_failing (each_header_checks file loaded hs)) (headers-more file i more))
        ∙ are.checked;
    all =
        ap (λ segments. segments ++ loads file (headers_from file (i + 1))) is
        ∙ sym (loads-more file loaded header (headers_from file (i + 1)))
        ∙ sym (ap (λ hs. loaded ++ loads file hs) (headers-more file i more))
        ∙ are.all;
    met = are_pages;
  }

  pub stops : (e : Refused ImageFault) → i < e_phnum file → Refuses e (one_header_checks file loaded header) → Refuses e (each_header_checks file [] (program_headers file))
  unfolding each_header_checks
  stops e more refused = refuses_same e (each_header_checks file loaded (headers_from file i)) (each_header_checks file [] (program_headers file)) are.checked
      (subst (λ hs. Refuses e (each_header_checks file loaded hs)) (sym (headers-more file i more))
      (refuses_early e (one_header_checks file loaded header) (each_header_checks file (with_header file loaded header) (headers_from file (i + 1))) refused))

  pub all_passed : e_phnum file ≤ i → first_failing (each_header_checks file [] (program_headers file)) ≡ None
  unfolding each_header_checks
  all_passed end = sym are.checked ∙ ap (λ hs. first_failing (each_header_checks file loaded hs)) (headers-none file i end)

  pub all_read : e_phnum file ≤ i → loaded ≡ segments file
  all_read end = sym (append-nil loaded) ∙ sym (ap (λ hs. loaded ++ loads file hs) (headers-none file i end)) ∙ are.all

-- ---- the headers lie in the file

pub record HasHeaders (file : List ℕ) : Type 0 where
  pub header : 52 ≤ length file
  pub headers : 0 < e_phnum file → e_phoff file + 32 * e_phnum file ≤ length file

pub HasHeaders-checked : (file : List ℕ) → first_failing (header_checks file) ≡ None → HasHeaders file
HasHeaders-checked file none =
    let all = all_pass (header_checks file) none in
    let kinds = (AllPass-append (ident_checks file) (kind_checks file) all.1).1 in
    record {
      header = leb-true 52 (length file) all.0;
      headers = λ some. ⊎_elim
          (λ (is : (e_phnum file == 0) ≡ true).
          let zero_is : e_phnum file ≡ 0 = eqb-true (e_phnum file) 0 is in
          absurd (omega arith))
          (λ (is : nat_le (e_phoff file + 32 * e_phnum file) (length file) ≡ true). leb-true (e_phoff file + 32 * e_phnum file) (length file) is)
          (or_cases (e_phnum file == 0) (nat_le (e_phoff file + 32 * e_phnum file) (length file)) kinds.1.1.1.1.1.1.0);
    }
