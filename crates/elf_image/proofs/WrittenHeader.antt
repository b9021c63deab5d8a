-- The file header of a written file passes its checks.
use Rattle.std.specs.Prelude.{◌*◌, ◌^◌, nat_le, ◌==◌, bit_and}
use Rattle.std.proofs.Common.{◌≡◌, ℕ, ◌+◌, ◌<◌, ◌≤◌, true, List, [], ◌∷◌, ◌++◌, length, get_or, refl, ap, ◌∙◌, arith, eq-eqb, le-leb}
use Rattle.std.proofs.lemmas.Bool.{or_right}
use Rattle.elf_image.specs.Checks.{AllPass}
use Rattle.elf_image.specs.Header.{byte_at, e_type, e_machine, e_version, e_entry, e_phoff, e_shoff, e_flags, e_phentsize, e_phnum, e_shentsize, e_shnum, COMPRESSED, FLOAT_ABI, ident_checks, kind_checks, header_checks}
use Rattle.elf_image.specs.Written.{half, word, ident, halves, words, file_header}
use Rattle.elf_image.proofs.CheckLaws.{AllPass-both}
use Rattle.elf_image.proofs.Stands.{Stands, first, second, nth_word, nth_half, nth_byte}

-- the fields of the file header
pub record Fields (file : List ℕ) (entry sections phnum : ℕ) : Type 0 where
  pub ident : Stands file 0 ident
  pub e_type : e_type file ≡ 2
  pub e_machine : e_machine file ≡ 243
  pub e_version : e_version file ≡ 1
  pub e_entry : e_entry file ≡ entry
  pub e_phoff : e_phoff file ≡ 52
  pub e_shoff : e_shoff file ≡ sections
  pub e_flags : e_flags file ≡ 0
  pub e_phentsize : e_phentsize file ≡ 32
  pub e_phnum : e_phnum file ≡ phnum
  pub e_shentsize : e_shentsize file ≡ 40
  pub e_shnum : e_shnum file ≡ 3

pub fields_of : (file : List ℕ) (entry sections phnum : ℕ) → entry < 2 ^ 32 → sections < 2 ^ 32 → phnum < 2 ^ 16 → Stands file 0 (file_header entry sections phnum) → Fields file entry sections phnum
unfolding file_header half word
fields_of file entry sections phnum entry_fits sections_fit phnum_fits stands =
    let kinds : List ℕ = 2 ∷ 243 ∷ [] in
    let numbers : List ℕ = 1 ∷ entry ∷ 52 ∷ sections ∷ 0 ∷ [] in
    let sizes : List ℕ = 52 ∷ 32 ∷ phnum ∷ 40 ∷ 3 ∷ 0 ∷ [] in
    let to_numbers = first file 0 (ident ++ halves kinds ++ words numbers) (halves sizes) stands in
    let to_kinds = first file 0 (ident ++ halves kinds) (words numbers) to_numbers in
    let kinds_stand : Stands file 16 (halves kinds) = second file 0 ident (halves kinds) to_kinds in
    let numbers_stand : Stands file 20 (words numbers) = second file 0 (ident ++ halves kinds) (words numbers) to_numbers in
    let sizes_stand : Stands file 40 (halves sizes) = second file 0 (ident ++ halves kinds ++ words numbers) (halves sizes) stands in
    record {
      ident = first file 0 ident (halves kinds) to_kinds;
      e_type = nth_half file 16 kinds 0 (omega arith) (omega arith) kinds_stand;
      e_machine = nth_half file 16 kinds 1 (omega arith) (omega arith) kinds_stand;
      e_version = nth_word file 20 numbers 0 (omega arith) (omega arith) numbers_stand;
      e_entry = nth_word file 20 numbers 1 (omega arith) entry_fits numbers_stand;
      e_phoff = nth_word file 20 numbers 2 (omega arith) (omega arith) numbers_stand;
      e_shoff = nth_word file 20 numbers 3 (omega arith) sections_fit numbers_stand;
      e_flags = nth_word file 20 numbers 4 (omega arith) (omega arith) numbers_stand;
      e_phentsize = nth_half file 40 sizes 1 (omega arith) (omega arith) sizes_stand;
      e_phnum = nth_half file 40 sizes 2 (omega arith) phnum_fits sizes_stand;
      e_shentsize = nth_half file 40 sizes 3 (omega arith) (omega arith) sizes_stand;
      e_shnum = nth_half file 40 sizes 4 (omega arith) (omega arith) sizes_stand;
    }

module _ (file : List ℕ) (entry sections phnum : ℕ) (fields : Fields file entry sections phnum) where
  is_byte : (i b : ℕ) → i < 16 → get_or ident i 0 ≡ b → (byte_at file i == b) ≡ true
  is_byte i b within is =
      let at : i ≡ 0 + i = omega arith in
      eq-eqb (byte_at file i) b (ap (λ n. byte_at file n) at ∙ nth_byte file 0 ident i within fields.ident ∙ is)

  ident_passes : AllPass (ident_checks file)
  ident_passes = (
    is_byte 0 0x7F (omega arith) refl,
    (
      is_byte 1 0x45 (omega arith) refl,
      (is_byte 2 0x4C (omega arith) refl, (is_byte 3 0x46 (omega arith) refl, (is_byte 4 1 (omega arith) refl, (is_byte 5 1 (omega arith) refl, (is_byte 6 1 (omega arith) refl, tt))))),
    ),
  )

  kind_passes : 52 + 32 * phnum ≤ length file → AllPass (kind_checks file)
  kind_passes room =
      let size : e_phoff file + 32 * e_phnum file ≤ length file = rw (fields.e_phoff, fields.e_phnum) room in (
        eq-eqb (e_type file) 2 fields.e_type,
        (
          eq-eqb (e_machine file) 243 fields.e_machine,
          (
            eq-eqb (e_version file) 1 fields.e_version,
            (
              ap (λ flags. bit_and flags COMPRESSED == 0) fields.e_flags,
              (
                ap (λ flags. bit_and flags FLOAT_ABI == 0) fields.e_flags,
                (
                  or_right (e_phnum file == 0) (e_phentsize file == 32) (eq-eqb (e_phentsize file) 32 fields.e_phentsize),
                  (or_right (e_phnum file == 0) (nat_le (e_phoff file + 32 * e_phnum file) (length file)) (le-leb (e_phoff file + 32 * e_phnum file) (length file) size), tt),
                ),
              ),
            ),
          ),
        ),
      )

  pub header_passes : 52 ≤ length file → 52 + 32 * phnum ≤ length file → AllPass (header_checks file)
  header_passes some room = (le-leb 52 (length file) some, AllPass-both (ident_checks file) (kind_checks file) ident_passes (kind_passes room))
