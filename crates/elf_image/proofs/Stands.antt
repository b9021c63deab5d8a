-- A part that stands in a file, and what is read of it.
use Rattle.std.specs.Prelude.{◌-◌, ◌*◌, ◌^◌, slice_range, zero, suc}
use Rattle.std.specs.Int.{w16, w32, from_le_bytes}
use Rattle.std.proofs.Common.{◌≡◌, ℕ, ◌+◌, ◌<◌, ◌≤◌, List, [], ◌∷◌, ◌++◌, length, take, drop, get_or, refl, sym, ap, subst, ◌∙◌, arith, append_assoc, length-append}
use Rattle.std.proofs.lemmas.List.{append-nil}
use Rattle.std.proofs.lemmas.Nat.{from_le_bytes-to_le_bytes_2, from_le_bytes-to_le_bytes_4}
use Rattle.std.proofs.Math.Seq.{drop-append_seam, take-append_seam}
use Rattle.elf_image.specs.Header.{byte_at, half_at, word_at}
use Rattle.elf_image.specs.Written.{half, word, halves, words}
use Rattle.elf_image.proofs.WrittenLengths.{length-half, length-word}

-- the part stands in the file at the offset
pub record Stands (file : List ℕ) (offset : ℕ) (part : List ℕ) : Type 0 where
  pub before : List ℕ
  pub after : List ℕ
  pub is : file ≡ before ++ (part ++ after)
  pub at : length before ≡ offset

pub whole : (file : List ℕ) → Stands file 0 file
whole file = record { before = []; after = []; is = sym (append-nil file); at = refl }

pub moved : (file : List ℕ) (a b : ℕ) (part : List ℕ) → a ≡ b → Stands file a part → Stands file b part
moved file a b part same stands = subst (λ (offset : ℕ). Stands file offset part) same stands

word_back : (n : ℕ) → n < 2 ^ 32 → from_le_bytes w32 (word n) ≡ n
unfolding word
word_back n fits = from_le_bytes-to_le_bytes_4 n fits

half_back : (n : ℕ) → n < 2 ^ 16 → from_le_bytes w16 (half n) ≡ n
unfolding half
half_back n fits = from_le_bytes-to_le_bytes_2 n fits

module _ (file : List ℕ) (offset : ℕ) where
  pub first : (xs ys : List ℕ) → Stands file offset (xs ++ ys) → Stands file offset xs
  first xs ys stands = record {
    before = stands.before;
    after = ys ++ stands.after;
    is = stands.is ∙ ap (λ rest. stands.before ++ rest) (append_assoc xs ys stands.after);
    at = stands.at;
  }

  pub second : (xs ys : List ℕ) → Stands file offset (xs ++ ys) → Stands file (offset + length xs) ys
  second xs ys stands = record {
    before = stands.before ++ xs;
    after = stands.after;
    is = stands.is ∙ ap (λ rest. stands.before ++ rest) (append_assoc xs ys stands.after) ∙ sym (append_assoc stands.before xs (ys ++ stands.after));
    at = length-append stands.before xs ∙ ap (λ n. n + length xs) stands.at;
  }

  pub ends : (part : List ℕ) → Stands file offset part → offset + length part ≤ length file
  ends part stands =
      let all : length file ≡ length stands.before + length (part ++ stands.after) = ap length stands.is ∙ length-append stands.before (part ++ stands.after) in
      let rest = length-append part stands.after in
      let at = stands.at in
      omega (arith, all, rest, at)

  dropped : (part : List ℕ) (stands : Stands file offset part) → drop offset file ≡ part ++ stands.after
  dropped part stands =
      ap (λ n. drop n file) (sym stands.at)
      ∙ ap (λ f. drop (length stands.before) f) stands.is
      ∙ drop-append_seam stands.before (part ++ stands.after)

  pub range_is : (part : List ℕ) → Stands file offset part → slice_range file offset (offset + length part) ≡ part
  range_is part stands =
      let size : offset + length part - offset ≡ length part = omega arith in
      ap (λ n. take n (drop offset file)) size
      ∙ ap (take (length part)) (dropped part stands)
      ∙ take-append_seam part stands.after

  pub word_is : (n : ℕ) → n < 2 ^ 32 → Stands file offset (word n) → word_at file offset ≡ n
  unfolding word_at
  word_is n fits stands =
      ap (λ (size : ℕ). from_le_bytes w32 (slice_range file offset (offset + size))) (sym (length-word n))
      ∙ ap (λ (bytes : List ℕ). from_le_bytes w32 bytes) (range_is (word n) stands)
      ∙ word_back n fits

  pub half_is : (n : ℕ) → n < 2 ^ 16 → Stands file offset (half n) → half_at file offset ≡ n
  unfolding half_at
  half_is n fits stands =
      ap (λ (size : ℕ). from_le_bytes w16 (slice_range file offset (offset + size))) (sym (length-half n))
      ∙ ap (λ (bytes : List ℕ). from_le_bytes w16 bytes) (range_is (half n) stands)
      ∙ half_back n fits

at_seam : (before after : List ℕ) (b : ℕ) → get_or (before ++ (b ∷ after)) (length before) 0 ≡ b
at_seam [] after b = refl
at_seam (x ∷ before) after b = at_seam before after b

pub byte_is : (file : List ℕ) (offset b : ℕ) (bs : List ℕ) → Stands file offset (b ∷ bs) → byte_at file offset ≡ b
byte_is file offset b bs stands =
    ap (λ n. get_or file n 0) (sym stands.at)
    ∙ ap (λ f. get_or f (length stands.before) 0) stands.is
    ∙ at_seam stands.before (bs ++ stands.after) b

-- ---- numbers in a row

pub nth_word : (file : List ℕ) (offset : ℕ) (ns : List ℕ) (i : ℕ) → i < length ns → get_or ns i 0 < 2 ^ 32 → Stands file offset (words ns) → word_at file (offset + 4 * i) ≡ get_or ns i 0
nth_word file offset [] i within fits stands = absurd (omega arith)
nth_word file offset (n ∷ ns) zero within fits stands =
    let at : offset + 4 * 0 ≡ offset = omega arith in
    ap (λ o. word_at file o) at ∙ word_is file offset n fits (first file offset (word n) (words ns) stands)
nth_word file offset (n ∷ ns) (suc i) within fits stands =
    let four = length-word n in
    let at : offset + 4 * suc i ≡ offset + length (word n) + 4 * i = omega (arith, four) in
    ap (λ o. word_at file o) at ∙ nth_word file (offset + length (word n)) ns i (omega arith) fits (second file offset (word n) (words ns) stands)

pub nth_half : (file : List ℕ) (offset : ℕ) (ns : List ℕ) (i : ℕ) → i < length ns → get_or ns i 0 < 2 ^ 16 → Stands file offset (halves ns) → half_at file (offset + 2 * i) ≡ get_or ns i 0
nth_half file offset [] i within fits stands = absurd (omega arith)
nth_half file offset (n ∷ ns) zero within fits stands =
    let at : offset + 2 * 0 ≡ offset = omega arith in
    ap (λ o. half_at file o) at ∙ half_is file offset n fits (first file offset (half n) (halves ns) stands)
nth_half file offset (n ∷ ns) (suc i) within fits stands =
    let two = length-half n in
    let at : offset + 2 * suc i ≡ offset + length (half n) + 2 * i = omega (arith, two) in
    ap (λ o. half_at file o) at ∙ nth_half file (offset + length (half n)) ns i (omega arith) fits (second file offset (half n) (halves ns) stands)

pub nth_byte : (file : List ℕ) (offset : ℕ) (bs : List ℕ) (i : ℕ) → i < length bs → Stands file offset bs → byte_at file (offset + i) ≡ get_or bs i 0
nth_byte file offset [] i within stands = absurd (omega arith)
nth_byte file offset (b ∷ bs) zero within stands =
    let at : offset + 0 ≡ offset = omega arith in
    ap (λ o. byte_at file o) at ∙ byte_is file offset b bs stands
nth_byte file offset (b ∷ bs) (suc i) within stands =
    let at : offset + suc i ≡ offset + 1 + i = omega arith in
    ap (λ o. byte_at file o) at ∙ nth_byte file (offset + 1) bs i (omega arith) (second file offset (b ∷ []) bs stands)
