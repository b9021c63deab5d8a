-- The offsets of the entries of a table, from one on.
use Rattle.std.specs.Prelude.{◌*◌, ◌-◌, zero, suc}
use Rattle.std.proofs.Common.{◌≡◌, ℕ, ◌+◌, ◌<◌, ◌≤◌, List, [], ◌∷◌, ap, ◌∙◌, arith, add_assoc}
use Rattle.elf_image.specs.Segments.{offsets}

abbrev pub offsets_from : ℕ → ℕ → ℕ → ℕ → List ℕ
offsets_from start size n i = offsets (start + size * i) size (n - i)

mul_one_more : (size i : ℕ) → size * i + size ≡ size * (i + 1)
mul_one_more size i = grind arith

first_of : (start size n : ℕ) → 0 < n → offsets start size n ≡ start ∷ offsets (start + size) size (n - 1)
first_of start size zero some = absurd (omega arith)
first_of start size (suc n) some = let less : n ≡ suc n - 1 = omega arith in ap (λ m. start ∷ offsets (start + size) size m) less

pub offsets_from-more : (start size n i : ℕ) → i < n → offsets_from start size n i ≡ (start + size * i) ∷ offsets_from start size n (i + 1)
offsets_from-more start size n i more =
    let some : 0 < n - i = omega arith in
    let next : start + size * i + size ≡ start + size * (i + 1) = add_assoc start (size * i) size ∙ ap (λ m. start + m) (mul_one_more size i) in
    let less : n - i - 1 ≡ n - (i + 1) = omega arith in
    first_of (start + size * i) size (n - i) some
    ∙ ap (λ m. (start + size * i) ∷ offsets m size (n - i - 1)) next
    ∙ ap (λ m. (start + size * i) ∷ offsets (start + size * (i + 1)) size m) less

pub offsets_from-none : (start size n i : ℕ) → n ≤ i → offsets_from start size n i ≡ []
offsets_from-none start size n i le =
    let none : n - i ≡ 0 = omega arith in
    ap (λ m. offsets (start + size * i) size m) none

pub offsets_from-all : (start size n : ℕ) → offsets_from start size n 0 ≡ offsets start size n
offsets_from-all start size n =
    let at : start + size * 0 ≡ start = grind arith in
    let all : n - 0 ≡ n = omega arith in
    ap (λ m. offsets m size (n - 0)) at ∙ ap (λ m. offsets start size m) all
