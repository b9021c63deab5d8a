-- What differs in two lists, from one place on.
use Rattle.std.proofs.Common.{◌≡◌, ℕ, zero, suc, ◌+◌, ◌<◌, ◌≤◌, List, [], ◌∷◌, length, drop, get_or, None, refl, arith}
use Rattle.std.specs.Option.{option_or}
use Rattle.call_log.specs.Differences.{field_diff, fields_diff, bytes_diff}

pub fields_diff-at : (field : ℕ) (xs ys : List ℕ) (i d e : ℕ) → i < length xs → i < length ys → fields_diff field (drop i xs) (drop i ys) ≡ option_or (field_diff field (get_or xs i d) (get_or ys i e)) (fields_diff (field + 1) (drop (suc i) xs) (drop (suc i) ys))
fields_diff-at field [] ys i d e lt lt2 = absurd (omega arith)
fields_diff-at field (x ∷ xs) [] i d e lt lt2 = absurd (omega arith)
fields_diff-at field (x ∷ xs) (y ∷ ys) zero d e lt lt2 = refl
fields_diff-at field (x ∷ xs) (y ∷ ys) (suc i) d e lt lt2 = fields_diff-at field xs ys i d e (omega arith) (omega arith)

pub bytes_diff-at : (xs ys : List ℕ) (i d e : ℕ) → i < length xs → i < length ys → bytes_diff (drop i xs) (drop i ys) ≡ option_or (field_diff 9 (get_or xs i d) (get_or ys i e)) (bytes_diff (drop (suc i) xs) (drop (suc i) ys))
bytes_diff-at [] ys i d e lt lt2 = absurd (omega arith)
bytes_diff-at (x ∷ xs) [] i d e lt lt2 = absurd (omega arith)
bytes_diff-at (x ∷ xs) (y ∷ ys) zero d e lt lt2 = refl
bytes_diff-at (x ∷ xs) (y ∷ ys) (suc i) d e lt lt2 = bytes_diff-at xs ys i d e (omega arith) (omega arith)

-- past the shorter list nothing differs
pub bytes_diff-end : (xs ys : List ℕ) (i : ℕ) → (i < length xs → length ys ≤ i) → bytes_diff (drop i xs) (drop i ys) ≡ None
bytes_diff-end [] ys zero h = refl
bytes_diff-end [] ys (suc i) h = refl
bytes_diff-end (x ∷ xs) [] zero h = refl
bytes_diff-end (x ∷ xs) [] (suc i) h = elim (drop i xs) as (λ zs. bytes_diff zs [] ≡ None) [ [] ↦ refl | z ∷ zs ↦ refl ]
bytes_diff-end (x ∷ xs) (y ∷ ys) zero h = let none = h (omega arith) in absurd (omega (arith, none))
bytes_diff-end (x ∷ xs) (y ∷ ys) (suc i) h = bytes_diff-end xs ys i (λ lt. let le = h (omega (arith, lt)) in omega (arith, le))
