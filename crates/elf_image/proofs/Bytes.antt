-- Numbers that stand in bytes.
use Rattle.std.specs.Prelude.{◌^◌, ◌-◌, slice_range, zero, suc}
use Rattle.std.specs.List.{All}
use Rattle.std.proofs.Common.{ℕ, ◌+◌, ◌<◌, ◌≤◌, List, [], ◌∷◌, length, take, drop, get_or, ⊎_elim, arith}
use Rattle.std.proofs.lemmas.Bool.{cases_lt}
use Rattle.std.proofs.lemmas.List.{get_or-drop, get_or_past}
use Rattle.std.proofs.lemmas.List.Elements.{All-from_get_or}
use Rattle.elf_image.specs.Header.{word_at}

-- each number of a list is a byte, past its end too
abbrev pub AreBytes : List ℕ → Type 0
AreBytes xs = (i : ℕ) → get_or xs i 0 < 256

pub AreBytes-all : (xs : List ℕ) → All (λ b. b < 256) xs → AreBytes xs
AreBytes-all xs all i = ⊎_elim
    (λ (within : i < length xs). all i 0 within)
    (λ (past : length xs ≤ i). rw (get_or_past xs i 0 past) (omega arith))
    (cases_lt i (length xs))

pub All-bytes : (xs : List ℕ) → AreBytes xs → All (λ b. b < 256) xs
All-bytes xs are = All-from_get_or (λ b. b < 256) xs 0 (λ i within. are i)

pub AreBytes-take : (n : ℕ) (xs : List ℕ) → AreBytes xs → AreBytes (take n xs)
AreBytes-take zero xs are i = omega arith
AreBytes-take (suc n) [] are i = omega arith
AreBytes-take (suc n) (x ∷ xs) are zero = are 0
AreBytes-take (suc n) (x ∷ xs) are (suc i) = AreBytes-take n xs (λ k. are (suc k)) i

pub AreBytes-drop : (n : ℕ) (xs : List ℕ) → AreBytes xs → AreBytes (drop n xs)
AreBytes-drop n xs are i = rw (get_or-drop n xs i 0) (are (n + i))

pub AreBytes-range : (xs : List ℕ) (start end : ℕ) → AreBytes xs → AreBytes (slice_range xs start end)
AreBytes-range xs start end are = AreBytes-take (end - start) (drop start xs) (AreBytes-drop start xs are)

pub word-lt : (file : List ℕ) (offset : ℕ) → AreBytes file → word_at file offset < 2 ^ 32
unfolding word_at
word-lt file offset are =
    let bytes = AreBytes-range file offset (offset + 4) are in
    omega (arith, bytes 0, bytes 1, bytes 2, bytes 3)
