-- Words with the numbers of their records, rising.
use Rattle.std.specs.Prelude.{ℕ, ◌+◌, ◌%◌, ◌^◌, ◌<◌, ◌==◌, ⊤, nat_lt, List, [], ◌∷◌, fold, Option, Some, None, if◌then◌else◌}
use Rattle.analysers.specs.declared.part.Bin.{Bin}

-- every word is above this one
abbrev pub IsAbove : ℕ → List Bin → Type 0
IsAbove value [] = ⊤
IsAbove value (bin ∷ bins) = (value < bin.value) × IsAbove value bins

-- each word is above those before it
abbrev pub IsRising : List Bin → Type 0
IsRising [] = ⊤
IsRising (bin ∷ bins) = IsAbove bin.value bins × IsRising bins

-- each number is one of 64 bits
abbrev pub AreCounts : List Bin → Type 0
AreCounts [] = ⊤
AreCounts (bin ∷ bins) = (bin.count < 2 ^ 64) × AreCounts bins

-- two numbers together, modulo 2^64
abbrev pub added : ℕ → ℕ → ℕ
added m n = (m + n) % 2 ^ 64

-- one more bin: its number is added where its word stands, else it comes to its place
abbrev pub with_bin : List Bin → Bin → List Bin
with_bin [] new = new ∷ []
with_bin (bin ∷ bins) new =
    if new.value == bin.value
    then (record { value = bin.value; count = added bin.count new.count }) ∷ bins
    else if nat_lt new.value bin.value then new ∷ bin ∷ bins
    else bin ∷ with_bin bins new

-- the bins of both
abbrev pub join_bins : List Bin → List Bin → List Bin
join_bins left right = fold with_bin left right

-- the number that stands at a word, where the word stands
abbrev pub count_at : List Bin → ℕ → Option ℕ
count_at [] value = None
count_at (bin ∷ bins) value = if value == bin.value then Some bin.count else count_at bins value
