-- What the parts of the tree kinds say of records, in plain words.
use Rattle.std.specs.Prelude.{◌≡◌, ℕ, ◌%◌, ◌^◌, ◌≤◌, ◌==◌, List, [], All, Contains, filter_map, count_by, Option, Some, None, if◌then◌else◌}
use Rattle.tracer_lang.specs.declared.record.Record.{Record}
use Rattle.analysers.specs.declared.part.Bin.{Bin}
use Rattle.analysers.specs.Bins.{IsRising, count_at}
use Rattle.analysers.specs.Words.{word_at}

-- the words at a place, of the records that have one there
abbrev pub words_at : ℕ → List Record → List ℕ
words_at place rs = filter_map (word_at place) rs

-- one of the words, and none is below it; or there is no word
abbrev pub IsLeast : List ℕ → Option ℕ → Type 0
IsLeast words None = words ≡ []
IsLeast words (Some least) = Contains words least × All (λ word. least ≤ word) words

-- one of the words, and none is above it; or there is no word
abbrev pub IsGreatest : List ℕ → Option ℕ → Type 0
IsGreatest words None = words ≡ []
IsGreatest words (Some greatest) =
    Contains words greatest × All (λ word. word ≤ greatest) words

-- how many of the words are this one, modulo 2^64; None where none is
abbrev pub number_of : ℕ → List ℕ → Option ℕ
number_of value words =
    if count_by (λ word. value == word) words == 0 then None
    else Some (count_by (λ word. value == word) words % 2 ^ 64)

-- each word with the number of its records, rising
pub record IsHistogram (words : List ℕ) (bins : List Bin) : Type 0 where
  pub rising : IsRising bins
  pub numbers : (value : ℕ) → count_at bins value ≡ number_of value words
