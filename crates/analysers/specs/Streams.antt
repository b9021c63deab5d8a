-- The analyses that are fed one record after the other.
use Rattle.std.specs.Prelude.{ℕ, ◌-◌, ◌==◌, ◌&&◌, not, nat_lt, Bool, true, false, List, [], ◌∷◌, ◌++◌, length, take, fold, Option, Some, None, if◌then◌else◌}
use Rattle.std.specs.Option.{option_or}
use Rattle.tracer_lang.specs.declared.record.Record.{Record}
use Rattle.analysers.specs.declared.row.Row.{Row}
use Rattle.analysers.specs.declared.row.Row.TheVariants.{Of}
use Rattle.analysers.specs.Words.{word_at, greater}

-- the rows that records give as they are fed, from a state on
abbrev pub told_along : {S : Type 0} → (S → Record → S) → (S → Record → List Row) → S
    → List Record → List Row
told_along after told s [] = []
told_along after told s (r ∷ rs) = told s r ++ told_along after told (after s r) rs

-- all the rows of a stream: those that the records give as they are fed, and those at the end
abbrev pub stream_rows : {S : Type 0} → S → (S → Record → S) → (S → Record → List Row)
    → (S → List Row) → List Record → List Row
stream_rows start after told rest rs = told_along after told start rs ++ rest (fold after start rs)

-- the record's row, where it is told
abbrev pub row_where : Bool → Record → List Row
row_where is_told r = if is_told then Of r ∷ [] else []

-- ---- changes=I: the state is the last word, where there is one

-- there is a word that is not the last one
abbrev pub differs : Option ℕ → Option ℕ → Bool
differs last None = false
differs None (Some word) = true
differs (Some last) (Some word) = not (word == last)

abbrev pub changed : ℕ → Option ℕ → Record → List Row
changed place last r = row_where (differs last (word_at place r)) r

abbrev pub last_word : ℕ → Option ℕ → Record → Option ℕ
last_word place last r = option_or (word_at place r) last

-- ---- rising=I: the state is the greatest word so far, where there is one

-- there is a word above the greatest one
abbrev pub is_above : Option ℕ → Option ℕ → Bool
is_above most None = false
is_above None (Some word) = true
is_above (Some most) (Some word) = nat_lt most word

abbrev pub risen : ℕ → Option ℕ → Record → List Row
risen place most r = row_where (is_above most (word_at place r)) r

abbrev pub greatest_word : ℕ → Option ℕ → Record → Option ℕ
greatest_word place most r = greater most (word_at place r)

-- ---- open=T:U: the state are the open records, oldest first

abbrev pub without_last : {X : Type 0} → List X → List X
without_last xs = take (length xs - 1) xs

-- a record of T opens, and any other of U closes the youngest one
abbrev pub open_after : ℕ → ℕ → List Record → Record → List Record
open_after opens closes kept r =
    if r.point == opens then kept ++ r ∷ []
    else if r.point == closes then without_last kept
    else kept

-- a record that would close, where none is open
abbrev pub is_unopened : ℕ → ℕ → List Record → Record → Bool
is_unopened opens closes kept r =
    not (r.point == opens) && (r.point == closes && not (nat_lt 0 (length kept)))

abbrev pub unopened : ℕ → ℕ → List Record → Record → List Row
unopened opens closes kept r = row_where (is_unopened opens closes kept r) r
