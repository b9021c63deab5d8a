-- What a call that writes to an output adds to it.
use Rattle.std.specs.Prelude.{ℕ, List, Option, Result, Ok, Err}
use Rattle.outside.specs.Written.{Adds, AddsPrefix}

-- all of these bytes, or after a failure some of them, from the first on
abbrev pub Writes : {T E : Type 0}
    → Result T E → Option (List ℕ) → Option (List ℕ) → List ℕ → Type 0
Writes (Ok x) old new bytes = Adds old new bytes
Writes (Err e) old new bytes = AddsPrefix old new bytes
