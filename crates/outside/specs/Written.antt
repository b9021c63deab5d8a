-- What was written, where it is told.
use Rattle.std.specs.Prelude.{ℕ, ◌≤◌, List, length, take, Option}
pub use Rattle.std.specs.Io.KnownBytes.{Appends as Adds}

-- some of these bytes were added, from the first on
abbrev pub AddsPrefix : Option (List ℕ) → Option (List ℕ) → List ℕ → Type 0
AddsPrefix old new bytes = (n : ℕ) × (n ≤ length bytes) × Adds old new (take n bytes)
