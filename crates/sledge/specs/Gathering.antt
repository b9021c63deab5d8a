-- What was written to a sink that gathers bytes before it hands them on.
use Rattle.std.specs.Prelude.{ℕ, List, ◌++◌, Option, Some, None}

-- what the other sink took, and then the bytes that are still to be handed on
abbrev pub with_pending : Option (List ℕ) → List ℕ → Option (List ℕ)
with_pending None bytes = None
with_pending (Some taken) bytes = Some (taken ++ bytes)
