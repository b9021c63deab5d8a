-- Counts of faults: how often something outside the program has failed. Such a count never falls,
-- and stands still at the end of a u64.
use Rattle.std.specs.Prelude.{◌≡◌, ℕ, ◌+◌, ◌-◌, ◌^◌, ◌≤◌, Bool, min, if◌then◌else◌}

-- the count is greater than before, or stands at its end
abbrev pub Rose : ℕ → ℕ → Type 0
Rose before now = min (before + 1) (2 ^ 64 - 1) ≤ now

-- the count rises by one for a fault, and else stays
abbrev pub Counts : Bool → ℕ → ℕ → Type 0
Counts is_fault before now = now ≡ (if is_fault then min (before + 1) (2 ^ 64 - 1) else before)
