-- Texts that stand in a field of a table of comma-separated values as they are, without quotes.
use Rattle.std.specs.Prelude.{◌≡◌, ℕ, ◌==◌, ◌||◌, Bool, false, List, All}

-- a comma, a quote, or what ends a line
abbrev pub is_special : ℕ → Bool
is_special b = (b == 44) || (b == 34) || (b == 13) || (b == 10)

abbrev pub IsPlain : List ℕ → Type 0
IsPlain text = All (λ b. is_special b ≡ false) text
