-- Numbers as text. In decimal digits a number is what std's `decimal` says.
use Rattle.std.specs.Prelude.{ℕ, ◌/◌, ◌%◌, ◌^◌, false, List, [], ◌∷◌, ◌++◌, map, codes}
use Rattle.std.specs.Fmt.{digit_glyph}

-- the hexadecimal digit at a place, counted from the lowest
abbrev pub hexadecimal_digit : ℕ → ℕ → ℕ
hexadecimal_digit n place = digit_glyph false (n / 16 ^ place % 16)

-- a word of 32 bits: `0x` and eight lower-case hexadecimal digits
abbrev pub word_text : ℕ → List ℕ
word_text n = codes "0x" ++ map (hexadecimal_digit n) (7 ∷ 6 ∷ 5 ∷ 4 ∷ 3 ∷ 2 ∷ 1 ∷ 0 ∷ [])
