-- The numbers that words stand for.
use Rattle.std.specs.Prelude.{ℕ, ◌+◌, ◌*◌, ◌&&◌, nat_lt, nat_le, nat_eq, List, [], ◌∷◌, length, drop, codes, Option, Some, None, if◌then◌else◌}
use Rattle.std.specs.Char.{digit_value}
use Rattle.std.specs.List.{starts_with}
use Rattle.std.specs.Option.{option_and_then}

-- the number of these hexadecimal digits after those of n, or None where one is no such digit
abbrev pub hex_from : ℕ → List ℕ → Option ℕ
hex_from n [] = Some n
hex_from n (c ∷ cs) =
    if nat_lt (digit_value c) 16 then hex_from (16 * n + digit_value c) cs else None

-- the number that one to eight digits stand for
abbrev pub hex_number : List ℕ → Option ℕ
hex_number digits =
    if nat_le 1 (length digits) && nat_le (length digits) 8 then hex_from 0 digits else None

-- the digits of a word, which may stand behind `0x`
abbrev pub hex_digits : List ℕ → List ℕ
hex_digits word = if starts_with nat_eq word (codes "0x") then drop 2 word else word

-- HEX: the number that a word stands for, in hexadecimal digits
abbrev pub hex_value : List ℕ → Option ℕ
hex_value word = hex_number (hex_digits word)

-- the number of these decimal digits after those of n, or None where one is no such digit
abbrev pub decimal_from : ℕ → List ℕ → Option ℕ
decimal_from n [] = Some n
decimal_from n (c ∷ cs) =
    if nat_lt (digit_value c) 10 then decimal_from (10 * n + digit_value c) cs else None

-- N: the number that one to 13 decimal digits stand for
abbrev pub decimal_value : List ℕ → Option ℕ
decimal_value word =
    if nat_le 1 (length word) && nat_le (length word) 13 then decimal_from 0 word else None

abbrev pub within : ℕ → ℕ → ℕ → Option ℕ
within low high n = if nat_le low n && nat_le n high then Some n else None

-- N from one number to another
abbrev pub number : ℕ → ℕ → List ℕ → Option ℕ
number low high word = option_and_then (within low high) (decimal_value word)
