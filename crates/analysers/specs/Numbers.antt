-- The numbers in the words of analyses.
use Rattle.std.specs.Prelude.{ℕ, ◌+◌, ◌*◌, ◌&&◌, nat_lt, nat_le, nat_eq, List, [], ◌∷◌, length, drop, codes, Option, Some, None, option_and_then, if◌then◌else◌}
use Rattle.std.specs.Char.{digit_value}
use Rattle.std.specs.List.{starts_with}

-- the number of these hexadecimal digits after those of n, or None where one is no such digit
abbrev pub hex_from : ℕ → List ℕ → Option ℕ
hex_from n [] = Some n
hex_from n (c ∷ cs) =
    if nat_lt (digit_value c) 16 then hex_from (16 * n + digit_value c) cs else None

-- the number that one to eight digits stand for
abbrev pub hex_number : List ℕ → Option ℕ
hex_number digits =
    if nat_le 1 (length digits) && nat_le (length digits) 8 then hex_from 0 digits else None

-- the digits of a text, which may stand behind `0x`
abbrev pub hex_digits : List ℕ → List ℕ
hex_digits text = if starts_with nat_eq text (codes "0x") then drop 2 text else text

-- the number that hexadecimal digits stand for
abbrev pub hex_value : List ℕ → Option ℕ
hex_value text = hex_number (hex_digits text)

-- the number of these decimal digits after those of n, or None where one is no such digit
abbrev pub decimal_from : ℕ → List ℕ → Option ℕ
decimal_from n [] = Some n
decimal_from n (c ∷ cs) =
    if nat_lt (digit_value c) 10 then decimal_from (10 * n + digit_value c) cs else None

abbrev pub up_to : ℕ → ℕ → Option ℕ
up_to limit n = if nat_le n limit then Some n else None

-- the number up to a limit that decimal digits stand for, at least one and at most so many
abbrev pub number : ℕ → ℕ → List ℕ → Option ℕ
number most_digits limit digits =
    if nat_le 1 (length digits) && nat_le (length digits) most_digits
    then option_and_then (up_to limit) (decimal_from 0 digits)
    else None
