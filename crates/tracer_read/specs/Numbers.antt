-- Numbers of scripts.
use Rattle.std.specs.Prelude.{ℕ, ◌+◌, ◌-◌, ◌*◌, ◌%◌, ◌^◌, ◌==◌, ◌&&◌, ◌||◌, Bool, false, nat_lt, nat_le, nat_eq, List, [], ◌∷◌, length, drop, codes, Option, Some, None, if◌then◌else◌}
use Rattle.std.specs.Char.{digit_value}
use Rattle.std.specs.List.{starts_with}
use Rattle.std.specs.Option.{option_and_then}

abbrev pub is_digit : ℕ → Bool
is_digit c = nat_le 48 c && nat_le c 57

-- a token is a number where it begins with a digit, or with a minus sign and a digit; else it is a
-- word
abbrev pub is_number : List ℕ → Bool
is_number [] = false
is_number (c ∷ []) = is_digit c
is_number (c ∷ d ∷ cs) = is_digit c || c == 45 && is_digit d

-- the number of these digits of a base after those of n, or None where one is no such digit
abbrev pub number_from : ℕ → ℕ → List ℕ → Option ℕ
number_from base n [] = Some n
number_from base n (c ∷ cs) =
    if nat_lt (digit_value c) base then number_from base (base * n + digit_value c) cs else None

-- the number of at least one and at most so many digits of a base
abbrev pub digits_value : ℕ → ℕ → List ℕ → Option ℕ
digits_value base most digits =
    if nat_le 1 (length digits) && nat_le (length digits) most
    then number_from base 0 digits
    else None

abbrev pub hex_value : List ℕ → Option ℕ
hex_value digits = digits_value 16 8 digits

abbrev pub where_word : ℕ → Option ℕ
where_word n = if nat_lt n (2 ^ 32) then Some n else None

-- up to 2 ^ 32 - 1
abbrev pub decimal_value : List ℕ → Option ℕ
decimal_value digits = option_and_then where_word (digits_value 10 10 digits)

abbrev pub where_negative : ℕ → Option ℕ
where_negative n = if nat_le n (2 ^ 31) then Some ((2 ^ 32 - n) % 2 ^ 32) else None

-- down to -2 ^ 31, modulo 2 ^ 32
abbrev pub negative_value : List ℕ → Option ℕ
negative_value digits = option_and_then where_negative (digits_value 10 10 digits)

-- The value of a number: `0x` and one to eight hexadecimal digits, or one to ten decimal digits,
-- which a minus sign may precede. None where it is malformed.
abbrev pub number_value : List ℕ → Option ℕ
number_value word =
    if starts_with nat_eq word (codes "0x") then hex_value (drop 2 word)
    else if starts_with nat_eq word (codes "-") then negative_value (drop 1 word)
    else decimal_value word
