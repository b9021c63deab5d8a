-- The numbers that operands are, and the words that they stand for.
use Rattle.std.specs.Prelude.{ℕ, ◌+◌, ◌-◌, ◌*◌, ◌%◌, ◌^◌, ◌==◌, ◌&&◌, min, nat_lt, nat_le, Bool, false, true, List, [], ◌∷◌, length, drop, slice_index, Option, Some, None, if◌then◌else◌}
use Rattle.std.specs.Char.{digit_value}
use Rattle.std.specs.Option.{option_map}
use Rattle.asm_text.specs.declared.number.Number.{Number}

-- the number of these digits after those of n, or None where one is no digit of the base
abbrev pub digits_from : ℕ → ℕ → List ℕ → Option ℕ
digits_from base n [] = Some n
digits_from base n (c ∷ cs) =
    if nat_lt (digit_value c) base then digits_from base (base * n + digit_value c) cs else None

-- no place takes so great a number, and all greater ones count as this one
abbrev pub too_great : ℕ
too_great = 2 ^ 32

-- the number that one digit or more stand for
unfoldable pub magnitude : ℕ → List ℕ → Option ℕ
magnitude base digits =
    if length digits == 0 then None else option_map (min too_great) (digits_from base 0 digits)

abbrev pub number : Bool → ℕ → Number
number is_negative magnitude = record { is_negative = is_negative; magnitude = magnitude }

-- decimal digits, with `-` before or not, or hexadecimal ones behind `0x`
unfoldable pub number_of : List ℕ → Option Number
number_of bs =
    if slice_index bs 0 == 48 && slice_index bs 1 == 120
    then option_map (number false) (magnitude 16 (drop 2 bs))
    else if slice_index bs 0 == 45 then option_map (number true) (magnitude 10 (drop 1 bs))
    else option_map (number false) (magnitude 10 bs)

-- the number is from -low to high
abbrev pub is_within : ℕ → ℕ → Number → Bool
is_within low high n = nat_le n.magnitude (if n.is_negative then low else high)

-- an even offset that reaches less than so far, or just so far back
abbrev pub is_offset : ℕ → Number → Bool
is_offset reach n = is_within reach (reach - 2) n && n.magnitude % 2 == 0

-- the word of a number modulo 2^32, in two's complement
abbrev pub word_of : Number → ℕ
word_of n = if n.is_negative then (2 ^ 32 - n.magnitude % 2 ^ 32) % 2 ^ 32 else n.magnitude % 2 ^ 32
