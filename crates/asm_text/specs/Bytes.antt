-- The bytes of a source by what they may stand in, blanks and names.
use Rattle.std.specs.Prelude.{ℕ, ◌-◌, ◌==◌, ◌&&◌, ◌||◌, nat_lt, nat_le, Bool, List, length, take, drop, slice_index, if◌then◌else◌}
use Rattle.std.specs.List.{prefix_len, suffix_len}

-- space and tab
abbrev pub is_blank : ℕ → Bool
is_blank b = b == 32 || b == 9

abbrev pub is_digit : ℕ → Bool
is_digit b = nat_le 48 b && nat_le b 57

abbrev pub is_letter : ℕ → Bool
is_letter b = nat_le 97 b && nat_le b 122 || nat_le 65 b && nat_le b 90

-- a name begins with a letter, `_` or `.`, and goes on with these, digits and `$`
abbrev pub begins_name : ℕ → Bool
begins_name b = is_letter b || b == 95 || b == 46

abbrev pub is_name_byte : ℕ → Bool
is_name_byte b = begins_name b || is_digit b || b == 36

-- how many bytes the name at the front has, which may be none
abbrev pub name_len : List ℕ → ℕ
name_len bs = if begins_name (slice_index bs 0) then prefix_len is_name_byte bs else 0

-- the bytes are a name
abbrev pub is_name : List ℕ → Bool
is_name bs = nat_lt 0 (name_len bs) && name_len bs == length bs

-- less the blanks at the front, at the end, and at both ends
abbrev pub without_front_blanks : List ℕ → List ℕ
without_front_blanks bs = drop (prefix_len is_blank bs) bs

abbrev pub without_end_blanks : List ℕ → List ℕ
without_end_blanks bs = take (length bs - suffix_len is_blank bs) bs

unfoldable pub trimmed : List ℕ → List ℕ
trimmed bs = without_end_blanks (without_front_blanks bs)

-- nothing but blanks
abbrev pub is_all_blank : List ℕ → Bool
is_all_blank bs = prefix_len is_blank bs == length bs
