-- What the words of a command are: plain words, and options with their values.
use Rattle.std.specs.Prelude.{ℕ, ◌==◌, ◌&&◌, ◌||◌, not, Bool, true, nat_lt, nat_le, nat_eq, List, [], ◌∷◌, length, codes, Option, Some, None, if◌then◌else◌}
use Rattle.std.specs.List.{starts_with, position_or_len, before_first, after_first, list_any, list_all}
use Rattle.std.specs.Str.{bytes_eq}
use Rattle.std.specs.Option.{option_map, option_and_then}

-- an option: its name, with both dashes, and its value
pub record Setting : Type 0 where
  pub name : List ℕ
  pub value : List ℕ

-- the plain words and the options, each in the order of the words
pub record Parts : Type 0 where
  pub plain : List (List ℕ)
  pub settings : List Setting

abbrev pub no_parts : Parts
no_parts = record { plain = []; settings = [] }

abbrev pub with_plain : List ℕ → Parts → Parts
with_plain word parts = record { plain = word ∷ parts.plain; settings = parts.settings }

abbrev pub with_setting : Setting → Parts → Parts
with_setting setting parts = record { plain = parts.plain; settings = setting ∷ parts.settings }

-- ---- one word

abbrev pub begins_with : List ℕ → List ℕ → Bool
begins_with front word = starts_with nat_eq word front

abbrev pub is_equals_sign : ℕ → Bool
is_equals_sign c = c == 61

abbrev pub has_value : List ℕ → Bool
has_value word = nat_lt (position_or_len is_equals_sign word) (length word)

-- an option that stands in one word with its value, behind the first `=`
abbrev pub setting_in : List ℕ → Setting
setting_in word =
    record { name = before_first is_equals_sign word; value = after_first is_equals_sign word }

-- a word that is no option: it is empty, begins with another character than `-`, or is `-` alone
abbrev pub is_plain : List ℕ → Bool
is_plain word = not (begins_with (codes "-") word) || nat_le (length word) 1

-- ---- all words

-- what the next word may be: a plain word, an option or `--`; the value of the option of this
-- name; or, after `--`, any word as a plain one
pub data Next : Type 0 where
  Any : Next
  ValueOf : (name : List ℕ) → Next
  PlainOnly : Next

-- the parts of these words, or None where one is refused or a value is missing
abbrev pub parts_from : Next → List (List ℕ) → Option Parts
parts_from PlainOnly words = Some (record { plain = words; settings = [] })
parts_from (ValueOf name) [] = None
parts_from (ValueOf name) (word ∷ words) =
    if begins_with (codes "-") word then None
    else option_map (with_setting (record { name = name; value = word })) (parts_from Any words)
parts_from Any [] = Some no_parts
parts_from Any (word ∷ words) =
    if bytes_eq word (codes "--") then parts_from PlainOnly words
    else if begins_with (codes "--") word && has_value word
    then option_map (with_setting (setting_in word)) (parts_from Any words)
    else if begins_with (codes "--") word then parts_from (ValueOf word) words
    else if is_plain word then option_map (with_plain word) (parts_from Any words)
    else None

-- ---- all options

-- one of these options has this name
abbrev pub is_named : List ℕ → List Setting → Bool
is_named name settings = list_any (λ other. bytes_eq other.name name) settings

-- the options that may stand more than once
abbrev pub is_repeatable : List ℕ → Bool
is_repeatable name = bytes_eq name (codes "--analyse") || bytes_eq name (codes "--arg")

-- no option stands twice but those
abbrev pub stand_once : List Setting → Bool
stand_once [] = true
stand_once (setting ∷ settings) =
    (is_repeatable setting.name || not (is_named setting.name settings)) && stand_once settings

-- no value is empty but those of `--arg`
abbrev pub has_text : Setting → Bool
has_text setting = bytes_eq setting.name (codes "--arg") || nat_lt 0 (length setting.value)

abbrev pub are_sound : List Setting → Bool
are_sound settings = stand_once settings && list_all has_text settings

abbrev pub where_sound : Parts → Option Parts
where_sound parts = if are_sound parts.settings then Some parts else None

-- the plain words and the options, where the general rules hold
abbrev pub parts_of : List (List ℕ) → Option Parts
parts_of words = option_and_then where_sound (parts_from Any words)
