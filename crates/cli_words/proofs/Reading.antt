-- What one word adds to the parts of all words.
use Rattle.std.proofs.Common.{◌≡◌, ℕ, true, false, List, [], ◌∷◌, ◌++◌, Option, Some, None, Err, codes, refl, sym, ap, ◌∙◌, append_assoc, map, Bor}
use Rattle.std.specs.List.{before_first, after_first}
use Rattle.std.proofs.lemmas.List.{map-append}
use Rattle.std.specs.Str.{bytes_eq}
use Rattle.std.specs.Option.{option_map}
use Rattle.sl_base.specs.declared.refused.Refused.{Refused}
use Rattle.sl_base.specs.declared.refused.Refused.TheVariants.{Fault, Memory}
use Rattle.cli_words.specs.declared.usage.Usage.{Usage}
use Rattle.cli_words.specs.declared.parts.Setting.{Setting as GivenSetting}
use Rattle.cli_words.specs.Parts.{is_equals_sign, no_parts, Setting, Parts, Next, Any, ValueOf, PlainOnly, with_plain, with_setting, begins_with, has_value, setting_in, is_plain, parts_from}
use Rattle.cli_words.specs.Views.{setting_view, settings_view, parts_view, Gives, Reads, joined, all_parts}

abbrev pub plain_added : Parts → List ℕ → Parts
plain_added old word = record { plain = old.plain ++ word ∷ []; settings = old.settings }

abbrev pub setting_added : Parts → Setting → Parts
setting_added old setting = record { plain = old.plain; settings = old.settings ++ setting ∷ [] }

joined_plain : (old : Parts) (word : List ℕ) (parts : Option Parts) → option_map (joined old) (option_map (with_plain word) parts) ≡ option_map (joined (plain_added old word)) parts
joined_plain old word None = refl
joined_plain old word (Some parts) = ap (λ plain. Some (record { plain = plain; settings = old.settings ++ parts.settings })) (sym (append_assoc old.plain (word ∷ []) parts.plain))

joined_setting : (old : Parts) (setting : Setting) (parts : Option Parts) → option_map (joined old) (option_map (with_setting setting) parts) ≡ option_map (joined (setting_added old setting)) parts
joined_setting old setting None = refl
joined_setting old setting (Some parts) = ap (λ settings. Some (record { plain = old.plain ++ parts.plain; settings = settings })) (sym (append_assoc old.settings (setting ∷ []) parts.settings))

-- after `--`
pub after_all : (old : Parts) (word : List ℕ) (words : List (List ℕ)) → all_parts old PlainOnly (word ∷ words) ≡ all_parts (plain_added old word) PlainOnly words
after_all old word words = joined_plain old word (Some (record { plain = words; settings = [] }))

-- a value
pub value_refused : (name word : List ℕ) (words : List (List ℕ)) → begins_with (codes "-") word ≡ true → parts_from (ValueOf name) (word ∷ words) ≡ None
value_refused name word words dash = rw dash

pub value_read : (old : Parts) (name word : List ℕ) (words : List (List ℕ)) → begins_with (codes "-") word ≡ false → all_parts old (ValueOf name) (word ∷ words) ≡ all_parts (setting_added old (record { name = name; value = word })) Any words
value_read old name word words dash = rw dash (joined_setting old (record { name = name; value = word }) (parts_from Any words))

-- where none is awaited
pub end_of_options : (old : Parts) (word : List ℕ) (words : List (List ℕ)) → bytes_eq word (codes "--") ≡ true → all_parts old Any (word ∷ words) ≡ all_parts old PlainOnly words
end_of_options old word words end = rw end

pub option_read : (old : Parts) (word : List ℕ) (words : List (List ℕ)) → bytes_eq word (codes "--") ≡ false → begins_with (codes "--") word ≡ true → has_value word ≡ true → all_parts old Any (word ∷ words) ≡ all_parts (setting_added old (setting_in word)) Any words
option_read old word words end option has = rw (end, option, has) (joined_setting old (setting_in word) (parts_from Any words))

pub name_read : (old : Parts) (word : List ℕ) (words : List (List ℕ)) → bytes_eq word (codes "--") ≡ false → begins_with (codes "--") word ≡ true → has_value word ≡ false → all_parts old Any (word ∷ words) ≡ all_parts old (ValueOf word) words
name_read old word words end option has = rw (end, option, has) refl

pub plain_refused : (word : List ℕ) (words : List (List ℕ)) → bytes_eq word (codes "--") ≡ false → begins_with (codes "--") word ≡ false → is_plain word ≡ false → parts_from Any (word ∷ words) ≡ None
plain_refused word words end option plain = rw (end, option, plain) refl

pub plain_read : (old : Parts) (word : List ℕ) (words : List (List ℕ)) → bytes_eq word (codes "--") ≡ false → begins_with (codes "--") word ≡ false → is_plain word ≡ true → all_parts old Any (word ∷ words) ≡ all_parts (plain_added old word) Any words
plain_read old word words end option plain = rw (end, option, plain) (joined_plain old word (parts_from Any words))

-- ---- as the code keeps the parts

pub settings_pushed : (old new : List GivenSetting) (setting : GivenSetting) → new ≡ old ++ setting ∷ [] → settings_view new ≡ settings_view old ++ setting_view setting ∷ []
settings_pushed old new setting is = ap settings_view is ∙ map-append setting_view old (setting ∷ [])

pub plain_pushed : (old new : List (Bor (List ℕ))) (word : Bor (List ℕ)) → new ≡ old ++ word ∷ [] → map (λ (w : Bor (List ℕ)). w.now) new ≡ map (λ (w : Bor (List ℕ)). w.now) old ++ word.now ∷ []
plain_pushed old new word is = ap (map (λ (w : Bor (List ℕ)). w.now)) is ∙ map-append (λ (w : Bor (List ℕ)). w.now) old (word ∷ [])

pub same_setting : (word : List ℕ) (setting : GivenSetting) → setting.name.now ≡ before_first is_equals_sign word → setting.value.now ≡ after_first is_equals_sign word → setting_view setting ≡ setting_in word
same_setting word setting name value = ap (λ n. record { name = n; value = setting.value.now }) name ∙ ap (λ v. record { name = before_first is_equals_sign word; value = v }) value

joined_none : (parts : Option Parts) → option_map (joined no_parts) parts ≡ parts
joined_none None = refl
joined_none (Some parts) = refl

pub none_before : (front : Parts) (next : Next) (words : List (List ℕ)) → front.plain ≡ [] → front.settings ≡ [] → all_parts front next words ≡ parts_from next words
none_before front next words plain settings =
    ap (λ p. option_map (joined (record { plain = p; settings = front.settings })) (parts_from next words)) plain
    ∙ ap (λ s. option_map (joined (record { plain = []; settings = s })) (parts_from next words)) settings
    ∙ joined_none (parts_from next words)

-- where a word is refused, all are
pub stopped : (error : Refused Usage) (old new : Parts) (next : Next) (word : List ℕ) (words : List (List ℕ)) (all : Option Parts) → Reads old next word (Err error) new → all_parts old next (word ∷ words) ≡ all → Gives parts_view (Err error) all
stopped (Fault usage) old new next word words all reads is = sym is ∙ ap (option_map (joined old)) (reads words)
stopped Memory old new next word words all reads is = tt
