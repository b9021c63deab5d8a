-- The texts of the report's fields stand in a table as they are.
use Rattle.std.proofs.Common.{◌≡◌, ℕ, ◌+◌, ◌*◌, ◌/◌, ◌%◌, ◌^◌, ◌<◌, ◌≤◌, Bool, true, false, cond, ltb, eqb, List, [], ◌∷◌, ◌++◌, length, map, inl, inr, refl, sym, ap, subst, ◌∙◌, arith}
use Rattle.std.specs.Prelude.{codes, decimal, Option, Some, None}
use Rattle.std.specs.Fmt.{digit_glyph}
use Rattle.std.specs.List.{All, join_with_byte}
use Rattle.std.proofs.lemmas.Bool.{cases_lt, cond_both}
use Rattle.std.proofs.lemmas.Fmt.{decimal_by_steps}
use Rattle.std.proofs.lemmas.List.Elements.{All-nil, All-cons, All-head, All-tail, All-map}
use Rattle.std.proofs.Math.Nat.{mod-lt}
use Rattle.sl_base.specs.Text.{hexadecimal_digit, word_text}
use Rattle.call_log.specs.declared.entry.End.{End}
use Rattle.call_log.specs.declared.entry.End.TheVariants as end
use Rattle.tracer_lang.specs.declared.record.TracerEnd.{TracerEnd}
use Rattle.tracer_lang.specs.declared.record.TracerEnd.TheVariants.{Done, OverBudget, TooDeep, LoadFault, StoreFault, TooManyStores, TooManyWords, Barred, User}
use Rattle.analysers.specs.Plain.{is_special, IsPlain}
use Rattle.analysers.proofs.Plain.{plain_above, plain-nil, plain-cons, plain-append, plain_literal}
use Rattle.report.specs.Report.{outcome_name, outcome_value, value_text, outcome_text, words_text, end_kind, register_text, register_texts}

-- ---- numbers

pub plain_decimal : (n : ℕ) → n < 2 ^ 64 → IsPlain (decimal n)
plain_decimal n fits =
    decimal_by_steps (λ k ds. IsPlain ds)
    (λ k less. plain-cons (48 + k) [] (plain_above (48 + k) (omega arith)) plain-nil)
    (λ k ds more plain. plain-append ds ((48 + k % 10) ∷ []) plain
    (plain-cons (48 + k % 10) [] (plain_above (48 + k % 10) (omega arith)) plain-nil)) n fits

plain_glyph : (d : ℕ) → is_special (digit_glyph false d) ≡ false
plain_glyph d =
    cond_both (ltb d 10) (48 + d) (87 + d) (λ b. is_special b ≡ false)
    (λ less. plain_above (48 + d) (omega arith)) (λ more. plain_above (87 + d) (omega arith))

plain_digits : (n : ℕ) (places : List ℕ) → IsPlain (map (hexadecimal_digit n) places)
plain_digits n [] = plain-nil
plain_digits n (place ∷ places) =
    plain-cons (hexadecimal_digit n place) (map (hexadecimal_digit n) places)
    (plain_glyph (n / 16 ^ place % 16)) (plain_digits n places)

pub plain_word : (n : ℕ) → IsPlain (word_text n)
plain_word n =
    plain-append (codes "0x") (map (hexadecimal_digit n) (7 ∷ 6 ∷ 5 ∷ 4 ∷ 3 ∷ 2 ∷ 1 ∷ 0 ∷ []))
    (plain_literal (codes "0x") refl)
    (plain_digits n (7 ∷ 6 ∷ 5 ∷ 4 ∷ 3 ∷ 2 ∷ 1 ∷ 0 ∷ []))

-- ---- names

plain_name : (outcome : TracerEnd) → IsPlain (outcome_name outcome)
plain_name Done = plain_literal (codes "Done") refl
plain_name OverBudget = plain_literal (codes "OverBudget") refl
plain_name TooDeep = plain_literal (codes "TooDeep") refl
plain_name (LoadFault address) = plain_literal (codes "LoadFault") refl
plain_name (StoreFault address) = plain_literal (codes "StoreFault") refl
plain_name TooManyStores = plain_literal (codes "TooManyStores") refl
plain_name TooManyWords = plain_literal (codes "TooManyWords") refl
plain_name (Barred number) = plain_literal (codes "Barred") refl
plain_name (User value) = plain_literal (codes "User") refl

plain_value : (value : Option ℕ) → IsPlain (value_text value)
plain_value None = plain-nil
plain_value (Some value) = plain-cons 32 (word_text value) refl (plain_word value)

pub plain_outcome : (outcome : TracerEnd) → IsPlain (outcome_text outcome)
plain_outcome outcome =
    plain-append (outcome_name outcome) (value_text (outcome_value outcome)) (plain_name outcome)
    (plain_value (outcome_value outcome))

pub plain_end : (e : End) → IsPlain (end_kind e)
plain_end (end.Exited code) = plain_literal (codes "exited") refl
plain_end (end.Trapped number) = plain_literal (codes "trapped") refl
plain_end end.Stopped = plain_literal (codes "stopped") refl

-- ---- texts with a space between two

plain_joined : (texts : List (List ℕ)) → All IsPlain texts → IsPlain (join_with_byte 32 texts)
plain_joined [] plain = plain-nil
plain_joined (text ∷ []) plain = All-head IsPlain text [] plain
plain_joined (text ∷ next ∷ texts) plain =
    plain-append text (32 ∷ join_with_byte 32 (next ∷ texts))
    (All-head IsPlain text (next ∷ texts) plain)
    (plain-cons 32 (join_with_byte 32 (next ∷ texts)) refl
    (plain_joined (next ∷ texts) (All-tail IsPlain text (next ∷ texts) plain)))

pub plain_words : (words : List ℕ) → IsPlain (words_text words)
plain_words words =
    plain_joined (map word_text words) (All-map IsPlain word_text words (λ k d less. plain_word _))

plain_register : (number value : ℕ) → number < 2 ^ 64 → IsPlain (register_text number value)
plain_register number value fits =
    let front = codes "x" ++ decimal number in
    plain-append (front ++ codes "=") (word_text value)
    (plain-append front (codes "=")
    (plain-append (codes "x") (decimal number) (plain_literal (codes "x") refl)
    (plain_decimal number fits)) (plain_literal (codes "=") refl))
    (plain_word value)

plain_texts : (number : ℕ) (values : List ℕ) → number + length values < 2 ^ 64
    → All IsPlain (register_texts number values)
plain_texts number [] fits = All-nil IsPlain
plain_texts number (value ∷ values) fits =
    let rest = plain_texts (number + 1) values (omega arith) in
    cond_both (eqb value 0) (register_texts (number + 1) values)
    (register_text number value ∷ register_texts (number + 1) values) (All IsPlain) (λ is. rest)
    (λ is. All-cons IsPlain (register_text number value) (register_texts (number + 1) values)
    (plain_register number value (omega arith)) rest)

pub plain_registers : (values : List ℕ) → length values < 2 ^ 64
    → IsPlain (join_with_byte 32 (register_texts 0 values))
plain_registers values fits =
    plain_joined (register_texts 0 values) (plain_texts 0 values (omega arith))

-- ---- seven fields

pub plain_seven : (a b c d e f g : List ℕ) → IsPlain a → IsPlain b → IsPlain c → IsPlain d
    → IsPlain e → IsPlain f → IsPlain g
    → All IsPlain (a ∷ b ∷ c ∷ d ∷ e ∷ f ∷ g ∷ [])
plain_seven a b c d e f g p q r s t u v =
    All-cons IsPlain a (b ∷ c ∷ d ∷ e ∷ f ∷ g ∷ []) p
    (All-cons IsPlain b (c ∷ d ∷ e ∷ f ∷ g ∷ []) q
    (All-cons IsPlain c (d ∷ e ∷ f ∷ g ∷ []) r
    (All-cons IsPlain d (e ∷ f ∷ g ∷ []) s
    (All-cons IsPlain e (f ∷ g ∷ []) t
    (All-cons IsPlain f (g ∷ []) u
    (All-cons IsPlain g [] v (All-nil IsPlain)))))))
