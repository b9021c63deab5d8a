-- What a table's writer writes of fields that need no quotes is the line of these fields.
use Rattle.std.proofs.Common.{◌≡◌, ℕ, ◌≤◌, Bool, true, false, cond, ◌||◌, List, [], ◌∷◌, ◌++◌, length, append-nil, refl, sym, ap, ◌∙◌, arith}
use Rattle.std.specs.Prelude.{◌==◌}
use Rattle.std.specs.List.{All, list_any, join_with_byte}
use Rattle.std.proofs.lemmas.List.Elements.{All-head, All-tail}
use Rattle.csv.specs.Quoting.{needs_byte}
use Rattle.csv.specs.Writing.{default_writer, needs_quotes, field_text, fields_text, is_blank, row_text, by_style, quoted}
use Rattle.csv.specs.declared.writer.QuoteStyle.TheVariants as style
use Rattle.analysers.specs.Plain.{is_special, IsPlain}
use Rattle.report.specs.Report.{line}

same_bits : (a b c d : Bool) → (a || b || c || d) ≡ false → (a || b || (c || d) || false || false) ≡ false
same_bits false false false false is = refl
same_bits false false false true is = absurd (cc)
same_bits false false true d is = absurd (cc)
same_bits false true c d is = absurd (cc)
same_bits true b c d is = absurd (cc)

plain_needs_none : (b : ℕ) → is_special b ≡ false → needs_byte default_writer b ≡ false
plain_needs_none b is = same_bits (b == 44) (b == 34) (b == 13) (b == 10) is

none_needed : (field : List ℕ) → IsPlain field → needs_quotes default_writer field ≡ false
none_needed [] plain = refl
none_needed (b ∷ field) plain =
    ap (λ (t : Bool). t || list_any (needs_byte default_writer) field)
    (plain_needs_none b (All-head (λ c. is_special c ≡ false) b field plain))
    ∙ none_needed field (All-tail (λ c. is_special c ≡ false) b field plain)

plain_field : (field : List ℕ) → IsPlain field → field_text default_writer field ≡ field
plain_field field plain =
    ap (λ (needs : Bool). cond (by_style style.Necessary needs) (quoted default_writer field) field)
    (none_needed field plain)

rest_text : (field : List ℕ) (fields : List (List ℕ)) → All IsPlain fields
    → field ++ fields_text default_writer fields ≡ join_with_byte 44 (field ∷ fields)
unfolding fields_text
rest_text field [] plain = append-nil field
rest_text field (next ∷ fields) plain =
    ap (λ (t : List ℕ). field ++ 44 ∷ (t ++ fields_text default_writer fields))
    (plain_field next (All-head IsPlain next fields plain))
    ∙ ap (λ (t : List ℕ). field ++ 44 ∷ t)
    (rest_text next fields (All-tail IsPlain next fields plain))

pub line_is : (fields : List (List ℕ)) → All IsPlain fields → 2 ≤ length fields
    → row_text default_writer fields ≡ line fields
unfolding line is_blank
line_is [] plain several = absurd (omega arith)
line_is (field ∷ []) plain several = absurd (omega arith)
line_is (field ∷ next ∷ fields) plain several =
    ap (λ (t : List ℕ). (t ++ fields_text default_writer (next ∷ fields)) ++ 10 ∷ [])
    (plain_field field (All-head IsPlain field (next ∷ fields) plain))
    ∙ ap (λ (t : List ℕ). t ++ 10 ∷ [])
    (rest_text field (next ∷ fields) (All-tail IsPlain field (next ∷ fields) plain))
