-- `li` with a number in decimal digits.
use Rattle.std.proofs.Common.{◌≡◌, ℕ, zero, suc, ◌+◌, ◌-◌, ◌^◌, ◌<◌, true, false, not, List, [], ◌∷◌, ◌++◌, length, take, drop, map, refl, ap, ◌∙◌, arith}
use Rattle.std.specs.Prelude.{Some, Ok, codes, decimal, nat_le, ◌==◌}
use Rattle.std.specs.List.{All, prefix_len, suffix_len}
use Rattle.std.proofs.lemmas.Bool.{cond-true, cond-false, le-leb, false_from_ne_true, eqb-true}
use Rattle.std.proofs.lemmas.Bool.Decides.{nat_tests}
use Rattle.std.proofs.lemmas.List.{take_all}
use Rattle.std.proofs.lemmas.List.Sums.{prefix_len_is, suffix_len_is}
use Rattle.std.proofs.lemmas.List.Splits.{slice_split_at, slice_split_none}
use Rattle.std.proofs.lemmas.List.Elements.{All-cons, All-head, All-get_or, All-weaker, All-append}
use Rattle.asm_text.specs.declared.statement.Statement.TheVariants as statement
use Rattle.asm_text.specs.Bytes.{is_blank, is_digit, trimmed, without_front_blanks, without_end_blanks}
use Rattle.asm_text.specs.Lines.{without_comment, code_of, labels_within, labels_of, statement_within, statement_text}
use Rattle.asm_text.specs.Numbers.{number, number_of}
use Rattle.asm_text.specs.Names.{register_named, mnemonic_named, operation_named, immediate_named, load_named, store_named, branch_named, short_named}
use Rattle.asm_text.specs.Operands.{is_comma, pieces}
use Rattle.asm_text.specs.Statements.{ranged, loaded, load_immediate_statement, statement_for, statement_of}
use Rattle.asm_text.proofs.Decimals.{IsDecimal, decimal_is, number_is}

-- A byte that is no blank, no comma and does not end a line or begin a comment.
pub record IsPlain (b : ℕ) : Type 0 where
  pub no_blank : is_blank b ≡ false
  pub no_comma : is_comma b ≡ false
  pub no_comment : (b == 35) ≡ false

digit_plain : (b : ℕ) → is_digit b ≡ true → IsPlain b
digit_plain b is = record {
  no_blank = grind (arith, nat_tests);
  no_comma = grind (arith, nat_tests);
  no_comment = grind (arith, nat_tests);
}

pub decimal_plain : (n : ℕ) (ds : List ℕ) → IsDecimal n ds → All IsPlain ds
decimal_plain n ds is = All-weaker (λ b. is_digit b ≡ true) IsPlain digit_plain ds is.digits

-- ---- operands

no_front : (ds : List ℕ) → All IsPlain ds → prefix_len is_blank ds ≡ 0
no_front [] all = refl
no_front (d ∷ ds) all = cond-false (is_blank d) _ _ (All-head IsPlain d ds all).no_blank

no_end : (ds : List ℕ) → All IsPlain ds → suffix_len is_blank ds ≡ 0
no_end ds all =
    let is = suffix_len_is is_blank ds (length ds) 0 (omega arith)
    (λ k from below. absurd (omega arith))
    (λ some. (All-get_or IsPlain ds (length ds - 1) 0 (omega arith) all).no_blank) in
    omega (arith, is)

-- an operand behind one blank
behind_blank : (ds : List ℕ) → All IsPlain ds → trimmed (32 ∷ ds) ≡ ds
unfolding trimmed
behind_blank ds all =
    ap (λ n. without_end_blanks (drop (1 + n) (32 ∷ ds))) (no_front ds all)
    ∙ ap (λ n. take (length ds - n) ds) (no_end ds all)
    ∙ take_all (length ds - 0) ds (omega arith)

no_commas : (ds : List ℕ) → All IsPlain ds → All (λ b. is_comma b ≡ false) (32 ∷ ds)
no_commas ds all = All-cons (λ b. is_comma b ≡ false) 32 ds refl (All-weaker IsPlain (λ b. is_comma b ≡ false) (λ b is. is.no_comma) ds all)

two_pieces : (name ds : List ℕ) → All IsPlain name → All IsPlain ds → pieces ((32 ∷ name) ++ 44 ∷ 32 ∷ ds) ≡ name ∷ ds ∷ []
unfolding pieces
two_pieces name ds name_plain plain =
    ap (map trimmed) (slice_split_at is_comma (32 ∷ name) 44 (32 ∷ ds) (no_commas name name_plain) refl
    ∙ ap (λ parts. (32 ∷ name) ∷ parts) (slice_split_none is_comma (32 ∷ ds) (no_commas ds plain)))
    ∙ ap (λ piece. piece ∷ trimmed (32 ∷ ds) ∷ []) (behind_blank name name_plain)
    ∙ ap (λ piece. name ∷ piece ∷ []) (behind_blank ds plain)

-- ---- the statement

in_range : (n : ℕ) → n < 2 ^ 32 → ranged (2 ^ 31) (2 ^ 32 - 1) (number false n) ≡ Ok n
in_range n small = cond-true (nat_le n (2 ^ 32 - 1)) _ _ (le-leb n (2 ^ 32 - 1) (omega arith)) ∙ ap Ok (omega arith)

loads : (text : List ℕ) (rd n : ℕ) (name ds : List ℕ) → pieces text ≡ name ∷ ds ∷ [] → register_named name ≡ Some rd → number_of ds ≡ Some (number false n) → n < 2 ^ 32
    → load_immediate_statement text ≡ Ok (loaded rd n)
unfolding load_immediate_statement
loads text rd n name ds pieces_are named numbered small = rw (pieces_are, named, numbered, in_range n small) refl

some_text : (a : ℕ) (operands : List ℕ) → (length (a ∷ operands) == 0) ≡ false
some_text a operands = false_from_ne_true _ (λ is. absurd (let none = eqb-true (length (a ∷ operands)) 0 is in omega (arith, none)))

li_text : (operands : List ℕ) → statement_of (codes "li" ++ 32 ∷ operands) ≡ load_immediate_statement (32 ∷ operands)
unfolding statement_of statement_for mnemonic_named operation_named immediate_named load_named store_named branch_named short_named
li_text operands = cond-false (length (codes "li" ++ 32 ∷ operands) == 0) (Ok statement.Nothing) (load_immediate_statement (32 ∷ operands)) (some_text 108 (105 ∷ 32 ∷ operands))

-- `li` of a register and a number is the word put into the register
pub li_says : (rd n : ℕ) (name : List ℕ) → All IsPlain name → register_named name ≡ Some rd → n < 2 ^ 32
    → statement_of (codes "li " ++ (name ++ (codes ", " ++ decimal n))) ≡ Ok (loaded rd n)
li_says rd n name plain named small =
    let is = decimal_is n (omega arith) in
    li_text (name ++ 44 ∷ 32 ∷ decimal n)
    ∙ loads ((32 ∷ name) ++ 44 ∷ 32 ∷ decimal n) rd n name (decimal n) (two_pieces name (decimal n) plain (decimal_plain n (decimal n) is)) named (number_is n (decimal n) is small) small

-- ---- the line

-- the whole line, behind one blank
abbrev pub li_line : List ℕ → ℕ → List ℕ
li_line name n = codes " li " ++ (name ++ (codes ", " ++ decimal n))

bare : (line : List ℕ) → All (λ b. (b == 35) ≡ false) line → without_comment line ≡ line
bare line all =
    ap (λ n. take n line) (prefix_len_is (λ b. not (b == 35)) line (length line) 0 (omega arith)
    (λ k below. ap not (All-get_or (λ b. (b == 35) ≡ false) line k 0 below all)) (λ more. absurd (omega arith)))
    ∙ take_all (length line) line (omega arith)

abbrev NoComment : ℕ → Type 0
NoComment b = (b == 35) ≡ false

uncommented : (xs : List ℕ) → All IsPlain xs → All NoComment xs
uncommented xs all = All-weaker IsPlain NoComment (λ b is. is.no_comment) xs all

li_bare : (name : List ℕ) (n : ℕ) → All IsPlain name → n < 2 ^ 32 → All NoComment (li_line name n)
li_bare name n plain small =
    let is = decimal_is n (omega arith) in
    let digits = uncommented (decimal n) (decimal_plain n (decimal n) is) in
    let operands : All NoComment (name ++ 44 ∷ 32 ∷ decimal n) =
    All-append NoComment name (44 ∷ 32 ∷ decimal n) (uncommented name plain)
    (All-cons NoComment 44 (32 ∷ decimal n) refl (All-cons NoComment 32 (decimal n) refl digits)) in
    let text : List ℕ = name ++ 44 ∷ 32 ∷ decimal n in
    All-cons NoComment 32 (108 ∷ 105 ∷ 32 ∷ text) refl (All-cons NoComment 108 (105 ∷ 32 ∷ text) refl
    (All-cons NoComment 105 (32 ∷ text) refl (All-cons NoComment 32 text refl operands)))

li_code : (name : List ℕ) (n : ℕ) → All IsPlain name → n < 2 ^ 32 → code_of (li_line name n) ≡ codes "li " ++ (name ++ (codes ", " ++ decimal n))
li_code name n plain small = ap without_front_blanks (bare (li_line name n) (li_bare name n plain small))

no_label : (k : ℕ) (operands : List ℕ) → labels_within k (codes "li" ++ 32 ∷ operands) ≡ []
unfolding labels_within
no_label zero operands = refl
no_label (suc k) operands = refl

all_said : (k : ℕ) (operands : List ℕ) → statement_within k (codes "li" ++ 32 ∷ operands) ≡ codes "li" ++ 32 ∷ operands
unfolding statement_within
all_said zero operands = refl
all_said (suc k) operands = refl

-- it has no labels
pub li_labels : (name : List ℕ) (n : ℕ) → All IsPlain name → n < 2 ^ 32 → labels_of (li_line name n) ≡ []
li_labels name n plain small =
    ap (labels_within (length (li_line name n))) (li_code name n plain small) ∙ no_label (length (li_line name n)) (name ++ 44 ∷ 32 ∷ decimal n)

-- and it puts the number into the register
pub li_statement : (rd n : ℕ) (name : List ℕ) → All IsPlain name → register_named name ≡ Some rd → n < 2 ^ 32
    → statement_of (statement_text (li_line name n)) ≡ Ok (loaded rd n)
li_statement rd n name plain named small =
    ap statement_of (ap (statement_within (length (li_line name n))) (li_code name n plain small) ∙ all_said (length (li_line name n)) (name ++ 44 ∷ 32 ∷ decimal n))
    ∙ li_says rd n name plain named small
