-- Operands, one after the other.
use Rattle.std.proofs.Common.{◌≡◌, ℕ, Bool, ◌+◌, ◌<◌, List, [], ◌∷◌, length, get_or, take, drop, map, cond, true, false, refl, sym, ap, ◌∙◌, arith}
use Rattle.std.specs.Prelude.{Some, None, Err, ◌==◌}
use Rattle.asm_text.specs.declared.fault.AsmCause.TheVariants.{Operand}
use Rattle.std.specs.List.{slice_split, onto_first, position_or_len, before_first, after_first, prefix_len}
use Rattle.std.proofs.lemmas.List.Splits.{slice_split_first, slice_split_none}
use Rattle.std.proofs.lemmas.List.Elements.{All-from_get_or}
use Rattle.std.proofs.lemmas.Bool.{false_from_ne_true}
use Rattle.memchr.specs.Find.{IsFirstByte, is_byte}
use Rattle.asm_text.specs.Bytes.{trimmed}
use Rattle.asm_text.specs.Operands.{is_comma, pieces, one, two, three, last_of}
use Rattle.asm_text.proofs.Finds.{found, absent, before_found, after_found}

pub more_pieces : (text : List ℕ) (n : ℕ) → n < length text → IsFirstByte (is_byte 44) text (Some n)
    → pieces text ≡ trimmed (take n text) ∷ pieces (drop (n + 1) text)
unfolding pieces
more_pieces text n within first =
    let lt : position_or_len is_comma text < length text = omega (arith, found 44 text n first) in
    ap (map trimmed) (slice_split_first is_comma text 0 lt)
    ∙ ap (λ (front : List ℕ). trimmed front ∷ map trimmed (slice_split is_comma (after_first is_comma text))) (sym (before_found 44 text n first))
    ∙ ap (λ (back : List ℕ). trimmed (take n text) ∷ map trimmed (slice_split is_comma back)) (sym (after_found 44 text n first))

pub only_piece : (text : List ℕ) → IsFirstByte (is_byte 44) text None → pieces text ≡ trimmed text ∷ []
unfolding pieces
only_piece text none =
    ap (map trimmed) (slice_split_none is_comma text (All-from_get_or (λ b. is_comma b ≡ false) text 0
    (λ k lt. false_from_ne_true (get_or text k 0 == 44) (none k (omega arith) lt))))

-- there is an operand
onto_some : (x : ℕ) (parts : List (List ℕ)) → onto_first x parts ≡ [] → ⊥
onto_some x [] h = cc
onto_some x (part ∷ parts) h = cc

split_some : (b : Bool) (x : ℕ) (parts : List (List ℕ)) → cond b ([] ∷ parts) (onto_first x parts) ≡ [] → ⊥
split_some true x parts h = cc
split_some false x parts h = onto_some x parts h

pub some_part : (p : ℕ → Bool) (bs : List ℕ) → slice_split p bs ≡ [] → ⊥
some_part p [] is = cc
some_part p (b ∷ bs) is = split_some (p b) b (slice_split p bs) is

map_some : (parts : List (List ℕ)) → (parts ≡ [] → ⊥) → map trimmed parts ≡ [] → ⊥
map_some [] some h = some refl
map_some (part ∷ parts) some h = cc

pub some_piece : (text : List ℕ) → pieces text ≡ [] → ⊥
unfolding pieces
some_piece text is = map_some (slice_split is_comma text) (some_part is_comma text) is

-- an operand too many
not_one : (a : List ℕ) (ps : List (List ℕ)) → (ps ≡ [] → ⊥) → one (a ∷ ps) ≡ Err Operand
not_one a [] some = absurd (some refl)
not_one a (b ∷ more) some = refl

not_two : (a b : List ℕ) (ps : List (List ℕ)) → (ps ≡ [] → ⊥) → two (a ∷ b ∷ ps) ≡ Err Operand
not_two a b [] some = absurd (some refl)
not_two a b (c ∷ more) some = refl

not_three : (a b c : List ℕ) (ps : List (List ℕ)) → (ps ≡ [] → ⊥) → three (a ∷ b ∷ c ∷ ps) ≡ Err Operand
not_three a b c [] some = absurd (some refl)
not_three a b c (d ∷ more) some = refl

pub two_or_more : (text : List ℕ) (a : List ℕ) (rest : List ℕ) → pieces text ≡ a ∷ pieces rest → one (pieces text) ≡ Err Operand
two_or_more text a rest is = ap one is ∙ not_one a (pieces rest) (some_piece rest)

pub three_or_more : (text : List ℕ) (a : List ℕ) (rest : List ℕ) (b : List ℕ) (last : List ℕ) → pieces text ≡ a ∷ pieces rest → pieces rest ≡ b ∷ pieces last
    → two (pieces text) ≡ Err Operand
three_or_more text a rest b last is then = ap two (is ∙ ap (λ ps. a ∷ ps) then) ∙ not_two a b (pieces last) (some_piece last)

pub four_or_more : (text : List ℕ) (a : List ℕ) (rest : List ℕ) (b : List ℕ) (third : List ℕ) (c : List ℕ) (last : List ℕ)
    → pieces text ≡ a ∷ pieces rest → pieces rest ≡ b ∷ pieces third → pieces third ≡ c ∷ pieces last
    → three (pieces text) ≡ Err Operand
four_or_more text a rest b third c last is then also =
    ap three (is ∙ ap (λ ps. a ∷ ps) (then ∙ ap (λ ps. b ∷ ps) also)) ∙ not_three a b c (pieces last) (some_piece last)

-- the last operand is among those that are left
last_more : (a : List ℕ) (ps : List (List ℕ)) → (ps ≡ [] → ⊥) → last_of (a ∷ ps) ≡ last_of ps
last_more a [] some = absurd (some refl)
last_more a (b ∷ more) some = refl

pub last_left : (text : List ℕ) (a : List ℕ) (rest : List ℕ) → pieces text ≡ a ∷ pieces rest → last_of (pieces rest) ≡ last_of (pieces text)
last_left text a rest is = sym (ap last_of is ∙ last_more a (pieces rest) (some_piece rest))

pub last_here : (text : List ℕ) (a : List ℕ) → pieces text ≡ a ∷ [] → a ≡ last_of (pieces text)
last_here text a is = sym (ap last_of is)
