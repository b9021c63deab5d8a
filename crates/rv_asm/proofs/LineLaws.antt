-- Lines, one after the other.
use Rattle.std.proofs.Common.{◌≡◌, ℕ, ◌+◌, ◌<◌, List, [], ◌∷◌, length, get_or, take, drop, cond, true, false, refl, sym, ap, ◌∙◌, arith}
use Rattle.std.specs.Prelude.{Some, None, ◌==◌}
use Rattle.std.specs.Str.Lines.{lines, lines_of_parts, strip_carriage_return}
use Rattle.std.specs.List.{slice_split, position_or_len, after_first}
use Rattle.std.proofs.lemmas.Bool.{false_from_ne_true, cond-false, eqb-true}
use Rattle.std.proofs.lemmas.List.Splits.{slice_split_first, slice_split_none}
use Rattle.std.proofs.lemmas.List.Elements.{All-from_get_or}
use Rattle.memchr.specs.Find.{IsFirstByte, is_byte}
use Rattle.asm_text.proofs.Finds.{found, before_found, after_found}
use Rattle.asm_text.proofs.Pieces.{some_part}

pub ended : (part : List ℕ) (parts : List (List ℕ)) → (parts ≡ [] → ⊥) → lines_of_parts (part ∷ parts) ≡ strip_carriage_return part ∷ lines_of_parts parts
ended part [] some = absurd (some refl)
ended part (next ∷ more) some = refl

pub more_lines : (source line after : List ℕ) (n : ℕ) → n < length source → IsFirstByte (is_byte 10) source (Some n)
    → line ≡ strip_carriage_return (take n source) → after ≡ drop (n + 1) source → lines source ≡ line ∷ lines after
more_lines source line after n within first line_is after_is =
    ap lines_of_parts (slice_split_first (λ b. b == 10) source 0 (omega (arith, found 10 source n first)))
    ∙ ended _ (slice_split (λ b. b == 10) (after_first (λ b. b == 10) source)) (some_part (λ b. b == 10) (after_first (λ b. b == 10) source))
    ∙ ap (λ (front : List ℕ). strip_carriage_return front ∷ lines (after_first (λ b. b == 10) source)) (sym (before_found 10 source n first))
    ∙ ap (λ (l : List ℕ). l ∷ lines (after_first (λ b. b == 10) source)) (sym line_is)
    ∙ ap (λ (rest : List ℕ). line ∷ lines rest) (sym (after_is ∙ after_found 10 source n first))

pub last_line : (source : List ℕ) → 0 < length source → IsFirstByte (is_byte 10) source None → lines source ≡ source ∷ lines []
last_line source some none =
    ap lines_of_parts (slice_split_none (λ b. b == 10) source (All-from_get_or (λ b. (b == 10) ≡ false) source 0
    (λ k lt. false_from_ne_true (get_or source k 0 == 10) (none k (omega arith) lt))))
    ∙ cond-false (length source == 0) [] (source ∷ []) (false_from_ne_true (length source == 0) (λ is. omega (arith, eqb-true (length source) 0 is)))
