-- The first line of a source, by its bytes.
use Rattle.std.proofs.Common.{◌≡◌, ℕ, ◌+◌, ◌-◌, ◌<◌, List, [], ◌∷◌, ◌++◌, length, false, refl, ap, ◌∙◌, arith}
use Rattle.std.specs.Prelude.{◌==◌, slice_index}
use Rattle.std.specs.Str.Lines.{lines, lines_of_parts, strip_carriage_return}
use Rattle.std.specs.List.{All, slice_split}
use Rattle.std.proofs.lemmas.Bool.{cond-false}
use Rattle.std.proofs.lemmas.Bool.Decides.{nat_tests}
use Rattle.std.proofs.lemmas.List.Splits.{slice_split_at}
use Rattle.std.proofs.lemmas.List.Elements.{All-get_or, All-weaker}
use Rattle.asm_text.proofs.Pieces.{some_part}
use Rattle.rv_asm.proofs.LineLaws.{ended}

greater : (b c : ℕ) → c < b → (b == c) ≡ false
greater b c more = grind (arith, nat_tests)

unstripped : (line : List ℕ) → All (λ b. 13 < b) line → strip_carriage_return line ≡ line
unstripped [] all = refl
unstripped (b ∷ bs) all =
    cond-false (slice_index (b ∷ bs) (length (b ∷ bs) - 1) == 13) _ _ (greater _ 13 (All-get_or (λ c. 13 < c) (b ∷ bs) (length (b ∷ bs) - 1) 0 (omega arith) all))

-- some bytes that end no line, up to an LF
pub line_up_to : (line rest : List ℕ) → All (λ b. 13 < b) line → lines (line ++ 10 ∷ rest) ≡ line ∷ lines rest
line_up_to line rest all =
    ap lines_of_parts (slice_split_at (λ b. b == 10) line 10 rest (All-weaker (λ b. 13 < b) (λ b. (b == 10) ≡ false) (λ b more. greater b 10 (omega arith)) line all) refl)
    ∙ ended line (slice_split (λ b. b == 10) rest) (some_part (λ b. b == 10) rest)
    ∙ ap (λ (first : List ℕ). first ∷ lines rest) (unstripped line all)
