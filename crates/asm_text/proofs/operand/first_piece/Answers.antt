use Rattle.std.proofs.Common.{◌≡◌, sym, ◌∙◌, ap, ◌+◌, ◌-◌, ◌<◌, ◌∷◌, [], List, ℕ, length, take, drop, arith}
use Rattle.std.specs.Prelude.{Some}
use Rattle.std.proofs.lemmas.List.{take_rest}
use Rattle.memchr.specs.Find.{IsFirstByte, is_byte}
use Rattle.asm_text.specs.Bytes.{trimmed}
use Rattle.asm_text.specs.Operands.{pieces}
use Rattle.asm_text.proofs.Pieces.{more_pieces, only_piece}
use Rattle.asm_text.proofs.operand.first_piece.Goals as goal

more : (text piece : List ℕ) (n : ℕ) → n < length text → IsFirstByte (is_byte 44) text (Some n) → piece ≡ trimmed (take n text)
    → pieces text ≡ piece ∷ pieces (take (length text - (n + 1)) (drop (n + 1) text))
more text piece n within first same =
    more_pieces text n within first
    ∙ ap (λ (p : List ℕ). p ∷ pieces (drop (n + 1) text)) (sym same)
    ∙ ap (λ (rest : List ℕ). piece ∷ pieces rest) (sym (take_rest text (n + 1)))

pub returns-in-Some-clause-pieces : goal.returns-in-Some-clause-pieces
returns-in-Some-clause-pieces c = more _ _ _ (c.in-Some.ensures.0.high) c.in-Some.ensures c.trimmed.ensures

only : (text piece front : List ℕ) → piece ≡ front → pieces text ≡ front ∷ [] → pieces text ≡ piece ∷ []
only text piece front same is = is ∙ ap (λ (p : List ℕ). p ∷ []) (sym same)

pub returns-in-None-clause-pieces : goal.returns-in-None-clause-pieces
returns-in-None-clause-pieces c = only _ _ _ c.trimmed-in-None.ensures (only_piece _ c.in-None.ensures)

pub returns-in-None-clause-within : goal.returns-in-None-clause-within
returns-in-None-clause-within c = only _ _ _ c.trimmed-in-None.ensures (only_piece _ c.in-None.ensures)
