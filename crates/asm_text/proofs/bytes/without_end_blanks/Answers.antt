use Rattle.std.proofs.Common.{◌≡◌, ℕ, ◌+◌, ◌-◌, ◌<◌, ◌≤◌, List, length, take, get_or, true, false, sym, ap, refl, ◌∙◌, arith}
use Rattle.std.proofs.lemmas.List.Sums.{suffix_len_is}
use Rattle.asm_text.specs.Bytes.{is_blank, without_end_blanks}
use Rattle.asm_text.proofs.bytes.without_end_blanks.Goals as goal
use Rattle.asm_text.proofs.bytes.without_end_blanks.Goals.{then-loop-len-test+else-is_blank, else-loop-len-test}

-- where the blanks at the end begin
ends : (bs : List ℕ) (n : ℕ) → n ≤ length bs → ((k : ℕ) → n ≤ k → k < length bs → is_blank (get_or bs k 0) ≡ true)
    → (0 < n → is_blank (get_or bs (n - 1) 0) ≡ false) → take n bs ≡ without_end_blanks bs
ends bs n within blank stops =
    let count = suffix_len_is is_blank bs n 0 within blank stops in
    let left : n ≡ length bs - (length bs - n) = omega arith in
    ap (λ m. take m bs) (left ∙ ap (λ m. length bs - m) (sym count))

pub returns : goal.returns
returns c =
    elim c.loop-len-test.branch [
      | then-loop-len-test+else-is_blank w ↦ ends c.args.bytes.now c.loop-len.len c.loop-len.invariant.within c.loop-len.invariant.blank (λ some. sym w.is_blank.ensures ∙ w.if-is_blank.false)
      | else-loop-len-test w ↦ ends c.args.bytes.now c.loop-len.len c.loop-len.invariant.within c.loop-len.invariant.blank (λ some. absurd (omega arith))
    ]
