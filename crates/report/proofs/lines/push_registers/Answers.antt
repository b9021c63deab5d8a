use Rattle.std.proofs.Common.{◌<◌, length, get_or, refl, sym, ap, ◌∙◌, arith}
use Rattle.report.proofs.Registers.{told_some, same_texts}
use Rattle.report.proofs.lines.push_registers.Goals as goal
use Rattle.report.proofs.lines.push_registers.Goals.{then-value-ne0+in_ok-push_register, else-value-ne0}

pub loop-number-preserved : goal.loop-number-preserved
loop-number-preserved c =
    let i = c.loop-number.number in
    let xs = c.args.registers.now in
    let v = get_or xs i 0 in
    let lt : i < length xs = omega arith in
    let kept = c.loop-number.invariant in
    elim c.if-value-ne0.branch [
      | then-value-ne0+in_ok-push_register w ↦
          let both = told_some c.args.out.now.items c.loop-number.out.items w.push_register.new.out.items xs c.loop-number.is_first i v lt refl w.if-value-ne0.true kept.told kept.first w.in_ok-push_register.ensures in
          record { told = ap (λ o. o.items) w.out-is ∙ both.0; first = w.is_first-is ∙ sym both.1 }
      | else-value-ne0 w ↦
          let same = same_texts xs i v lt refl w.if-value-ne0.false in
          record { told = ap (λ o. o.items) w.out-is ∙ rw same kept.told; first = w.is_first-is ∙ rw same kept.first }
    ]
