use Rattle.std.proofs.Common.{◌≡◌, ◌∙◌, string_bytes, append_assoc}
use Rattle.std.proofs.lemmas.Int.{to_z-of_z}
use Rattle.std.proofs.lemmas.Result.{IfOk-weaker}
use Rattle.std.specs.Fmt.{signed_decimal}
use Rattle.rv_text.specs.Text.{two_operands, register_name}
use Rattle.rv_text.proofs.text.register_and_number.Goals as goal

pub returns : goal.returns
returns c =
    IfOk-weaker c.format.result _ (λ text. string_bytes text ≡ two_operands c.args.name.now (register_name c.args.a) (signed_decimal c.args.number))
    (λ text h. h ∙ rw c.register-a.ensures (simp (append_assoc, to_z-of_z _ _ c.ranges.number))) c.format.ensures.ok
