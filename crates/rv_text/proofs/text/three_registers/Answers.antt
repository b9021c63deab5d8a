use Rattle.std.proofs.Common.{◌≡◌, ◌∙◌, string_bytes, append_assoc}
use Rattle.std.proofs.lemmas.Result.{IfOk-weaker}
use Rattle.rv_text.specs.Text.{three_operands, register_name}
use Rattle.rv_text.proofs.text.three_registers.Goals as goal

pub returns : goal.returns
returns c =
    IfOk-weaker c.format.result _ (λ text. string_bytes text ≡ three_operands c.args.name.now (register_name c.args.a) (register_name c.args.b) (register_name c.args.c))
    (λ text h. h ∙ rw (c.register-a.ensures, c.register-b.ensures, c.register-c.ensures) (simp append_assoc)) c.format.ensures.ok
