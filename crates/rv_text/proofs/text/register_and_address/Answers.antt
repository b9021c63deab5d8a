use Rattle.std.proofs.Common.{◌≡◌, ◌∙◌, string_bytes, append_assoc}
use Rattle.std.specs.Int.{w32}
use Rattle.std.proofs.lemmas.Int.{to_z-of_z}
use Rattle.std.proofs.lemmas.Result.{IfOk-weaker}
use Rattle.sl_model.specs.Arithmetic.{immediate_word}
use Rattle.rv_text.specs.Text.{two_operands, address, register_name}
use Rattle.rv_text.proofs.text.register_and_address.Goals as goal

pub returns : goal.returns
returns c =
    IfOk-weaker c.format.result _ (λ text. string_bytes text ≡ two_operands c.args.name.now (register_name c.args.a) (address (immediate_word c.args.offset) c.args.base))
    (λ text h. h ∙ rw (c.register-a.ensures, c.register-base.ensures, ← c.immediate-offset.ensures) (simp (append_assoc, to_z-of_z w32 c.immediate-offset.result (record { sfits = c.immediate-offset.type_inv })))) c.format.ensures.ok
