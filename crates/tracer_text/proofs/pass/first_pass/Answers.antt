use Rattle.std.proofs.Common.{◌≤◌, length, ap, arith}
use Rattle.std.proofs.lemmas.List.{length-take}
use Rattle.std.proofs.lemmas.List.Elements.{All-weaker}
use Rattle.tracer_text.specs.declared.token.Token.{Token}
use Rattle.tracer_text.specs.Tokens.{IsWithin}
use Rattle.tracer_text.proofs.pass.first_pass.Goals as goal

pub tokens_of-requires : goal.tokens_of-requires
tokens_of-requires c = omega (arith, length-take 65537 c.args.text.now, ap length c.read_part-text.ensures)

pub first_fault-requires-clause-text : goal.first_fault-requires-clause-text
first_fault-requires-clause-text c = omega (arith, length-take 65537 c.args.text.now, ap length c.read_part-text.ensures)

pub returns-in-None-clause-within : goal.returns-in-None-clause-within
returns-in-None-clause-within c =
    let fewer : length c.read_part-text.result.now ≤ length c.args.text.now = omega (arith, length-take 65537 c.args.text.now, ap length c.read_part-text.ensures) in
    All-weaker (IsWithin (length c.read_part-text.result.now)) (IsWithin (length c.args.text.now))
    (λ (token : Token) within. (within.0, omega arith)) _ c.in_ok-tokens.ensures.within
