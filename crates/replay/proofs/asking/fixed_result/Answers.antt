use Rattle.std.proofs.Common.{sym, ap, ◌∙◌}
use Rattle.std.specs.Prelude.{Some}
use Rattle.rv_machine.specs.Machine.{state_of}
use Rattle.replay.proofs.Answered.{fixed_brk}
use Rattle.replay.proofs.asking.fixed_result.Goals as goal

pub returns-then-call-eq-BRK : goal.returns-then-call-eq-BRK
returns-then-call-eq-BRK c =
    let pages = c.args.f.now.pages in
    ap Some (c.brk_answer.ensures pages) ∙ sym (fixed_brk (state_of c.args.m.now pages) c.args.call.now (sym c.is_outside.ensures ∙ cc) cc)
