use Rattle.std.proofs.Common.{◌+◌}
use Rattle.std.proofs.lemmas.List.{take_rest}
use Rattle.rv_asm.proofs.LineLaws.{more_lines, last_line}
use Rattle.rv_asm.proofs.lines.first_line.Goals as goal

pub returns-in-Some-clause-lines : goal.returns-in-Some-clause-lines
returns-in-Some-clause-lines c = more_lines _ _ _ c.in-Some.end c.in-Some.ensures.0.high c.in-Some.ensures c.without_carriage_return.ensures.value (take_rest c.args.source.now (c.in-Some.end + 1))

pub returns-in-None-clause-lines : goal.returns-in-None-clause-lines
returns-in-None-clause-lines c = last_line _ c.requires c.in-None.ensures
