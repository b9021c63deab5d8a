use Rattle.std.proofs.Common.{sym, arith}
use Rattle.std.proofs.lemmas.List.{take_all, length-take-le}
use Rattle.tracer_text.proofs.pass.read_part.Goals as goal

pub slice_bounds-result-end : goal.slice_bounds-result-end
slice_bounds-result-end c = sym (length-take-le 65537 c.args.text.now (omega arith))

pub returns-else-text-gt-MOST_READ : goal.returns-else-text-gt-MOST_READ
returns-else-text-gt-MOST_READ c = sym (take_all 65537 c.args.text.now (omega arith))
