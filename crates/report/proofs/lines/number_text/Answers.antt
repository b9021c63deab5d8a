use Rattle.report.proofs.PlainTexts.{plain_decimal}
use Rattle.report.proofs.lines.number_text.Goals as goal

pub returns-clause-plain : goal.returns-clause-plain
returns-clause-plain c = plain_decimal c.args.n c.ranges.n.fits
