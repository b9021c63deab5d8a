use Rattle.report.proofs.Tables.{reports_are_tables}
use Rattle.report.proofs.laws.reports_are_tables.Goals as goal

pub returns : goal.returns
returns c = reports_are_tables
