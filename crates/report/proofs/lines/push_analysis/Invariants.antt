use Rattle.std.proofs.Common.{◌≡◌, ◌++◌, take}
use Rattle.report.specs.Report.{analysis_lines}
use Rattle.report.specs.Table.{text_in, IsReady}
use Rattle.report.proofs.lines.push_analysis.Given as goal

abbrev pub invariant-loop-row : goal.invariant-loop-row
invariant-loop-row l = record {
  ready : IsReady l.out;
  text : text_in l.out ≡ text_in l.fn.out ++ analysis_lines l.position l.kind (take l.row-index l.rows);
}
