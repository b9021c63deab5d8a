use Rattle.std.proofs.Common.{◌≡◌, ◌+◌, ◌++◌, drop}
use Rattle.report.specs.Report.{analyses_lines}
use Rattle.report.specs.Table.{text_in, IsReady}
use Rattle.report.proofs.text.push_analyses.Given as goal

-- the lines so far and those of the analyses that are left are all the lines
abbrev pub invariant-loop-i : goal.invariant-loop-i
invariant-loop-i l = record {
  ready : IsReady l.out;
  text : text_in l.out ++ analyses_lines (l.i + 1) (drop l.i l.kinds) (drop l.i l.all)
      ≡ text_in l.fn.out ++ analyses_lines 1 l.kinds l.all;
}
