use Rattle.std.proofs.Common.{◌≡◌, ◌++◌, map}
use Rattle.analysers.specs.declared.row.Row.TheVariants.{Of}
use Rattle.analysers.proofs.open_records.OpenRecords.push_rows.Given as goal

abbrev pub invariant-loop-r : goal.invariant-loop-r
invariant-loop-r l = l.out.items ≡ l.fn.out.items ++ map Of l.yielded
