use Rattle.std.proofs.Common.{◌≡◌, ◌++◌, map, drop}
use Rattle.std.specs.List.{filter}
use Rattle.analysers.specs.declared.row.Row.TheVariants.{Of}
use Rattle.analysers.proofs.folding.push_passing.Given as goal

-- the rows so far and those of what is left are all the rows
abbrev pub invariant-loop-r : goal.invariant-loop-r
invariant-loop-r g l =
    let passing = g.L.Local.passing l.local in
    l.out.items ++ map Of (filter passing (drop l.r-index l.records))
    ≡ l.fn.out.items ++ map Of (filter passing l.records)
