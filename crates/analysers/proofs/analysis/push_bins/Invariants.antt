use Rattle.std.proofs.Common.{◌≡◌, ◌++◌, map}
use Rattle.analysers.specs.declared.part.Bin.{Bin}
use Rattle.analysers.specs.declared.row.Row.TheVariants as row
use Rattle.analysers.proofs.analysis.push_bins.Given as goal

abbrev pub invariant-loop-bin : goal.invariant-loop-bin
invariant-loop-bin l =
    l.out.items ≡ l.fn.out.items ++ map (λ (bin : Bin). row.Bin bin.value bin.count) l.yielded
