use Rattle.std.proofs.Common.{◌≡◌, drop}
use Rattle.std.specs.List.{list_any}
use Rattle.analysers.specs.Pieces.{reads_records}
use Rattle.analysers.proofs.all_rows.reads_records.Given as goal

abbrev pub invariant-loop-kind : goal.invariant-loop-kind
invariant-loop-kind l =
    list_any reads_records (drop l.kind-index l.kinds) ≡ list_any reads_records l.kinds
