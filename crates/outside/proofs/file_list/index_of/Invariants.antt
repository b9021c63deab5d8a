use Rattle.outside.specs.FileList.{NoneNamed}
use Rattle.outside.proofs.file_list.index_of.Given as goal

abbrev pub invariant-loop-index : goal.invariant-loop-index
invariant-loop-index l = NoneNamed l.files l.name l.index
