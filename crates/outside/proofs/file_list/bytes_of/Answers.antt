use Rattle.std.proofs.Common.{Some, sym, ap, ◌∙◌}
use Rattle.outside.proofs.FileListLemmas.{get-none, get-first}
use Rattle.outside.proofs.file_list.bytes_of.Goals as goal

pub returns-in_err-index : goal.returns-in_err-index
returns-in_err-index c = rw c.from_residual.ensures (sym (get-none _ _ c.in_err-index.ensures))

pub returns : goal.returns
returns c = ap Some c.deref.ensures.value ∙ sym (get-first _ _ _ c.index-files-index.result c.in_ok-index.ensures)
