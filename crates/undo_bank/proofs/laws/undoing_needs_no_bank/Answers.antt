use Rattle.undo_bank.proofs.UndoneLaws.{HaveOneProgram-undone}
use Rattle.undo_bank.proofs.laws.undoing_needs_no_bank.Goals as goal

pub returns : goal.returns
returns c = HaveOneProgram-undone
