use Rattle.undo_bank.proofs.BankLaws.{IsBankMemory-over}
use Rattle.undo_bank.proofs.laws.started_banks_are_ready.Goals as goal

pub returns : goal.returns
returns c = IsBankMemory-over
