use Rattle.std.proofs.Common.{◌∙◌, sym, arith}
use Rattle.undo_bank.proofs.Buses.{load-bank}
use Rattle.undo_bank.proofs.bank.BankBus.load.Goals as goal

pub returns-clause-value : goal.returns-clause-value
returns-clause-value c =
    c.load_from.ensures.areas ∙ sym (load-bank c.args.self.now c.args.addr c.args.width c.load_from.ensures.kept c.requires (omega arith))
