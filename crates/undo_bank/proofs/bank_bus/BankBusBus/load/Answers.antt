use Rattle.std.proofs.Common.{◌∙◌, sym, arith}
use Rattle.undo_bank.proofs.AreasLaws.{load-above, load-below}
use Rattle.undo_bank.proofs.Buses.{width_some, width_few}
use Rattle.undo_bank.proofs.bank_bus.BankBusBus.load.Goals as goal

pub returns-then-addr-lt-CODE_START-clause-value : goal.returns-then-addr-lt-CODE_START-clause-value
returns-then-addr-lt-CODE_START-clause-value c =
    c.load.ensures.value
    ∙ sym (load-below c.args.self.now.bank.now c.args.self.now.frames.now.pages c.args.addr c.args.width c.known.ensures.pages.below
    (width_some c.args.width c.requires) (width_few c.args.width c.requires) (omega arith))

pub returns-else-addr-lt-CODE_START-clause-value : goal.returns-else-addr-lt-CODE_START-clause-value
returns-else-addr-lt-CODE_START-clause-value c =
    c.load-else-addr-lt-CODE_START.ensures.areas
    ∙ sym (load-above c.args.self.now.bank.now c.args.self.now.frames.now.pages c.args.addr c.args.width c.known.ensures.areas c.known.ensures.pages.below
    (width_some c.args.width c.requires) (omega arith) (omega arith))
