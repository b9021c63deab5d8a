use Rattle.std.specs.Prelude.{is_some, unwrap_or}
use Rattle.std.proofs.Common.{ap, ◌∙◌, sym, arith}
use Rattle.undo_bank.specs.Areas.{bank_pages, store_to}
use Rattle.undo_bank.proofs.Buses.{store-bank, is_some-map, unwrap_or-map}
use Rattle.undo_bank.proofs.bank.BankBus.store.Goals as goal

pub returns-clause-mapped : goal.returns-clause-mapped
returns-clause-mapped c =
    c.store_to.ensures.done
    ∙ sym (ap is_some (store-bank c.args.self.now c.args.addr c.args.width c.args.value c.store_to.ensures.kept c.requires (omega arith))
    ∙ is_some-map bank_pages (store_to c.args.self.now c.args.addr c.args.width c.args.value))

pub returns-clause-bytes : goal.returns-clause-bytes
returns-clause-bytes c =
    ap bank_pages c.store_to.ensures.areas
    ∙ sym (ap (λ o. unwrap_or o (bank_pages c.args.self.now)) (store-bank c.args.self.now c.args.addr c.args.width c.args.value c.store_to.ensures.kept c.requires (omega arith))
    ∙ unwrap_or-map bank_pages (store_to c.args.self.now c.args.addr c.args.width c.args.value) c.args.self.now)
