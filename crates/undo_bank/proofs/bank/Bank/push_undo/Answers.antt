use Rattle.std.specs.Prelude.{unwrap_or}
use Rattle.std.specs.FinMap.{empty}
use Rattle.std.proofs.Common.{◌≡◌, ◌+◌, ◌*◌, ◌<◌, ◌∷◌, ℕ, ap, ◌∙◌, sym, subst, arith}
use Rattle.sl_model.specs.declared.bank.TheConstants.{MOST_ENTRIES}
use Rattle.sl_model.specs.Undo.{UndoEntry, log_count, log_of, entry_at}
use Rattle.undo_bank.specs.Dense.{store_in}
use Rattle.undo_bank.specs.Areas.{Areas, AreAreas, bank_pages}
use Rattle.undo_bank.specs.Fields.{areas_of}
use Rattle.undo_bank.proofs.LogLaws.{IsProgram-empty, pushed, pushed-stored, AreAreas-pushed, log-pushed, entry-kept}
use Rattle.undo_bank.proofs.bank.Bank.push_undo.Goals as goal

-- the log as the four stores leave it
few : (c : goal.After-store-4) → c.log_len-count.result < MOST_ENTRIES
few c = let number = c.log_len-count.ensures.count in let most = c.requires.few in omega arith

stored : (c : goal.After-store-4) → c.store-4.new.self ≡ pushed c.self.inside.log c.log_len-count.result c.args.addr c.args.width c.args.old
stored c =
    let count : ℕ = c.log_len-count.result in
    pushed-stored c.self.inside.log c.store.new.self c.store-2.new.self c.store-3.new.self c.store-4.new.self c.log_len-count.result c.args.addr c.args.width c.args.old
    c.self.invariant.log_size (few c) c.store.ensures.bytes
    (c.store-2.ensures.bytes ∙ ap (λ w. unwrap_or (store_in c.store.new.self (4 + 12 * count + 4) 4 w) c.store.new.self) c.from.ensures)
    c.store-3.ensures.bytes c.store-4.ensures.bytes

number : (c : goal.After-store-4) → c.log_len-count.result ≡ log_count (bank_pages (areas_of c.self.inside))
number c = c.log_len-count.ensures.count ∙ ap (λ (a : Areas). log_count (bank_pages a)) (sym c.self.view_is)

pub invariant_of-self : goal.invariant_of-self
invariant_of-self c =
    subst (λ log. AreAreas (record (areas_of c.self.inside) { log = log })) (sym (stored c))
    (AreAreas-pushed (areas_of c.self.inside) c.log_len-count.result c.args.addr c.args.width c.args.old c.self.invariant)

pub returns-clause-added : goal.returns-clause-added
returns-clause-added c =
    let entry : UndoEntry = record { address = c.args.addr; width = c.args.width; old = c.args.old } in
    ap (λ log. log_of (bank_pages (record (areas_of c.self.inside) { log = log }))) (stored c)
    ∙ log-pushed (areas_of c.self.inside) empty c.log_len-count.result c.args.addr c.args.width c.args.old c.self.invariant IsProgram-empty (number c) (few c) (omega arith) (omega arith) (omega arith)
    ∙ ap (λ (a : Areas). entry ∷ log_of (bank_pages a)) c.self.view_is

pub returns-clause-others : goal.returns-clause-others
returns-clause-others c index below apart =
    ap (λ log. entry_at (bank_pages (record (areas_of c.self.inside) { log = log })) index) (stored c)
    ∙ entry-kept (areas_of c.self.inside) empty c.log_len-count.result c.args.addr c.args.width c.args.old index c.self.invariant IsProgram-empty below (λ same. apart (same ∙ c.log_len-count.ensures.count))
    ∙ ap (λ (a : Areas). entry_at (bank_pages a) index) c.self.view_is
