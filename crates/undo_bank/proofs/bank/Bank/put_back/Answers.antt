use Rattle.std.specs.FinMap.{empty}
use Rattle.std.proofs.Common.{◌≡◌, ◌+◌, ◌*◌, ◌<◌, ℕ, inl, inr, ap, ◌∙◌, sym, arith}
use Rattle.sl_model.specs.declared.bank.TheConstants.{MOST_ENTRIES}
use Rattle.sl_model.specs.Pages.{IsWidth}
use Rattle.sl_model.specs.Undo.{entry_at}
use Rattle.undo_bank.specs.Dense.{word_in}
use Rattle.undo_bank.specs.Areas.{Areas, AreAreas, bank_pages}
use Rattle.undo_bank.specs.Fields.{areas_of}
use Rattle.undo_bank.proofs.LogLaws.{IsProgram-empty, entry_at-areas, same_entry, put_back-known, put_back-other, is_width-true, is_width-false}
use Rattle.undo_bank.proofs.bank.Bank.put_back.Goals.{then-width-eq1-via-then-width-eq1, then-width-eq1-via-else-width-eq1+then-width-eq2, then-width-eq1-via-else-width-eq1+else-width-eq2+then-width-eq4}
use Rattle.undo_bank.proofs.bank.Bank.put_back.Goals as goal

-- the entry has the three words that were read
read : (inside self : Areas) (index address width old : ℕ) → AreAreas inside → inside ≡ self → index < MOST_ENTRIES
    → address ≡ word_in inside.log (4 + 12 * index) → width ≡ word_in inside.log (4 + 12 * index + 4) → old ≡ word_in inside.log (4 + 12 * index + 8)
    → entry_at (bank_pages self) index ≡ record { address = address; width = width; old = old }
read inside self index address width old are view few first second third =
    ap (λ (a : Areas). entry_at (bank_pages a) index) (sym view) ∙ entry_at-areas inside empty index are IsProgram-empty (omega arith)
    ∙ same_entry _ _ _ _ _ _ (sym first) (sym second) (sym third)

pub returns-then-width-eq1-clause-pages : goal.returns-then-width-eq1-clause-pages
returns-then-width-eq1-clause-pages c =
    let is : IsWidth c.word-width.result = elim c.then-width-eq1.branch [
      | then-width-eq1-via-then-width-eq1 w ↦ inl w.if-width-eq1.true
      | then-width-eq1-via-else-width-eq1+then-width-eq2 w ↦ inr (inl w.if-width-eq2.true)
      | then-width-eq1-via-else-width-eq1+else-width-eq2+then-width-eq4 w ↦ inr (inr w.if-width-eq4.true)
    ] in
    c.store.ensures.bytes
    ∙ sym (put_back-known (entry_at (bank_pages c.args.self.now) c.args.index) c.word-addr.result c.word-width.result c.word-old.result c.args.f.now.pages
    (read (areas_of c.self.inside) c.args.self.now c.args.index c.word-addr.result c.word-width.result c.word-old.result c.self.invariant c.self.view_is c.requires c.word-addr.ensures c.word-width.ensures c.word-old.ensures)
    (is_width-true c.word-width.result is))

pub returns-else-width-eq4-clause-pages : goal.returns-else-width-eq4-clause-pages
returns-else-width-eq4-clause-pages c =
    sym (put_back-other (entry_at (bank_pages c.args.self.now) c.args.index) c.word-addr.result c.word-width.result c.word-old.result c.args.f.now.pages
    (read (areas_of c.self.inside) c.args.self.now c.args.index c.word-addr.result c.word-width.result c.word-old.result c.self.invariant c.self.view_is c.requires c.word-addr.ensures c.word-width.ensures c.word-old.ensures)
    (is_width-false c.word-width.result (λ e. omega arith) (λ e. omega arith) (λ e. omega arith)))
