use Rattle.std.specs.FinMap.{empty}
use Rattle.std.proofs.Common.{ap, ◌∙◌, sym}
use Rattle.sl_model.specs.Undo.{log_count}
use Rattle.undo_bank.specs.Areas.{bank_pages, Areas}
use Rattle.undo_bank.proofs.LogLaws.{log_count-areas, IsProgram-empty}
use Rattle.undo_bank.proofs.bank.Bank.log_len.Goals as goal

pub returns-clause-count : goal.returns-clause-count
returns-clause-count c =
    c.word.ensures ∙ sym (log_count-areas _ empty c.self.invariant IsProgram-empty) ∙ ap (λ (a : Areas). log_count (bank_pages a)) c.self.view_is
