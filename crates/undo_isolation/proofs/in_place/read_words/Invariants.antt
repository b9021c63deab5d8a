use Rattle.std.proofs.Common.{◌≡◌, ◌+◌}
use Rattle.sl_model.specs.declared.bank.TheConstants.{OUTPUT_START}
use Rattle.sl_model.specs.Bank.{words_at}
use Rattle.undo_bank.specs.Areas.{bank_pages}
use Rattle.undo_isolation.proofs.in_place.read_words.Given as goal

abbrev pub invariant-loop-index : goal.invariant-loop-index
invariant-loop-index l = l.rec ≡ record l.fn.rec { words = words_at (bank_pages l.bank) (OUTPUT_START + 4) l.index }
