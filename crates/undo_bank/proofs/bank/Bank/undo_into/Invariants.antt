use Rattle.std.proofs.Common.{◌≡◌, true}
use Rattle.sl_model.specs.Marks.{MarksGoOn}
use Rattle.sl_model.specs.Undo.{undone, entries_at, log_of}
use Rattle.undo_bank.specs.Areas.{bank_pages}
use Rattle.undo_bank.proofs.bank.Bank.undo_into.Given as goal

-- the entries below the index are left to be put back
abbrev pub invariant-loop-index : goal.invariant-loop-index
invariant-loop-index l = record {
  pages : undone (entries_at (bank_pages l.fn.self) l.index) l.f.pages ≡ undone (log_of (bank_pages l.fn.self)) l.fn.f.pages;
  marks : MarksGoOn true l.fn.f.pages l.fn.f.dirty l.f.pages l.f.dirty;
}
