-- Laws of the log.
use Rattle.std.specs.Prelude.{List, [], ◌∷◌, ◌++◌}
use Rattle.std.proofs.Common.{◌≡◌, ℕ, zero, suc, ◌+◌, ◌<◌, ◌≤◌, refl, ap, ◌∙◌, sym, arith}
use Rattle.sl_model.specs.Pages.{Pages}
use Rattle.sl_model.specs.Undo.{UndoEntry, put_back, undone, entry_at, entries_at}

-- newer entries are put back before older ones
pub undone-append : (newer older : List UndoEntry) (pages : Pages) → undone (newer ++ older) pages ≡ undone older (undone newer pages)
unfolding undone
undone-append [] older pages = refl
undone-append (newest ∷ newer) older pages = undone-append newer older (put_back newest pages)
