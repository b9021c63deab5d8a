use Rattle.std.proofs.Common.{◌≡◌, ◌-◌, length, take}
use Rattle.rec_format.specs.Reading.{word_at, words_at, items_at}
use Rattle.rec_format.proofs.cursor.Cursor.words.Given as goal

abbrev pub invariant-loop-i : goal.invariant-loop-i
invariant-loop-i g l = (length l.words ≡ g.row.N) × (items_at (λ _. word_at) (g.row.N - l.i) (take l.i l.words) l.self ≡ words_at g.row.N l.fn.self)
