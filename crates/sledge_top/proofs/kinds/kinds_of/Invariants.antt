use Rattle.std.proofs.Common.{◌≡◌, ◌+◌, drop}
use Rattle.cli_words.specs.Views.{words_view}
use Rattle.sledge_top.specs.Kinds.{kinds_from, kinds_of}
use Rattle.sledge_top.proofs.AnalysisWords.{in_front}
use Rattle.sledge_top.proofs.kinds.kinds_of.Given as goal

abbrev pub invariant-loop-i : goal.invariant-loop-i
invariant-loop-i l =
    kinds_of (words_view l.words) ≡ in_front l.kinds (kinds_from (l.i + 1) (words_view (drop l.i l.words)))
