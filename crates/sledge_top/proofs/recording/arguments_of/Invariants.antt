use Rattle.std.proofs.Common.{◌≡◌, take}
use Rattle.cli_words.specs.Views.{words_view}
use Rattle.sledge_top.proofs.recording.arguments_of.Given as goal

abbrev pub invariant-loop-argument : goal.invariant-loop-argument
invariant-loop-argument l = l.args ≡ words_view (take l.argument-index l.arguments)
