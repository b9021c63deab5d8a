use Rattle.std.proofs.Common.{◌≡◌, drop}
use Rattle.cli_words.specs.Parts.{Any, parts_from}
use Rattle.cli_words.specs.Views.{texts, parts_view, next_view, all_parts}
use Rattle.cli_words.proofs.parts.read_all.Given as goal

-- the parts so far and those of the words that are left are those of all
abbrev pub invariant-loop-word : goal.invariant-loop-word
invariant-loop-word l = all_parts (parts_view l.parts) (next_view l.next) (texts (drop l.word-index l.words)) ≡ parts_from Any (texts l.words)
