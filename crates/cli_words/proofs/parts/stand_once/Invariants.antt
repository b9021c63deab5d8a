use Rattle.std.proofs.Common.{◌≡◌, drop}
use Rattle.cli_words.specs.Parts.{stand_once}
use Rattle.cli_words.specs.Views.{settings_view}
use Rattle.cli_words.proofs.parts.stand_once.Given as goal

-- the options that are left decide
abbrev pub invariant-loop-i : goal.invariant-loop-i
invariant-loop-i l = stand_once (settings_view (drop l.i l.settings)) ≡ stand_once (settings_view l.settings)
