use Rattle.std.proofs.Common.{◌≡◌, drop}
use Rattle.std.specs.List.{list_all}
use Rattle.cli_words.specs.Parts.{has_text}
use Rattle.cli_words.specs.Views.{settings_view}
use Rattle.cli_words.proofs.parts.have_text.Given as goal

-- the options that are left decide
abbrev pub invariant-loop-setting : goal.invariant-loop-setting
invariant-loop-setting l = list_all has_text (settings_view (drop l.setting-index l.settings)) ≡ list_all has_text (settings_view l.settings)
