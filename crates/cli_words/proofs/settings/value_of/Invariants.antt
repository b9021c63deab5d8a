use Rattle.std.proofs.Common.{◌≡◌, drop}
use Rattle.cli_words.specs.Orders.{value_of}
use Rattle.cli_words.specs.Views.{settings_view}
use Rattle.cli_words.proofs.settings.value_of.Given as goal

-- the options that are left decide
abbrev pub invariant-loop-setting : goal.invariant-loop-setting
invariant-loop-setting l = value_of l.name (settings_view (drop l.setting-index l.settings)) ≡ value_of l.name (settings_view l.settings)
