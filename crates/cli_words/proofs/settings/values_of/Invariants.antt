use Rattle.std.proofs.Common.{◌≡◌, ◌++◌, drop}
use Rattle.cli_words.specs.Orders.{values_of}
use Rattle.cli_words.specs.Views.{words_view, settings_view}
use Rattle.cli_words.proofs.settings.values_of.Given as goal

-- the values so far and those of the options that are left are those of all
abbrev pub invariant-loop-setting : goal.invariant-loop-setting
invariant-loop-setting l =
    words_view l.values.items ++ values_of l.name (settings_view (drop l.setting-index l.settings)) ≡ values_of l.name (settings_view l.settings)
