use Rattle.std.proofs.Common.{◌≡◌, drop}
use Rattle.cli_words.specs.Orders.{are_among}
use Rattle.cli_words.specs.Views.{words_view, settings_view}
use Rattle.cli_words.proofs.settings.are_among.Given as goal

-- the options that are left decide
abbrev pub invariant-loop-setting : goal.invariant-loop-setting
invariant-loop-setting l =
    are_among (words_view l.names) (settings_view (drop l.setting-index l.settings)) ≡ are_among (words_view l.names) (settings_view l.settings)
