use Rattle.std.proofs.Common.{◌≡◌, drop}
use Rattle.std.specs.List.{list_any}
use Rattle.std.specs.Str.{bytes_eq}
use Rattle.cli_words.specs.Views.{settings_view}
use Rattle.cli_words.proofs.parts.is_named.Given as goal

-- the options that are left decide
abbrev pub invariant-loop-other : goal.invariant-loop-other
invariant-loop-other l =
    list_any (λ other. bytes_eq other.name l.name) (settings_view (drop l.other-index l.settings))
    ≡ list_any (λ other. bytes_eq other.name l.name) (settings_view l.settings)
