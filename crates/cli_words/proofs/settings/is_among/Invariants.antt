use Rattle.std.proofs.Common.{◌≡◌, drop}
use Rattle.std.specs.List.{list_any}
use Rattle.std.specs.Str.{bytes_eq}
use Rattle.cli_words.specs.Views.{words_view}
use Rattle.cli_words.proofs.settings.is_among.Given as goal

-- the names that are left decide
abbrev pub invariant-loop-other : goal.invariant-loop-other
invariant-loop-other l =
    list_any (λ other. bytes_eq l.name other) (words_view (drop l.other-index l.names))
    ≡ list_any (λ other. bytes_eq l.name other) (words_view l.names)
