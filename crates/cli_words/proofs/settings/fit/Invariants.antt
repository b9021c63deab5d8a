use Rattle.std.proofs.Common.{◌≡◌, ◌≤◌, ◌+◌, drop, map, length, sum}
use Rattle.std.specs.List.{list_all}
use Rattle.cli_words.specs.Orders.{has_no_zero}
use Rattle.cli_words.specs.Views.{words_view}
use Rattle.cli_words.proofs.settings.fit.Given as goal

-- the arguments that are left decide
abbrev pub invariant-loop-argument : goal.invariant-loop-argument
invariant-loop-argument l = record {
  few : l.total ≤ 65536;
  whole : list_all has_no_zero (words_view (drop l.argument-index l.arguments)) ≡ list_all has_no_zero (words_view l.arguments);
  all :
      l.total + sum (map (λ argument. length argument + 1) (words_view (drop l.argument-index l.arguments)))
      ≡ sum (map (λ argument. length argument + 1) (words_view l.arguments));
}
