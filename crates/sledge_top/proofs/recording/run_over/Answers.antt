use Rattle.std.proofs.Common.{◌≡◌, sym, ap, subst, ◌∙◌}
use Rattle.rec_format.specs.Rules.{AreArguments}
use Rattle.cli_words.specs.Views.{words_view}
use Rattle.sledge_top.proofs.Arguments.{are_arguments}
use Rattle.sledge_top.proofs.recording.run_over.Goals as goal

pub record_run-requires-clause-args : goal.record_run-requires-clause-args
record_run-requires-clause-args g c =
    let args = words_view c.args.options.now.arguments.items in
    let same : c.in_ok-args.args ≡ args = c.in_ok-args.ensures ∙ ap words_view c.deref.ensures.value in
    subst AreArguments (sym same) (are_arguments args c.requires.options.2 c.requires.options.3)
