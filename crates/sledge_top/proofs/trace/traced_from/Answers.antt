use Rattle.std.proofs.Common.{List, ap, subst, ◌∙◌}
use Rattle.checkpoints.specs.RecordedRun.{opened_of}
use Rattle.sl_base.specs.Refusals.{Gives}
use Rattle.analysers.specs.declared.kind.Kind.{Kind}
use Rattle.tracer_lang.specs.Tree.{ScriptTree}
use Rattle.tracer_lang.specs.Script.{tree_of}
use Rattle.sledge_top.specs.Replays.{traced}
use Rattle.sledge_top.proofs.trace.traced_from.Goals as goal

pub returns-clause-text : goal.returns-clause-text
returns-clause-text g c =
    let plan = c.in_ok-plan.plan in
    let known = c.in_ok-plan.ensures in
    let same = ap (λ rec. traced rec (tree_of plan.tracers.script) plan.kinds (opened_of plan.checkpoints)) known.recording
    ∙ ap (λ (script : ScriptTree). traced c.args.rec script plan.kinds (opened_of plan.checkpoints)) known.script
    ∙ ap (λ (kinds : List Kind). traced c.args.rec (tree_of c.args.script) kinds (opened_of plan.checkpoints)) known.kinds
    ∙ ap (traced c.args.rec (tree_of c.args.script) c.args.kinds) known.opened in
    subst (Gives (λ text. text.items) c.traced.result) same c.traced.ensures.text
