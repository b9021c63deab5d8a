use Rattle.std.proofs.Common.{sym, subst}
use Rattle.tracer_lang.specs.Script.{tree_of}
use Rattle.tracer_code.specs.declared.code.TracerCode.{TracerCode}
use Rattle.tracer_code.specs.Sound.{IsSound, StandsFor}
use Rattle.epoch_run.proofs.firing.run_tracer.Goals as goal

pub run_in_place-requires-clause-sound : goal.run_in_place-requires-clause-sound
run_in_place-requires-clause-sound g c =
    let tracers = c.args.plan.now.tracers in
    subst IsSound (sym c.code.ensures.code)
    (c.standing_code_is_sound.ensures tracers.code (tree_of tracers.script) c.code.ensures.stands)

pub returns-clause-record : goal.returns-clause-record
returns-clause-record g c =
    let tracers = c.args.plan.now.tracers in
    let stands = subst (λ (code : TracerCode). StandsFor code (tree_of tracers.script)) (sym c.code.ensures.code) c.code.ensures.stands in
    (c.run_in_place.ensures.meant (tree_of tracers.script) stands).record_is

pub returns-clause-stores : goal.returns-clause-stores
returns-clause-stores g c =
    let tracers = c.args.plan.now.tracers in
    let stands = subst (λ (code : TracerCode). StandsFor code (tree_of tracers.script)) (sym c.code.ensures.code) c.code.ensures.stands in
    (c.run_in_place.ensures.meant (tree_of tracers.script) stands).stores
