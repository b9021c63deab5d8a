use Rattle.std.specs.Prelude.{List, []}
use Rattle.std.proofs.Common.{◌≡◌, ◌<◌, ◌^◌, ℕ, refl, sym, ap, subst, ◌∙◌, arith, rules}
use Rattle.outside.specs.World.{HearsAll}
use Rattle.sl_model.specs.Pages.{Pages}
use Rattle.sl_model.specs.State.{State, IsOpening}
use Rattle.replay.specs.Opening.{opening}
use Rattle.call_recorder.specs.declared.live.Live.{Live}
use Rattle.call_recorder.specs.Kept.{AreKept}
use Rattle.call_recorder.specs.Lives.{state_in, ComesSoFar}
use Rattle.call_recorder.proofs.Living.{comes_from_start}
use Rattle.call_recorder.proofs.Whole.{IsCode, is_recorded}
use Rattle.call_recorder.proofs.record.record_run.Goals as goal

pub returns : goal.returns
returns g c =
    let image = c.args.image.now in
    let args = c.args.args in
    let opened : State = opening image args in
    let start : Live = record { machine = c.in_ok-machine.machine; memory = c.in_ok-machine.memory; calls = c.new.result } in
    let world = c.args.world.now in
    let heard = HearsAll g.W.World.hears world in
    let begins : state_in start ≡ opened = c.in_ok-machine.ensures.state ∙ ap (opening image) c.as_slice.ensures in
    let again : c.in_ok-opening.opening.pages ≡ opened.pages = ap (λ (s : State). s.pages) (c.in_ok-opening.ensures.state ∙ ap (opening image) c.as_slice-2.ensures) in
    let opens : IsOpening opened = subst IsOpening begins c.in_ok-machine.ensures.opens in
    let comes = subst (λ (s : State). ComesSoFar s (heard world) start) begins (comes_from_start (heard world) start refl c.new.ensures c.in_ok-machine.ensures.opens.count) in
    let memory : c.in_ok-machine.memory.pages ≡ c.in_ok-opening.opening.pages = ap (λ (s : State). s.pages) begins ∙ sym again in
    let kept = subst (λ (p : Pages). AreKept p [] c.new-kept.result c.in_ok-machine.memory) again (c.new-kept.ensures c.in_ok-machine.memory memory) in
    let ran = c.in_ok-end.ensures in
    let small : IsCode c.in_ok-end.end = search rules in
    is_recorded image c.args.source args c.args.limit c.args.every (heard c.run_on.new.world) c.run_on.new.live c.run_on.new.kept c.in_ok-end.end ran.checkpoints.0 c.in_ok-checkpoints.field-0
    opens (omega (arith, c.requires.every_some)) c.requires.limit c.requires.source c.requires.args (ran.comes opened world comes) ran.stopped small (ran.checkpoints.1 opened world comes kept) c.in_ok-checkpoints.ensures
