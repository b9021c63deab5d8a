use Rattle.std.specs.Prelude.{Some, []}
use Rattle.std.proofs.Common.{◌≡◌, ℕ, List, refl, sym, ap, subst, ◌∙◌, arith}
use Rattle.sl_model.specs.Pages.{Pages}
use Rattle.sl_model.specs.State.{State, IsOpening}
use Rattle.rec_format.specs.declared.recording.Recording.{Recording}
use Rattle.rv_machine.specs.Machine.{state_of}
use Rattle.replay.specs.Opening.{opening}
use Rattle.replay.specs.Run.{run_from}
use Rattle.call_recorder.specs.Recut.{first_states}
use Rattle.call_recorder.specs.Kept.{AreKept}
use Rattle.call_recorder.specs.Replayed.{KeptAlong}
use Rattle.call_recorder.proofs.Recuts.{is_recut, reaches_end}
use Rattle.call_recorder.proofs.Replaying.{is_some_at}
use Rattle.call_recorder.proofs.recutting.recut.Goals as goal

pub replay_on-requires-clause-goes : goal.replay_on-requires-clause-goes
replay_on-requires-clause-goes c =
    let rec : Recording = c.args.rec in
    let image = c.args.image.now in
    let begins : state_of c.in_ok-machine.machine c.in_ok-machine.memory.pages ≡ opening image rec.args = c.in_ok-machine.ensures.state ∙ ap (opening image) c.as_slice.ensures in
    let ends = reaches_end rec (opening image rec.args) c.requires.unbroken in
    is_some_at (run_from rec (state_of c.in_ok-machine.machine c.in_ok-machine.memory.pages) rec.last.count) ends.last (ap (λ (s : State). run_from rec s rec.last.count) begins ∙ ends.run)

pub returns : goal.returns
returns c =
    let rec : Recording = c.args.rec in
    let image = c.args.image.now in
    let opened : State = opening image rec.args in
    let begins : state_of c.in_ok-machine.machine c.in_ok-machine.memory.pages ≡ opened = c.in_ok-machine.ensures.state ∙ ap (opening image) c.as_slice.ensures in
    let again : c.in_ok-opening.opening.pages ≡ opened.pages = ap (λ (s : State). s.pages) (c.in_ok-opening.ensures.state ∙ ap (opening image) c.as_slice-2.ensures) in
    let memory : c.in_ok-machine.memory.pages ≡ c.in_ok-opening.opening.pages = ap (λ (s : State). s.pages) begins ∙ sym again in
    let kept : AreKept opened.pages [] c.new-kept.result c.in_ok-machine.memory = subst (λ (p : Pages). AreKept p [] c.new-kept.result c.in_ok-machine.memory) again (c.new-kept.ensures c.in_ok-machine.memory memory) in
    let ran = c.in_ok-replay_on.ensures in
    let offers : ℕ = ran.kept.0 in
    let along : KeptAlong rec opened c.args.every offers c.new-kept.result c.in_ok-machine.memory c.replay_on.new.kept c.replay_on.new.f = subst (λ (s : State). KeptAlong rec s c.args.every offers c.new-kept.result c.in_ok-machine.memory c.replay_on.new.kept c.replay_on.new.f) begins ran.kept.1 in
    let last : State = state_of c.replay_on.new.m c.replay_on.new.f.pages in
    let run : run_from rec opened rec.last.count ≡ Some last = subst (λ (s : State). run_from rec s rec.last.count ≡ Some last) begins ran.ran in
    is_recut image rec c.args.every offers last c.in_ok-checkpoints.field-0 c.requires.value c.requires.unbroken (subst IsOpening begins c.in_ok-machine.ensures.opens) (omega (arith, c.requires.every_some)) run along.from along.upto
    (c.in_ok-checkpoints.ensures opened.pages (first_states rec opened c.args.every offers) (along.are kept))
