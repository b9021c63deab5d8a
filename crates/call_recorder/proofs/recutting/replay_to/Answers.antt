use Rattle.std.specs.Prelude.{Some}
use Rattle.std.proofs.Common.{◌≡◌, ◌+◌, ◌-◌, ◌≤◌, refl, sym, ap, subst, ◌∙◌, true, arith}
use Rattle.sl_model.proofs.MarksLaws.{MarksGoOn-same, MarksGoOn-then}
use Rattle.sl_model.specs.State.{State}
use Rattle.rv_machine.specs.Machine.{state_of}
use Rattle.replay.specs.Advance.{StoppedAt}
use Rattle.replay.specs.Run.{onward, run_from}
use Rattle.call_recorder.proofs.Runs.{run-zero, run-next}
use Rattle.call_recorder.proofs.Replaying.{next_goes, never_breaks}
use Rattle.call_recorder.proofs.recutting.replay_to.Goals as goal

pub loop-init : goal.loop-init
loop-init g c =
    let s : State = state_of c.args.m.now c.args.f.now.pages in
    let none : c.args.m.now.count - c.args.m.now.count ≡ 0 = omega arith in
    record {
      fits = c.requires.fits;
      from = omega arith;
      count = refl;
      run = ap (run_from c.args.rec.now s) none ∙ run-zero c.args.rec.now s;
      marks = MarksGoOn-same true c.args.f.now.pages c.args.f.now.dirty;
    }

pub unreachable-requires : goal.unreachable-requires
unreachable-requires g c =
    let on = next_goes c.args.rec.now (state_of c.args.m.now c.args.f.now.pages) (state_of c.loop.m c.loop.f.pages) (c.loop.counter - c.args.m.now.count) (c.args.upto - c.args.m.now.count) c.loop.invariant.run c.requires.goes (omega (arith, c.loop.invariant.from, c.loop-test.true)) in
    never_breaks c.args.rec.now (state_of c.loop.m c.loop.f.pages) on c.loop.m c.loop.f c.in-Err-Fault.field-0-0 c.advance_one.new.m c.advance_one.new.f
    (subst (λ stop. StoppedAt (onward c.args.rec.now (state_of c.loop.m c.loop.f.pages)) c.loop.m c.loop.f stop c.advance_one.new.m c.advance_one.new.f) c.in-Err-Fault.field-0-is c.in-Err-Fault.ensures.onward)

pub loop-preserved : goal.loop-preserved
loop-preserved g c =
    let start : State = state_of c.args.m.now c.args.f.now.pages in
    let one : c.loop.counter + 1 - c.args.m.now.count ≡ c.loop.counter - c.args.m.now.count + 1 = omega (arith, c.loop.invariant.from) in
    record {
      fits = c.in-Ok.ensures.fits;
      from = omega (arith, c.loop.invariant.from);
      count = omega (arith, c.in-Ok.ensures.count, c.loop.invariant.count);
      run = ap (run_from c.args.rec.now start) one ∙ run-next c.args.rec.now (c.loop.counter - c.args.m.now.count) start (state_of c.loop.m c.loop.f.pages) (state_of c.advance_one.new.m c.advance_one.new.f.pages) c.loop.invariant.run c.in-Ok.ensures.onward;
      marks = MarksGoOn-then true c.args.f.now.pages c.args.f.now.dirty c.loop.f.pages c.loop.f.dirty _ _ c.loop.invariant.marks c.in-Ok.ensures.marks;
    }
