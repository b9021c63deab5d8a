use Rattle.std.specs.Prelude.{is_some}
use Rattle.std.proofs.Common.{◌≡◌, ◌+◌, true, false, refl, sym, ◌∙◌, arith}
use Rattle.sl_model.proofs.MarksLaws.{MarksGoOn-same, MarksGoOn-then}
use Rattle.call_recorder.proofs.Living.{goes_further, begins_so, begins_then}
use Rattle.call_recorder.proofs.live.Live.run_to.Goals as goal

pub returns-then-is_some-clause-kept : goal.returns-then-is_some-clause-kept
returns-then-is_some-clause-kept g c = λ opened before comes. c.in_ok-end.ensures.kept opened before (c.loop.invariant.kept opened before comes)

pub returns-then-is_some-clause-marks : goal.returns-then-is_some-clause-marks
returns-then-is_some-clause-marks g c =
    let old = c.loop.self.memory in
    MarksGoOn-then true c.args.self.now.memory.pages c.args.self.now.memory.dirty old.pages old.dirty _ _ c.loop.invariant.marks c.in_ok-end.ensures.marks

pub loop-preserved : goal.loop-preserved
loop-preserved g c =
    let old = c.loop.self.memory in
    let none : is_some c.in_ok-end.end ≡ false = sym c.is_some.ensures ∙ c.if-is_some.false in
    let on = goes_further (c.loop.self.machine.count + 1) c.go_on.new.self c.in_ok-end.end none c.in_ok-end.ensures.went in
    record {
      goes = on.0;
      calls = begins_then _ _ _ c.loop.invariant.calls c.in_ok-end.ensures.calls;
      from = omega (arith, c.loop.invariant.from);
      count = omega (arith, on.1, c.loop.invariant.count);
      kept = λ opened before comes. c.in_ok-end.ensures.kept opened before (c.loop.invariant.kept opened before comes);
      marks = MarksGoOn-then true c.args.self.now.memory.pages c.args.self.now.memory.dirty old.pages old.dirty _ _ c.loop.invariant.marks c.in_ok-end.ensures.marks;
    }

pub loop-init : goal.loop-init
loop-init g c = record {
  goes = c.requires.goes;
  calls = begins_so c.args.self.now.calls c.args.self.now.calls refl;
  from = omega arith;
  count = refl;
  kept = λ opened before comes. comes;
  marks = MarksGoOn-same true c.args.self.now.memory.pages c.args.self.now.memory.dirty;
}

pub returns-then-is_some-clause-calls : goal.returns-then-is_some-clause-calls
returns-then-is_some-clause-calls g c = begins_then _ _ _ c.loop.invariant.calls c.in_ok-end.ensures.calls
