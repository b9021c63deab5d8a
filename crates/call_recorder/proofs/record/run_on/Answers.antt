use Rattle.std.proofs.Common.{◌≡◌, ℕ, ◌+◌, ◌*◌, ◌≤◌, refl, sym, subst, ◌∙◌, arith}
use Rattle.outside.specs.World.{HearsAll}
use Rattle.sl_model.specs.State.{State}
use Rattle.call_log.specs.declared.entry.End.{End}
use Rattle.call_recorder.specs.declared.live.Live.{Live}
use Rattle.call_recorder.specs.Lives.{GoesOn, RanTo, ComesSoFar, KeptTo}
use Rattle.call_recorder.proofs.Advancing.{kept_on, kept_next, goes-with_memory, comes-with_memory, at_most}
use Rattle.call_recorder.proofs.record.run_on.Goals as goal

pub returns-in-Some-clause-comes : goal.returns-in-Some-clause-comes
returns-in-Some-clause-comes g c = λ opened before comes. c.in_ok-end.ensures.kept opened before (c.loop-next.invariant.comes opened before comes)

pub returns-in-Some-clause-checkpoints : goal.returns-in-Some-clause-checkpoints
returns-in-Some-clause-checkpoints g c =
    let so_far = c.loop-next.invariant in
    let ran = c.in_ok-end.ensures in
    let upto : c.run_to.new.self.machine.count ≤ (so_far.offers + 1) * c.args.every = omega (arith, at_most c.loop-next.next c.run_to.new.self c.in_ok-end.field-0 ran.went, so_far.next) in
    (so_far.offers, λ opened before comes kept. kept_on opened c.args.every so_far.offers c.loop-next.live c.run_to.new.self c.loop-next.kept (so_far.kept opened before comes kept) ran.calls ran.was ran.is ran.marks ran.from upto)

pub loop-next-preserved : goal.loop-next-preserved
loop-next-preserved g c =
    let so_far = c.loop-next.invariant in
    let ran = c.in_ok-end.ensures in
    let went = subst (RanTo c.loop-next.next c.run_to.new.self) c.in_default.is ran.went in
    let count : c.run_to.new.self.machine.count ≡ (so_far.offers + 1) * c.args.every = went.1 ∙ so_far.next in
    record {
      offers = so_far.offers + 1;
      next = omega (arith, so_far.next);
      goes = goes-with_memory c.run_to.new.self c.offer.new.f c.in_ok-offer.ensures.pages went.0;
      count = count;
      within = omega (arith, went.1, c.loop-next-test.true);
      comes = λ opened before comes. comes-with_memory opened (HearsAll g.W.World.hears before c.run_to.new.world) c.run_to.new.self c.offer.new.f c.in_ok-offer.ensures.pages (ran.kept opened before (so_far.comes opened before comes));
      kept = λ opened before comes kept.
          let there = kept_on opened c.args.every so_far.offers c.loop-next.live c.run_to.new.self c.loop-next.kept (so_far.kept opened before comes kept) ran.calls ran.was ran.is ran.marks ran.from (omega (arith, count)) in
          kept_next opened (HearsAll g.W.World.hears before c.run_to.new.world) c.args.every so_far.offers c.run_to.new.self c.loop-next.kept c.offer.new.self c.offer.new.f there (ran.kept opened before (so_far.comes opened before comes)) count c.in_ok-offer.ensures.kept;
    }

pub run_to-requires-2-clause-from : goal.run_to-requires-2-clause-from
run_to-requires-2-clause-from g c = c.loop-next.invariant.within

pub returns-in-Some-2-clause-comes : goal.returns-in-Some-2-clause-comes
returns-in-Some-2-clause-comes g c = λ opened before comes. c.in_ok-end-2.ensures.kept opened before (c.loop-next.invariant.comes opened before comes)

pub returns-in-Some-2-clause-checkpoints : goal.returns-in-Some-2-clause-checkpoints
returns-in-Some-2-clause-checkpoints g c =
    let so_far = c.loop-next.invariant in
    let ran = c.in_ok-end-2.ensures in
    let upto : c.run_to-2.new.self.machine.count ≤ (so_far.offers + 1) * c.args.every = omega (arith, at_most c.args.limit c.run_to-2.new.self c.in_ok-end-2.field-0 ran.went, so_far.next, c.loop-next-test.false) in
    (so_far.offers, λ opened before comes kept. kept_on opened c.args.every so_far.offers c.loop-next.live c.run_to-2.new.self c.loop-next.kept (so_far.kept opened before comes kept) ran.calls ran.was ran.is ran.marks ran.from upto)

pub returns-clause-comes : goal.returns-clause-comes
returns-clause-comes g c = λ opened before comes. c.in_ok-end-2.ensures.kept opened before (c.loop-next.invariant.comes opened before comes)

pub returns-clause-checkpoints : goal.returns-clause-checkpoints
returns-clause-checkpoints g c =
    let so_far = c.loop-next.invariant in
    let ran = c.in_ok-end-2.ensures in
    let upto : c.run_to-2.new.self.machine.count ≤ (so_far.offers + 1) * c.args.every = omega (arith, at_most c.args.limit c.run_to-2.new.self c.in_ok-end-2.field-0 ran.went, so_far.next, c.loop-next-test.false) in
    (so_far.offers, λ opened before comes kept. kept_on opened c.args.every so_far.offers c.loop-next.live c.run_to-2.new.self c.loop-next.kept (so_far.kept opened before comes kept) ran.calls ran.was ran.is ran.marks ran.from upto)

pub loop-next-init : goal.loop-next-init
loop-next-init g c = record {
  offers = 0;
  next = omega arith;
  goes = c.requires.goes;
  count = omega (arith, c.requires.start);
  within = omega (arith, c.requires.start);
  comes = λ opened before comes. comes;
  kept = λ opened before comes kept. record {
    are = λ rec more same. kept;
    from = omega (arith, c.requires.start);
    upto = omega (arith, c.requires.start);
  };
}
