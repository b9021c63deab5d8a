use Rattle.std.specs.Prelude.{Some, []}
use Rattle.std.proofs.Common.{◌≡◌, ℕ, ◌+◌, ◌-◌, ◌*◌, ◌≤◌, List, ◌∷◌, ◌++◌, refl, sym, ap, subst, ◌∙◌, true, arith}
use Rattle.sl_model.specs.Pages.{Pages}
use Rattle.sl_model.specs.State.{State, Fits}
use Rattle.rv_machine.specs.Machine.{state_of}
use Rattle.replay.specs.Run.{run_from}
use Rattle.call_recorder.specs.Recut.{first_states}
use Rattle.call_recorder.specs.Kept.{AreKept}
use Rattle.call_recorder.proofs.Offers.{goes_on}
use Rattle.call_recorder.proofs.Runs.{run-zero}
use Rattle.call_recorder.proofs.Replaying.{goes_to, run_then, next_state}
use Rattle.call_recorder.proofs.recutting.replay_on.Goals as goal

pub loop-next-init : goal.loop-next-init
loop-next-init g c =
    let s : State = state_of c.args.m.now c.args.f.now.pages in
    record {
      offers = 0;
      next = omega arith;
      fits = c.requires.fits;
      count = omega (arith, c.requires.start);
      within = omega (arith, c.requires.start);
      run = ap (run_from c.args.rec.now s) c.requires.start ∙ run-zero c.args.rec.now s;
      are = λ kept. kept;
    }

pub replay_to-requires-clause-goes : goal.replay_to-requires-clause-goes
replay_to-requires-clause-goes g c =
    let so_far = c.loop-next.invariant in
    goes_to c.args.rec.now (state_of c.args.m.now c.args.f.now.pages) (state_of c.loop-next.m c.loop-next.f.pages) c.loop-next.m.count c.args.rec.now.last.count so_far.run c.requires.goes c.loop-next.next (omega (arith, so_far.count, so_far.next)) (omega (arith, c.loop-next-test.true))

pub loop-next-preserved : goal.loop-next-preserved
loop-next-preserved g c =
    let so_far = c.loop-next.invariant in
    let ran = c.in_ok-replay_to.ensures in
    let start : State = state_of c.args.m.now c.args.f.now.pages in
    let there : State = state_of c.replay_to.new.m c.replay_to.new.f.pages in
    let at_next : c.replay_to.new.m.count ≡ (so_far.offers + 1) * c.args.every = ran.count ∙ so_far.next in
    let run : run_from c.args.rec.now start c.replay_to.new.m.count ≡ Some there = ap (run_from c.args.rec.now start) ran.count ∙ run_then c.args.rec.now start (state_of c.loop-next.m c.loop-next.f.pages) there c.loop-next.m.count c.loop-next.next so_far.run (omega (arith, so_far.count, so_far.next)) ran.ran in
    let same : there ≡ state_of c.replay_to.new.m c.offer.new.f.pages = ap (λ (p : Pages). state_of c.replay_to.new.m p) (sym c.in_ok-offer.ensures.pages) in
    record {
      offers = so_far.offers + 1;
      next = omega (arith, so_far.next);
      fits = subst Fits same ran.fits;
      count = at_next;
      within = omega (arith, ran.count, c.loop-next-test.true);
      run = run ∙ ap Some same;
      are = λ kept. subst (λ (l : List State). AreKept c.args.f.now.pages l c.offer.new.self c.offer.new.f) (next_state c.args.rec.now start there c.args.every so_far.offers c.replay_to.new.m.count run at_next)
          (c.in_ok-offer.ensures.kept c.args.f.now.pages (first_states c.args.rec.now start c.args.every so_far.offers)
          (goes_on c.args.f.now.pages (first_states c.args.rec.now start c.args.every so_far.offers) c.loop-next.kept c.loop-next.f c.replay_to.new.f ran.was ran.is ran.marks (so_far.are kept)));
    }

pub replay_to-requires-2-clause-goes : goal.replay_to-requires-2-clause-goes
replay_to-requires-2-clause-goes g c =
    let so_far = c.loop-next.invariant in
    goes_to c.args.rec.now (state_of c.args.m.now c.args.f.now.pages) (state_of c.loop-next.m c.loop-next.f.pages) c.loop-next.m.count c.args.rec.now.last.count so_far.run c.requires.goes c.args.rec.now.last.count so_far.within (omega arith)

pub returns-clause-ran : goal.returns-clause-ran
returns-clause-ran g c =
    let so_far = c.loop-next.invariant in
    run_then c.args.rec.now (state_of c.args.m.now c.args.f.now.pages) (state_of c.loop-next.m c.loop-next.f.pages) (state_of c.replay_to-2.new.m c.replay_to-2.new.f.pages) c.loop-next.m.count c.args.rec.now.last.count so_far.run so_far.within c.in_ok-replay_to-2.ensures.ran

pub returns-clause-kept : goal.returns-clause-kept
returns-clause-kept g c =
    let so_far = c.loop-next.invariant in
    let ran = c.in_ok-replay_to-2.ensures in
    let start : State = state_of c.args.m.now c.args.f.now.pages in (
      so_far.offers,
      record {
        are = λ kept. goes_on c.args.f.now.pages (first_states c.args.rec.now start c.args.every so_far.offers) c.loop-next.kept c.loop-next.f c.replay_to-2.new.f ran.was ran.is ran.marks (so_far.are kept);
        from = omega (arith, so_far.count, so_far.within);
        upto = omega (arith, so_far.next, c.loop-next-test.false);
      },
    )
