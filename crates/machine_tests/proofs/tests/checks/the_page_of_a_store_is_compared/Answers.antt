use Rattle.std.proofs.Common.{ap}
use Rattle.checkpoints.specs.RecordedRun.{opened_of}
use Rattle.checkpoints.specs.Marked.{HoldsRecorded}
use Rattle.checkpoints.proofs.Marked.{recorded-holds, holds-goes_on}
use Rattle.machine_tests.proofs.tests.checks.the_page_of_a_store_is_compared.Goals as goal

pub differs-requires-clause-holds : goal.differs-requires-clause-holds
differs-requires-clause-holds g c =
    let kept = c.in_ok-checkpoints.checkpoints in
    let opened = opened_of kept in
    let f = c.state_at.new.f in
    holds-goes_on opened.pages kept.rec 4 f c.step_once-outcome.new.f
    (recorded-holds kept.rec opened 4 f kept.opens (ap (λ s. s.pages) c.in_ok-state_at.ensures.state))
    c.step_once-outcome.ensures.goes_on c.step_once-outcome.ensures.kept.below

pub differs-requires-2-clause-holds : goal.differs-requires-2-clause-holds
differs-requires-2-clause-holds g c =
    let kept = c.in_ok-checkpoints.checkpoints in
    let opened = opened_of kept in
    let f = c.state_at.new.f in
    let first : HoldsRecorded opened.pages kept.rec 4 c.step_once-outcome.new.f =
    holds-goes_on opened.pages kept.rec 4 f c.step_once-outcome.new.f
    (recorded-holds kept.rec opened 4 f kept.opens (ap (λ s. s.pages) c.in_ok-state_at.ensures.state))
    c.step_once-outcome.ensures.goes_on c.step_once-outcome.ensures.kept.below in
    holds-goes_on opened.pages kept.rec 4 c.step_once-outcome.new.f c.store.new.self first
    c.store.ensures.marks c.dirty_len-dirty.ensures.kept.below
