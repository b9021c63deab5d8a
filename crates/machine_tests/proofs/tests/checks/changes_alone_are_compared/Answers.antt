use Rattle.std.proofs.Common.{ap}
use Rattle.checkpoints.specs.RecordedRun.{opened_of}
use Rattle.checkpoints.specs.Marked.{HoldsRecorded}
use Rattle.checkpoints.proofs.Marked.{recorded-holds, holds-goes_on}
use Rattle.machine_tests.proofs.tests.checks.changes_alone_are_compared.Goals as goal

pub differs-requires-clause-holds : goal.differs-requires-clause-holds
differs-requires-clause-holds g c =
    let kept = c.in_ok-checkpoints.checkpoints in
    let opened = opened_of kept in
    let f = c.state_at.new.f in
    holds-goes_on opened.pages kept.rec 1 f c.write.new.frames
    (recorded-holds kept.rec opened 1 f kept.opens (ap (λ s. s.pages) c.in_ok-state_at.ensures.state))
    c.write.ensures.goes_on c.write.ensures.kept.below

pub differs-requires-2-clause-holds : goal.differs-requires-2-clause-holds
differs-requires-2-clause-holds g c =
    let kept = c.in_ok-checkpoints.checkpoints in
    let opened = opened_of kept in
    let f = c.state_at.new.f in
    let first : HoldsRecorded opened.pages kept.rec 1 c.write.new.frames =
    holds-goes_on opened.pages kept.rec 1 f c.write.new.frames
    (recorded-holds kept.rec opened 1 f kept.opens (ap (λ s. s.pages) c.in_ok-state_at.ensures.state))
    c.write.ensures.goes_on c.write.ensures.kept.below in
    holds-goes_on opened.pages kept.rec 1 c.write.new.frames c.write-2.new.frames first
    c.write-2.ensures.goes_on c.write-2.ensures.kept.below
