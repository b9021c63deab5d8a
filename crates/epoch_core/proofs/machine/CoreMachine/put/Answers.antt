use Rattle.std.proofs.Common.{refl, arith}
use Rattle.epoch_core.specs.Schedule.{CoreState}
use Rattle.epoch_core.proofs.Sound.{posted_is}
use Rattle.epoch_core.proofs.Steps.{seat_read, posted_nobody}
use Rattle.epoch_core.proofs.machine.CoreMachine.put.Goals as goal

pub returns-in_ok-push-clause-ok : goal.returns-in_ok-push-clause-ok
returns-in_ok-push-clause-ok c =
    let core : CoreState = record { next = c.self.inside.next; low = c.self.inside.low; seats = c.self.inside.seats.items } in
    let here = seat_read core c.args.worker c.index_mut-seat.result.now (omega arith) c.index_mut-seat.ensures.value in
    rw (← c.self.view_is, posted_is core c.args.worker c.index_mut-seat.result.now c.args.post here, c.in_ok-push.ensures.ok) refl

pub returns-else-at-len-clause-ok : goal.returns-else-at-len-clause-ok
returns-else-at-len-clause-ok c =
    let core : CoreState = record { next = c.self.inside.next; low = c.self.inside.low; seats = c.self.inside.seats.items } in
    rw (← c.self.view_is) (posted_nobody core c.args.worker c.args.post (omega arith))
