use Rattle.std.proofs.Common.{◌≡◌, leb, true, sym, arith}
use Rattle.std.proofs.lemmas.Bool.{le-leb, lt-leb}
use Rattle.epoch_core.specs.Schedule.{CoreState, leave, drawn}
use Rattle.epoch_core.proofs.Steps.{idle_goes, idle_barred, idle_nobody, idle_busy}
use Rattle.epoch_core.proofs.machine.CoreMachine.leave.Goals as goal
use Rattle.epoch_core.proofs.machine.CoreMachine.leave.Goals.{else-self-from-via-then-self-from+then-at-len+else-is_idle, else-self-from-via-then-self-from+else-at-len, else-self-from-via-else-self-from}

pub returns-then-is_idle : goal.returns-then-is_idle
unfolding leave
returns-then-is_idle c =
    let core : CoreState = record { next = c.self.inside.next; low = c.self.inside.low; seats = c.self.inside.seats.items } in
    let may : leb c.args.epochs core.next ≡ true = le-leb c.args.epochs core.next (omega arith) in
    rw (← c.self.view_is) (sym (idle_goes (leb c.args.epochs core.next) (λ seat. drawn core c.args.worker (record seat { has_left = true })) core c.args.worker
    c.index.result.now c.index_mut.result.now (omega arith) c.index.ensures c.index_mut.ensures.value c.if-is_idle.ensures may))

pub returns-else-self-from : goal.returns-else-self-from
unfolding leave
returns-else-self-from c =
    let core : CoreState = record { next = c.self.inside.next; low = c.self.inside.low; seats = c.self.inside.seats.items } in
    rw (← c.self.view_is) (elim c.else-self-from.branch [
      | else-self-from-via-then-self-from+then-at-len+else-is_idle w ↦ idle_busy _ _ core c.args.worker w.index.result.now (omega arith) w.index.ensures w.if-is_idle.ensures
      | else-self-from-via-then-self-from+else-at-len w ↦ idle_nobody _ _ core c.args.worker (omega arith)
      | else-self-from-via-else-self-from w ↦ idle_barred _ _ core c.args.worker (lt-leb c.args.epochs core.next (omega arith))
    ])
