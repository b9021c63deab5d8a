use Rattle.std.proofs.Common.{◌≡◌, Some, ltb, true, sym, arith}
use Rattle.std.proofs.lemmas.Bool.{lt-ltb, le-ltb}
use Rattle.epoch_core.specs.Schedule.{CoreState, claim, drawn}
use Rattle.epoch_core.proofs.Steps.{idle_goes, idle_barred, idle_nobody, idle_busy}
use Rattle.epoch_core.proofs.machine.CoreMachine.claim.Goals as goal
use Rattle.epoch_core.proofs.machine.CoreMachine.claim.Goals.{else-self-from-via-then-self-from+then-at-len+else-is_idle, else-self-from-via-then-self-from+else-at-len, else-self-from-via-else-self-from}

pub returns-then-is_idle : goal.returns-then-is_idle
unfolding claim
returns-then-is_idle c =
    let core : CoreState = record { next = c.self.inside.next; low = c.self.inside.low; seats = c.self.inside.seats.items } in
    let may : ltb core.next c.args.epochs ≡ true = lt-ltb core.next c.args.epochs (omega arith) in
    rw (← c.self.view_is) (sym (idle_goes (ltb core.next c.args.epochs) (λ seat. drawn core c.args.worker (record seat { held = Some core.next })) core c.args.worker
    c.index.result.now c.index_mut.result.now (omega arith) c.index.ensures c.index_mut.ensures.value c.if-is_idle.ensures may))

pub returns-else-self-from : goal.returns-else-self-from
unfolding claim
returns-else-self-from c =
    let core : CoreState = record { next = c.self.inside.next; low = c.self.inside.low; seats = c.self.inside.seats.items } in
    rw (← c.self.view_is) (elim c.else-self-from.branch [
      | else-self-from-via-then-self-from+then-at-len+else-is_idle w ↦ idle_busy _ _ core c.args.worker w.index.result.now (omega arith) w.index.ensures w.if-is_idle.ensures
      | else-self-from-via-then-self-from+else-at-len w ↦ idle_nobody _ _ core c.args.worker (omega arith)
      | else-self-from-via-else-self-from w ↦ idle_barred _ _ core c.args.worker (le-ltb core.next c.args.epochs (omega arith))
    ])
