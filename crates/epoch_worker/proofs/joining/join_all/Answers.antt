use Rattle.std.proofs.Common.{◌≡◌, ℕ, ◌+◌, ◌-◌, Result, Some, IfOk, vec_len, subst, arith}
use Rattle.std.proofs.lemmas.List.Elements.{All-pop}
use Rattle.sl_base.specs.declared.refused.Memory.{Memory}
use Rattle.epoch_worker.specs.declared.worker.Worked.{Worked}
use Rattle.epoch_worker.specs.Work.{HasFinished}
use Rattle.epoch_worker.proofs.Trays.{worked_and}
use Rattle.epoch_worker.proofs.joining.join_all.Goals as goal

pub loop-next-preserved : goal.loop-next-preserved
loop-next-preserved g c =
    let values = g.P.Epochs.values c.args._epochs.now in
    let board = c.args.board.now in
    let other = c.in_ok-other.field-0 in
    let seats : ℕ = vec_len c.args.all - vec_len c.loop-next.all in
    let left : ℕ = vec_len c.args.all - vec_len c.pop-in-loop-next.new.self in
    let more : seats + 1 ≡ left = omega (arith, c.in-Some-pop.ensures.cases, c.loop-next.invariant.fewer) in
    let Did : Result Worked Memory → Type 0 = λ r. IfOk r (HasFinished values board 1) in
    let parts = All-pop Did c.loop-next.all.items c.pop-in-loop-next.new.self.items (Some c.in-Some-pop.next) c.in-Some-pop.ensures.items c.loop-next.invariant.each in
    record {
      joined = worked_and values board seats 1 left c.loop-next.tray.items other.tray.items c.append.new.self.items c.loop-next.seat other.seat c.join.new.seat c.loop-next.invariant.joined
          (subst Did c.in_ok-other.was parts.1) more c.join.ensures c.in_ok-append.ensures.items;
      fewer = omega (arith, c.loop-next.invariant.fewer, c.in-Some-pop.ensures.cases);
      each = parts.0;
    }
