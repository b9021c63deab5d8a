use Rattle.std.proofs.Common.{List, sym, subst, ◌∙◌}
use Rattle.epoch_core.specs.declared.post.Post.{Post}
use Rattle.epoch_worker.specs.Work.{HasAdded}
use Rattle.epoch_worker.proofs.Trays.{added_on, stays_claimed}
use Rattle.epoch_worker.proofs.worker.work.Goals as goal

pub loop-epoch-preserved : goal.loop-epoch-preserved
loop-epoch-preserved g c =
    let values = g.P.Epochs.values c.args.epochs.now in
    let on = added_on values c.loop-epoch.tray.items c.args.seat c.loop-epoch.seat c.claim.new.seat c.low.new.seat c.tell_break.new.seat _ c.low.result _ c.in_ok-post.post c.loop-epoch.invariant.added
    c.in-Some.ensures.claimed c.low.ensures.seen c.tell_break.ensures c.in_ok-post.ensures.epoch c.smaller-below.ensures c.in_ok-post.ensures.due in
    let added = subst (λ (tray : List Post). HasAdded values tray c.args.seat c.tell_break.new.seat) (sym c.in_ok-push.ensures.items) on.0 in
    record {
      added = added;
      own = added.board ∙ c.requires.own;
      not_told = on.1 ∙ c.loop-epoch.invariant.not_told;
      stands = c.in_ok-post.ensures.stands;
    }

pub tell_break-requires-clause-claimed : goal.tell_break-requires-clause-claimed
tell_break-requires-clause-claimed g c =
    stays_claimed c.loop-epoch.seat c.claim.new.seat c.low.new.seat _ _ c.low.result c.in-Some.ensures.claimed c.low.ensures.seen c.in_ok-post.ensures.epoch
