use Rattle.std.proofs.Common.{sym, ap, ◌∙◌}
use Rattle.rv_machine.specs.Machine.{state_of}
use Rattle.sl_model.specs.NextStore.{next_store}
use Rattle.tracepoints.proofs.Firing.{next_store-wide}
use Rattle.tracepoints.proofs.Walks.{unwatched, none_where}
use Rattle.tracepoints.specs.Chains.{firing_at}
use Rattle.tracepoints.proofs.points.Points.look.Goals as goal
use Rattle.tracepoints.proofs.points.Points.look.Goals.{then-watches, else-watches}

pub walk-requires-clause-width : goal.walk-requires-clause-width
walk-requires-clause-width c =
    let s = state_of c.args.m.now c.args.f.now.pages in
    elim c.if-watches.branch [
      | then-watches w ↦ rw (w.store-is, w.store_of-store.ensures) (next_store-wide s)
      | else-watches w ↦ rw w.store-is tt
    ]

pub returns : goal.returns
returns c =
    let s = state_of c.args.m.now c.args.f.now.pages in
    let points = c.args.self.now in
    elim c.if-watches.branch [
      | then-watches w ↦
          c.walk.ensures ∙ ap (firing_at points s.pc) (w.store-is ∙ w.store_of-store.ensures)
      | else-watches w ↦
          c.walk.ensures
          ∙ unwatched points s.pc c.if-watches.store (next_store s)
          (none_where _ (sym c.watches.ensures ∙ w.if-watches.false))
    ]
