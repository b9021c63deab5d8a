use Rattle.std.proofs.Common.{Some, refl, sym, ap, subst}
use Rattle.outside.specs.World.{HearsAll}
use Rattle.outside.proofs.Hearing.{hears_none}
use Rattle.cli_words.specs.Orders.{Order}
use Rattle.cli_words.specs.Views.{order_view}
use Rattle.sledge_top.specs.Generating.{GeneratesTo, IfGen}
use Rattle.sledge_top.specs.Views.{ComesSo}
use Rattle.sledge_top.proofs.GeneratedRuns.{order_so}
use Rattle.sledge_top.proofs.command.done_by.Goals as goal

pub returns-in-Gen-clause-answer : goal.returns-in-Gen-clause-answer
returns-in-Gen-clause-answer g c =
    order_so (order_view c.args.order.now) c.in-Gen.seed c.in-Gen.size (g.S.Store.told c.args.store.now) (HearsAll g.W.World.hears c.args.world.now c.args.world.now) c.generate_and_trace.result
    (ap order_view c.in-Gen.is) (hears_none g.W.World.hears c.args.world.now c.args.world.now refl) c.generate_and_trace.ensures.answer

pub returns-in-Gen-clause-generated : goal.returns-in-Gen-clause-generated
returns-in-Gen-clause-generated g c = subst (λ (o : Order). IfGen (Some o) (λ seed size. ComesSo (GeneratesTo seed size) c.generate_and_trace.result)) (sym (ap order_view c.in-Gen.is)) c.generate_and_trace.ensures.answer

pub returns-in-Gen-clause-failed : goal.returns-in-Gen-clause-failed
returns-in-Gen-clause-failed g c is = absurd (c.generate_and_trace.ensures.no_store is)
