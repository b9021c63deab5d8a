use Rattle.std.proofs.Common.{inl, inr, ⊎_elim}
use Rattle.outside.specs.Files.{Files}
use Rattle.outside.specs.World.{HearsAll}
use Rattle.cli_words.specs.Orders.{order_of}
use Rattle.cli_words.specs.Views.{texts}
use Rattle.sledge_top.specs.Answer.{ComesTo}
use Rattle.sledge_top.proofs.Finishing.{answered_where_told, generated_so}
use Rattle.sledge_top.proofs.command.run.Goals as goal

pub returns-clause-answer : goal.returns-clause-answer
returns-clause-answer g c =
    answered_where_told
    (λ (files : Files). ComesTo files (order_of (texts c.args.words.now)) (HearsAll g.W.World.hears c.args.world.now c.named-outcome.new.world))
    (g.S.Store.told c.args.store.now) (g.S.Store.told c.named-outcome.new.store) c.named-outcome.result
    c.finish.result (g.S.Store.told c.finish.new.store) (g.O.Sink.written c.args.out.now) (g.O.Sink.written c.finish.new.out)
    c.named-outcome.ensures.same c.named-outcome.ensures.answer c.finish.ensures.answer

pub returns-clause-generated : goal.returns-clause-generated
returns-clause-generated g c =
    generated_so (order_of (texts c.args.words.now)) c.named-outcome.result c.finish.result (g.O.Sink.written c.args.out.now) (g.O.Sink.written c.finish.new.out)
    c.named-outcome.ensures.generated c.finish.ensures.alone

pub returns-clause-usage_always : goal.returns-clause-usage_always
returns-clause-usage_always g c = λ none. ⊎_elim
    (λ usage. inl (c.finish.ensures.usage usage))
    (λ memory. inr (c.finish.ensures.memory memory))
    (c.named-outcome.ensures.usage_always none)
