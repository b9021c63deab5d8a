use Rattle.std.proofs.Common.{[], ◌∷◌, ◌++◌, ◌-◌, ap, ◌∙◌}
use Rattle.tracer_compile.proofs.Emitting.{choice_stands, while_stands}
use Rattle.tracer_compile.proofs.scope.Scope.+statements.Goals as goal

pub choice-returns : goal.choice-returns
choice-returns t c =
    choice_stands _ _ _ _ _ _ _ _ _ _ _ _ _ _ _ _ c.in_ok-expression.ensures
    (c.in_ok-push.ensures.items
    ∙ ap (λ i. c.expression.new.code.items ++ i ∷ []) c.skip_if.ensures)
    (c.len-to_second.ensures ∙ c.push.new.self.ok.0) c.in_ok-push-2.ensures.items
    c.in_ok-statement.ensures (c.len-to_end.ensures ∙ c.statement.new.code.ok.0)
    c.in_ok-push-3.ensures.items c.lead_here.ensures c.in_ok-statement-2.ensures
    c.lead_here-2.ensures

pub turns-returns : goal.turns-returns
turns-returns t c =
    while_stands _ _ _ _ _ _ _ _ _ _ _ _ _ _ (c.len-start.ensures ∙ c.args.code.now.ok.0)
    c.in_ok-expression.ensures
    (c.in_ok-push.ensures.items
    ∙ ap (λ i. c.expression.new.code.items ++ i ∷ []) c.skip_if.ensures)
    (c.len-to_end.ensures ∙ c.push.new.self.ok.0) c.in_ok-push-2.ensures.items
    c.in_ok-unit.ensures c.in_ok-statements.ensures
    (ap (λ n. n - c.len-start.result) (c.len.ensures ∙ c.statements.new.code.ok.0))
    (c.in_ok-push-3.ensures.items
    ∙ ap (λ i. c.statements.new.code.items ++ i ∷ []) c.jump_back.ensures)
    c.lead_here.ensures
