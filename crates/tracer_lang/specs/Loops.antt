-- A loop, as it reads.
use Rattle.std.specs.Prelude.{◌≡◌, ℕ, List}
use Rattle.sl_model.specs.State.{State}
use Rattle.tracer_lang.specs.Tree.{Expression, while, Statements, FunctionTree}
use Rattle.tracer_lang.specs.Meaning.{Now, Outcome, Goes, Enter, then_do, choose, with_unit, expression_meaning, statement_meaning, statements_meaning, entering}

-- The condition; where it is 0, the loop ends. Else a unit is taken, or the tracer ends where none
-- is left; then the body, and the loop again.
abbrev pub loop_again : State → Enter → Expression → Statements → Now → Outcome
loop_again s enter condition body now =
    then_do (expression_meaning s enter condition now) (λ c.
    choose c
    (with_unit (λ t. then_do (statements_meaning s enter body t) (λ _.
    statement_meaning s enter (while condition body))))
    (Goes 0))

-- so is each loop in the body of a tracer or a function, however many calls may still be open
abbrev pub LoopsUnfold : Type 0
LoopsUnfold =
    (s : State) (functions : List FunctionTree) (calls : ℕ) (condition : Expression)
    (body : Statements) (now : Now)
    → statement_meaning s (entering s functions calls) (while condition body) now
    ≡ loop_again s (entering s functions calls) condition body now
