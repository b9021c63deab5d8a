-- Lists that are made from the last item on.
use Rattle.std.proofs.Common.{◌≡◌, List, [], ◌∷◌, ◌++◌, map, refl, ap, ◌∙◌}
use Rattle.std.proofs.lemmas.List.{map-append}
use Rattle.tracer_lang.specs.declared.tree.Expr.{Expr}
use Rattle.tracer_lang.specs.declared.tree.Stmt.{Stmt}
use Rattle.tracer_lang.specs.Tree.{Expression, Arguments, argument, Statement, Statements, statement, expression_of, statement_of}
use Rattle.tracer_read.specs.Fronts.{arguments_before, statements_before}

arguments_before-push : (es : List Expression) (e : Expression) (rest : Arguments)
    → arguments_before (es ++ e ∷ []) rest ≡ arguments_before es (argument e rest)
arguments_before-push [] e rest = refl
arguments_before-push (x ∷ es) e rest = ap (argument x) (arguments_before-push es e rest)

statements_before-push : (ss : List Statement) (s : Statement) (rest : Statements)
    → statements_before (ss ++ s ∷ []) rest ≡ statements_before ss (statement s rest)
statements_before-push [] s rest = refl
statements_before-push (x ∷ ss) s rest = ap (statement x) (statements_before-push ss s rest)

-- the last expression goes from the list to the arguments
pub last_argument : (all front : List Expr) (e : Expr) (rest : Arguments) → all ≡ front ++ e ∷ []
    → arguments_before (map expression_of all) rest
    ≡ arguments_before (map expression_of front) (argument (expression_of e) rest)
last_argument all front e rest is =
    ap (λ es. arguments_before (map expression_of es) rest) is
    ∙ ap (λ es. arguments_before es rest) (map-append expression_of front (e ∷ []))
    ∙ arguments_before-push (map expression_of front) (expression_of e) rest

pub last_statement : (all front : List Stmt) (s : Stmt) (rest : Statements) → all ≡ front ++ s ∷ []
    → statements_before (map statement_of all) rest
    ≡ statements_before (map statement_of front) (statement (statement_of s) rest)
last_statement all front s rest is =
    ap (λ ss. statements_before (map statement_of ss) rest) is
    ∙ ap (λ ss. statements_before ss rest) (map-append statement_of front (s ∷ []))
    ∙ statements_before-push (map statement_of front) (statement_of s) rest
