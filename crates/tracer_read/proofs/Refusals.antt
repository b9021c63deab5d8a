-- Refusals and values of steps, one after the other.
use Rattle.std.proofs.Common.{◌≡◌, List, [], ◌∷◌, ◌++◌, map, Result, Ok, Err, refl, sym, ap, subst}
use Rattle.sl_base.specs.declared.refused.Refused.{Refused}
use Rattle.sl_base.specs.declared.refused.Refused.TheVariants.{Fault, Memory}
use Rattle.sl_base.specs.Refusals.{Fails}
use Rattle.tracer_text.specs.declared.fault.ScriptFault.{ScriptFault}
use Rattle.tracer_lang.specs.declared.tree.Expr.{Expr}
use Rattle.tracer_lang.specs.declared.tree.Stmt.{Stmt}
use Rattle.tracer_lang.specs.Tree.{Expression, Arguments, argument, expression_of, Statements, statement, statement_of}
use Rattle.tracer_read.specs.Fronts.{arguments_before, statements_before}
use Rattle.tracer_text.specs.declared.token.Token.{Token}
use Rattle.tracer_read.specs.Parts.{◌>>=◌}
use Rattle.tracer_read.specs.Expressions.{all}
use Rattle.tracer_read.specs.Statements.{Reading, Step, in_order}
use Rattle.tracer_read.proofs.Chains.{last_argument, last_statement}

-- a refusal of the first step is one of both
pub Fails-bind : {A B : Type 0} (e : Refused ScriptFault) (r : Result A ScriptFault)
    (f : A → Result B ScriptFault)
    → Fails e r → Fails e (r >>= f)
Fails-bind Memory r f h = tt
Fails-bind (Fault fault) r f h = ap (λ x. x >>= f) h

-- what is read goes on with what is left
abbrev pub with_front : List Expr → Result Arguments ScriptFault → Result Arguments ScriptFault
with_front front rest = rest >>= λ es. Ok (arguments_before (map expression_of front) es)

pub read_more : (front : List Expr) (x : Expr) (r : Result Expression ScriptFault)
    (more : List (Result Expression ScriptFault))
    → r ≡ Ok (expression_of x)
    → with_front (front ++ x ∷ []) (all more) ≡ with_front front (all (r ∷ more))
read_more front x r more is =
    subst (λ r. with_front (front ++ x ∷ []) (all more) ≡ with_front front (all (r ∷ more)))
    (sym is)
    (elim (all more) as (λ rest. with_front (front ++ x ∷ []) rest ≡ with_front front
    (rest >>= λ es. Ok (argument (expression_of x) es)))
    [ Ok es ↦ ap Ok (last_argument (front ++ x ∷ []) front x es refl) | Err e ↦ refl ])

pub fails_here : (front : List Expr) (e : Refused ScriptFault) (r : Result Expression ScriptFault)
    (more : List (Result Expression ScriptFault))
    → Fails e r → Fails e (with_front front (all (r ∷ more)))
fails_here front e r more h =
    Fails-bind e (all (r ∷ more)) _ (Fails-bind e r _ h)

-- a refusal for the fault that is due
pub Fails-told : {A : Type 0} (e : Refused ScriptFault) (f : ScriptFault) (r : Result A ScriptFault)
    → e ≡ Fault f → r ≡ Err f → Fails e r
Fails-told e f r told due = subst (λ (e : Refused ScriptFault). Fails e r) (sym told) due

-- statements that are read go on with those that are left
abbrev pub with_statements : List Stmt → Reading Statements → Reading Statements
with_statements front rest = rest >>= λ x. Ok (statements_before (map statement_of front) x.0, x.1)

pub read_statement : (front : List Stmt) (s : Stmt) (step : Step) (steps : List Step)
    (before after : List Token)
    → step before ≡ Ok (statement_of s, after)
    → with_statements (front ++ s ∷ []) (in_order steps after) ≡ with_statements front
    (in_order (step ∷ steps) before)
read_statement front s step steps before after is =
    subst (λ r. with_statements (front ++ s ∷ []) (in_order steps after) ≡ with_statements front
    (r >>= λ first. in_order steps first.1 >>= λ rest. Ok (statement first.0 rest.0, rest.1)))
    (sym is)
    (elim (in_order steps after) as (λ rest. with_statements
    (front ++ s ∷ []) rest ≡ with_statements front
    (rest >>= λ rest. Ok (statement (statement_of s) rest.0, rest.1))) [
      | Ok x ↦ ap (λ ss. Ok (ss, x.1)) (last_statement (front ++ s ∷ []) front s x.0 refl)
      | Err e ↦
          refl
    ])
