-- What holds in the loops of the evaluation: where the code stands before the rest of a list, what
-- is left to do means the same as the whole from the start on.
use Rattle.std.proofs.Common.{◌≡◌, ℕ, ◌+◌, ◌≤◌, List, [], length, arith, ◌∙◌}
use Rattle.sl_model.specs.State.{State}
use Rattle.tracer_lang.specs.Tree.{Expression, Arguments, Statements}
use Rattle.tracer_lang.specs.Limits.{argument_count, arguments_nodes, statements_nodes, FitsExpression, FitsArguments, FitsStatements}
use Rattle.tracer_lang.specs.Meaning.{Now, Outcome, Enter, arguments_meaning, statements_meaning, turns}
use Rattle.tracer_mean.specs.declared.progress.Progress.{Progress}
use Rattle.tracer_mean.specs.Evaluated.{now_of, KeepsBody}

pub record ArgumentsLeft (counts : List ℕ) (s : State) (enter : Enter)
    (follow : List ℕ → Now → Outcome) (all : Arguments) (begin : Progress)
    (rest : Arguments) (values : List ℕ) (now : Progress) : Type 0 where
  pub same : arguments_meaning s enter all [] follow (now_of begin)
      ≡ arguments_meaning s enter rest values follow (now_of now)
  pub fits : FitsArguments counts (length now.locals.items) rest
  pub count : length values + argument_count rest ≡ argument_count all
  pub nodes : arguments_nodes rest ≤ arguments_nodes all
  pub kept : KeepsBody begin now

pub record StatementsLeft (counts : List ℕ) (s : State) (enter : Enter)
    (all : Statements) (begin : Progress) (rest : Statements) (now : Progress) : Type 0 where
  pub same : statements_meaning s enter all (now_of begin)
      ≡ statements_meaning s enter rest (now_of now)
  pub fits : FitsStatements counts (length now.locals.items) rest
  pub nodes : statements_nodes rest ≤ statements_nodes all
  pub kept : KeepsBody begin now

pub record TurnsLeft (counts : List ℕ) (condition : Expression) (body : Statements)
    (test turn : Now → Outcome) (begin now : Progress) : Type 0 where
  -- as many turns as are counted down, which are not fewer than the units
  pub left : ℕ
  pub enough : now.units ≤ left
  pub same : turns test turn begin.units (now_of begin) ≡ turns test turn left (now_of now)
  pub fits_condition : FitsExpression counts (length now.locals.items) condition
  pub fits_body : FitsStatements counts (length now.locals.items) body
  pub kept : KeepsBody begin now

-- what a body keeps, step by step
pub kept_through : (a b c d : Progress) → KeepsBody a b → KeepsBody b c → KeepsBody c d
    → KeepsBody a d
kept_through a b c d ab bc cd = record {
  locals = cd.locals ∙ bc.locals ∙ ab.locals;
  units = omega (arith, ab.units, bc.units, cd.units);
}
