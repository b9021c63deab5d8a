-- The limits of scripts have one proof at most, so that a type can keep them.
use Rattle.std.specs.Prelude.{ℕ, List}
use Rattle.std.proofs.Props.{props}
use mathlib.Core.HLevel.{×_prop, Unit-prop}
use Rattle.tracer_lang.specs.declared.tree.Point.{Point}
use Rattle.tracer_lang.specs.declared.tree.Point.TheVariants.{Addr, Enter, Store}
use Rattle.tracer_lang.specs.Tree.{Expression, number, local, register, program_counter, load, operation, is_zero, call, system_call, Arguments, no_arguments, argument, Statement, emit, set, block, choice, while, store, return, stop, run, Statements, no_statements, statement, ScriptTree}
use Rattle.tracer_lang.specs.Limits.{FitsExpression, FitsArguments, FitsStatement, FitsStatements, FitsPoint, IsWithinLimits}

mutual
  pub FitsExpression-prop :
      (counts : List ℕ) (locals : ℕ) (e : Expression) → IsProp (FitsExpression counts locals e)
  FitsExpression-prop counts locals (number value) = Prim.hlevel props
  FitsExpression-prop counts locals (local index) = Prim.hlevel props
  FitsExpression-prop counts locals (register index) = Prim.hlevel props
  FitsExpression-prop counts locals program_counter = Unit-prop
  FitsExpression-prop counts locals (load op address) = FitsExpression-prop counts locals address
  FitsExpression-prop counts locals (operation operator first second) =
      ×_prop (FitsExpression-prop counts locals first) (FitsExpression-prop counts locals second)
  FitsExpression-prop counts locals (is_zero of) = FitsExpression-prop counts locals of
  FitsExpression-prop counts locals (call function arguments) =
      Prim.hlevel (props, FitsArguments-prop counts locals arguments)
  FitsExpression-prop counts locals (system_call code value) =
      ×_prop (FitsExpression-prop counts locals code) (FitsExpression-prop counts locals value)

  pub FitsArguments-prop :
      (counts : List ℕ) (locals : ℕ) (es : Arguments) → IsProp (FitsArguments counts locals es)
  FitsArguments-prop counts locals no_arguments = Unit-prop
  FitsArguments-prop counts locals (argument first rest) =
      ×_prop (FitsExpression-prop counts locals first) (FitsArguments-prop counts locals rest)

mutual
  pub FitsStatement-prop :
      (counts : List ℕ) (locals : ℕ) (s : Statement) → IsProp (FitsStatement counts locals s)
  FitsStatement-prop counts locals (emit value) = FitsExpression-prop counts locals value
  FitsStatement-prop counts locals (set index value) =
      ×_prop (Prim.hlevel props) (FitsExpression-prop counts locals value)
  FitsStatement-prop counts locals (block body) = FitsStatements-prop counts locals body
  FitsStatement-prop counts locals (choice condition first second) =
      Prim.hlevel (
        FitsExpression-prop counts locals condition,
        FitsStatement-prop counts locals first,
        FitsStatement-prop counts locals second,
      )
  FitsStatement-prop counts locals (while condition body) =
      ×_prop (FitsExpression-prop counts locals condition) (FitsStatements-prop counts locals body)
  FitsStatement-prop counts locals (store op address value) =
      ×_prop (FitsExpression-prop counts locals address) (FitsExpression-prop counts locals value)
  FitsStatement-prop counts locals (return value) = FitsExpression-prop counts locals value
  FitsStatement-prop counts locals (stop value) = FitsExpression-prop counts locals value
  FitsStatement-prop counts locals (run value) = FitsExpression-prop counts locals value

  pub FitsStatements-prop :
      (counts : List ℕ) (locals : ℕ) (ss : Statements) → IsProp (FitsStatements counts locals ss)
  FitsStatements-prop counts locals no_statements = Unit-prop
  FitsStatements-prop counts locals (statement first rest) =
      ×_prop (FitsStatement-prop counts locals first) (FitsStatements-prop counts locals rest)

pub FitsPoint-prop : (point : Point) → IsProp (FitsPoint point)
FitsPoint-prop (Addr address) = Prim.hlevel props
FitsPoint-prop (Enter address) = Prim.hlevel props
FitsPoint-prop (Store address len) = Prim.hlevel props

ruleset limit_props = (props, FitsStatements-prop, FitsPoint-prop)

pub IsWithinLimits-prop : (s : ScriptTree) → IsProp (IsWithinLimits s)
IsWithinLimits-prop s = Prim.hlevel limit_props
