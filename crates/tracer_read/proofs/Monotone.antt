-- What fits some locals fits more of them.
use Rattle.std.proofs.Common.{◌≤◌, ℕ, List, arith}
use Rattle.tracer_lang.specs.Tree.{Expression, number, local, register, program_counter, load, operation, is_zero, call, system_call, Arguments, no_arguments, argument, Statement, emit, set, block, choice, while, store, return, stop, run, Statements, no_statements, statement}
use Rattle.tracer_lang.specs.Limits.{FitsExpression, FitsArguments, FitsStatement, FitsStatements}

mutual
  pub FitsExpression-more : (counts : List ℕ) (n m : ℕ) (e : Expression) → n ≤ m
      → FitsExpression counts n e → FitsExpression counts m e
  FitsExpression-more counts n m (number value) le h = h
  FitsExpression-more counts n m (local index) le h = omega (arith, le, h)
  FitsExpression-more counts n m (register index) le h = h
  FitsExpression-more counts n m program_counter le h = h
  FitsExpression-more counts n m (load op address) le h =
      FitsExpression-more counts n m address le h
  FitsExpression-more counts n m (operation operator first second) le h =
      (FitsExpression-more counts n m first le h.0, FitsExpression-more counts n m second le h.1)
  FitsExpression-more counts n m (is_zero of) le h = FitsExpression-more counts n m of le h
  FitsExpression-more counts n m (call function arguments) le h =
      (h.0, h.1, FitsArguments-more counts n m arguments le h.2)
  FitsExpression-more counts n m (system_call code value) le h =
      (FitsExpression-more counts n m code le h.0, FitsExpression-more counts n m value le h.1)

  pub FitsArguments-more : (counts : List ℕ) (n m : ℕ) (es : Arguments) → n ≤ m
      → FitsArguments counts n es → FitsArguments counts m es
  FitsArguments-more counts n m no_arguments le h = h
  FitsArguments-more counts n m (argument first rest) le h =
      (FitsExpression-more counts n m first le h.0, FitsArguments-more counts n m rest le h.1)

mutual
  pub FitsStatement-more : (counts : List ℕ) (n m : ℕ) (s : Statement) → n ≤ m
      → FitsStatement counts n s → FitsStatement counts m s
  FitsStatement-more counts n m (emit value) le h = FitsExpression-more counts n m value le h
  FitsStatement-more counts n m (set index value) le h =
      (omega (arith, le, h.0), FitsExpression-more counts n m value le h.1)
  FitsStatement-more counts n m (block body) le h = FitsStatements-more counts n m body le h
  FitsStatement-more counts n m (choice condition first second) le h = (
    FitsExpression-more counts n m condition le h.0,
    FitsStatement-more counts n m first le h.1,
    FitsStatement-more counts n m second le h.2,
  )
  FitsStatement-more counts n m (while condition body) le h =
      (FitsExpression-more counts n m condition le h.0, FitsStatements-more counts n m body le h.1)
  FitsStatement-more counts n m (store op address value) le h =
      (FitsExpression-more counts n m address le h.0, FitsExpression-more counts n m value le h.1)
  FitsStatement-more counts n m (return value) le h = FitsExpression-more counts n m value le h
  FitsStatement-more counts n m (stop value) le h = FitsExpression-more counts n m value le h
  FitsStatement-more counts n m (run value) le h = FitsExpression-more counts n m value le h

  pub FitsStatements-more : (counts : List ℕ) (n m : ℕ) (ss : Statements) → n ≤ m
      → FitsStatements counts n ss → FitsStatements counts m ss
  FitsStatements-more counts n m no_statements le h = h
  FitsStatements-more counts n m (statement first rest) le h =
      (FitsStatement-more counts n m first le h.0, FitsStatements-more counts n m rest le h.1)
