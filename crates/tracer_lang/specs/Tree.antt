-- Scripts as trees, without the places in memory.
use Rattle.std.specs.Prelude.{ℕ, List, map}
use Rattle.sl_model.specs.declared.instr.LoadOp.{LoadOp}
use Rattle.sl_model.specs.declared.instr.StoreOp.{StoreOp}
use Rattle.tracer_lang.specs.declared.tree.Operator.{Operator}
use Rattle.tracer_lang.specs.declared.tree.Expr.{Expr}
use Rattle.tracer_lang.specs.declared.tree.Expr.TheVariants.{Number, Local, Register, Pc, Load', Operation', IsZero', Call, Sys'}
use Rattle.tracer_lang.specs.declared.tree.Args.{Args}
use Rattle.tracer_lang.specs.declared.tree.Args.TheVariants as more_args
use Rattle.tracer_lang.specs.declared.tree.Stmt.{Stmt}
use Rattle.tracer_lang.specs.declared.tree.Stmt.TheVariants.{Emit, Set, Do, If', While, Store, Return, Stop, Run}
use Rattle.tracer_lang.specs.declared.tree.Block.{Block}
use Rattle.tracer_lang.specs.declared.tree.Block.TheVariants as more_block
use Rattle.tracer_lang.specs.declared.tree.Function.{Function}
use Rattle.tracer_lang.specs.declared.tree.Point.{Point}
use Rattle.tracer_lang.specs.declared.tree.Tracepoint.{Tracepoint}

-- what gives a word; and the arguments of a call, in order
mutual
  pub data Expression : Type 0 where
    -- a number, or the value of a symbol
    number : (value : ℕ) → Expression
    -- the local of this number in its body
    local : (index : ℕ) → Expression
    -- the register of this number at the tracepoint
    register : (index : ℕ) → Expression
    -- the program counter at the tracepoint
    program_counter : Expression
    load : (op : LoadOp) (address : Expression) → Expression
    operation : (operator : Operator) (first second : Expression) → Expression
    -- 1 where the value is 0, else 0
    is_zero : (of : Expression) → Expression
    -- what the function of this number gives
    call : (function : ℕ) (arguments : Arguments) → Expression
    -- what a system call gives
    system_call : (number argument : Expression) → Expression

  pub data Arguments : Type 0 where
    no_arguments : Arguments
    argument : (first : Expression) (rest : Arguments) → Arguments

-- what is done; and statements in order
mutual
  pub data Statement : Type 0 where
    emit : (value : Expression) → Statement
    -- the local of this number becomes a value
    set : (index : ℕ) (value : Expression) → Statement
    block : (body : Statements) → Statement
    -- the first where the condition is not 0, else the second
    choice : (condition : Expression) (first second : Statement) → Statement
    while : (condition : Expression) (body : Statements) → Statement
    store : (op : StoreOp) (address value : Expression) → Statement
    return : (value : Expression) → Statement
    stop : (value : Expression) → Statement
    -- evaluates, and drops the value
    run : (value : Expression) → Statement

  pub data Statements : Type 0 where
    no_statements : Statements
    statement : (first : Statement) (rest : Statements) → Statements

-- a function: so many of its locals are parameters
pub record FunctionTree : Type 0 where
  pub parameters : ℕ
  pub locals : ℕ
  pub body : Statements

-- a tracer, and where it fires
pub record TracepointTree : Type 0 where
  pub point : Point
  pub locals : ℕ
  pub body : Statements

-- a script, its functions and tracepoints in order of the text
pub record ScriptTree : Type 0 where
  pub budget : ℕ
  pub functions : List FunctionTree
  pub tracepoints : List TracepointTree

-- what the code keeps
abbrev mutual
  pub expression_of : Expr → Expression
  expression_of (Number value) = number value
  expression_of (Local index) = local index
  expression_of (Register index) = register index
  expression_of Pc = program_counter
  expression_of (Load' op p address) = load op (expression_of address)
  expression_of (Operation' operator p first q second) =
      operation operator (expression_of first) (expression_of second)
  expression_of (IsZero' p of) = is_zero (expression_of of)
  expression_of (Call function arguments) = call function (arguments_of arguments)
  expression_of (Sys' p code q value) = system_call (expression_of code) (expression_of value)

  pub arguments_of : Args → Arguments
  arguments_of more_args.End = no_arguments
  arguments_of (more_args.And' p first q rest) = argument (expression_of first) (arguments_of rest)

abbrev mutual
  pub statement_of : Stmt → Statement
  statement_of (Emit value) = emit (expression_of value)
  statement_of (Set index value) = set index (expression_of value)
  statement_of (Do body) = block (statements_of body)
  statement_of (If' condition p first q second) =
      choice (expression_of condition) (statement_of first) (statement_of second)
  statement_of (While condition body) = while (expression_of condition) (statements_of body)
  statement_of (Store op address value) = store op (expression_of address) (expression_of value)
  statement_of (Return value) = return (expression_of value)
  statement_of (Stop value) = stop (expression_of value)
  statement_of (Run value) = run (expression_of value)

  pub statements_of : Block → Statements
  statements_of more_block.End = no_statements
  statements_of (more_block.And' p first q rest) =
      statement (statement_of first) (statements_of rest)

abbrev pub function_of : Function → FunctionTree
function_of f = record { parameters = f.parameters; locals = f.locals; body = statements_of f.body }

abbrev pub tracepoint_of : Tracepoint → TracepointTree
tracepoint_of t = record { point = t.point; locals = t.locals; body = statements_of t.body }

abbrev pub script_of : ℕ → List Function → List Tracepoint → ScriptTree
script_of budget functions tracepoints = record {
  budget = budget;
  functions = map function_of functions;
  tracepoints = map tracepoint_of tracepoints;
}
