-- The code of expressions, statements, functions and tracers, as lists of instructions.
use Rattle.std.specs.Prelude.{ℕ, ◌+◌, ◌-◌, List, [], ◌∷◌, ◌++◌, length, slice_index, slice_index_or}
use Rattle.sl_model.specs.declared.instr.BranchOp.TheVariants.{Beq, Bne}
use Rattle.sl_model.specs.declared.instr.Instr.{Instr}
use Rattle.tracer_lang.specs.Meaning.{no_function}
use Rattle.tracer_lang.specs.Tree.{Expression, number, local, register, program_counter, load, operation, is_zero, call, system_call, Arguments, no_arguments, argument, Statement, emit, set, block, choice, while, store, return, stop, run, Statements, no_statements, statement, FunctionTree, TracepointTree}
use Rattle.tracer_compile.specs.declared.roles.Role.TheVariants.{Zero, Detail, First, Value}
use Rattle.tracer_compile.specs.Blocks.{add_number, skip_if, jump_on, jump_back, constant, push, pop, zeros, copied_block, local_block, load_block, truth_block, operator_block, barred_block, break_block, unit_block, depth_block, enter_block, return_block, set_block, emit_block, store_block, stop_block, opening_block}

-- What code of a body is made with: the functions of the script, the addresses of their code, and
-- how many locals the body has. The length of code does not depend on the addresses.
pub record Scope : Type 0 where
  pub functions : List FunctionTree
  pub addresses : List ℕ
  pub locals : ℕ

-- the function of a number
abbrev pub callee : Scope → ℕ → FunctionTree
callee scope function = slice_index_or scope.functions function no_function

-- enters a body of so many locals, of which so many parameters are the topmost temporaries
unfoldable pub call_block : FunctionTree → ℕ → List Instr
call_block f address =
    depth_block
    ++ (unit_block ++ (zeros (f.locals - f.parameters) ++ enter_block f.locals address))

-- ---- expressions, which leave their value in x10

unfoldable mutual
  pub expression_code : Scope → Expression → List Instr
  expression_code scope (number value) = constant Value value
  expression_code scope (local index) = local_block index
  expression_code scope (register index) = copied_block index
  expression_code scope program_counter = copied_block 32
  expression_code scope (load op address) = expression_code scope address ++ load_block op
  expression_code scope (operation operator first second) =
      expression_code scope first
      ++ (push Value ++ (expression_code scope second ++ (pop First ++ operator_block operator)))
  expression_code scope (is_zero of) = expression_code scope of ++ truth_block Beq Value Zero
  expression_code scope (call function arguments) =
      arguments_code scope arguments
      ++ call_block (callee scope function) (slice_index scope.addresses function)
  expression_code scope (system_call code value) =
      expression_code scope code
      ++ (push Value
      ++ (expression_code scope value ++ (pop Detail ++ (barred_block ++ break_block))))

  -- the values of arguments become temporaries, the last one the topmost
  pub arguments_code : Scope → Arguments → List Instr
  arguments_code scope no_arguments = []
  arguments_code scope (argument first rest) =
      expression_code scope first ++ (push Value ++ arguments_code scope rest)

-- ---- statements

-- the first where the value of a condition is not 0, else the second
unfoldable pub choice_code : List Instr → List Instr → List Instr → List Instr
choice_code condition first second =
    condition
    ++ skip_if Bne Value Zero 2
    ∷ jump_on (length first + 2)
    ∷ (first ++ jump_on (length second + 1) ∷ second)

-- the body, with a unit for each turn, as long as the value of the condition is not 0
unfoldable pub while_code : List Instr → List Instr → List Instr
while_code condition body =
    let turn : List Instr = unit_block ++ body in
    condition
    ++ skip_if Bne Value Zero 2
    ∷ jump_on (length turn + 2)
    ∷ (turn ++ jump_back (length condition + 2 + length turn) ∷ [])

unfoldable mutual
  pub statement_code : Scope → Statement → List Instr
  statement_code scope (emit value) = expression_code scope value ++ emit_block
  statement_code scope (set index value) = expression_code scope value ++ set_block index
  statement_code scope (block body) = statements_code scope body
  statement_code scope (choice condition first second) =
      choice_code (expression_code scope condition) (statement_code scope first)
      (statement_code scope second)
  statement_code scope (while condition body) =
      while_code (expression_code scope condition) (statements_code scope body)
  statement_code scope (store op address value) =
      expression_code scope address
      ++ (push Value ++ (expression_code scope value ++ (pop Detail ++ store_block op)))
  statement_code scope (return value) = expression_code scope value ++ return_block scope.locals
  statement_code scope (stop value) = expression_code scope value ++ stop_block
  statement_code scope (run value) = expression_code scope value

  pub statements_code : Scope → Statements → List Instr
  statements_code scope no_statements = []
  statements_code scope (statement first rest) =
      statement_code scope first ++ statements_code scope rest

-- ---- bodies

-- a body that returns 0 where its statements return nothing
unfoldable pub body_code : Scope → Statements → List Instr
body_code scope body =
    statements_code scope body ++ add_number Value Zero 0 ∷ return_block scope.locals

unfoldable pub function_code : List FunctionTree → List ℕ → FunctionTree → List Instr
function_code functions addresses f =
    body_code
    record { functions = functions; addresses = addresses; locals = f.locals } f.body

unfoldable pub tracepoint_code : List FunctionTree → List ℕ → ℕ → TracepointTree → List Instr
tracepoint_code functions addresses budget t =
    opening_block budget t.locals
    ++ body_code
    record { functions = functions; addresses = addresses; locals = t.locals } t.body
