-- How many words code has: at most 60 for each node, whatever the addresses of functions are.
use Rattle.std.proofs.Common.{◌≡◌, ℕ, zero, suc, ◌+◌, ◌-◌, ◌*◌, ◌≤◌, List, [], ◌∷◌, ◌++◌, length, refl, arith, length-append}
use Rattle.std.specs.Prelude.{slice_index}
use Rattle.sl_model.specs.declared.instr.BranchOp.{BranchOp}
use Rattle.sl_model.specs.declared.instr.BranchOp.TheVariants.{Beq, Bne}
use Rattle.sl_model.specs.declared.instr.Instr.{Instr}
use Rattle.sl_model.specs.declared.instr.LoadOp.{LoadOp}
use Rattle.sl_model.specs.declared.instr.StoreOp.{StoreOp}
use Rattle.tracer_lang.specs.declared.tree.Operator.{Operator}
use Rattle.tracer_lang.specs.declared.tree.Operator.TheVariants.{Register, MulDiv, Branch, Exchanged}
use Rattle.tracer_lang.specs.Limits.{expression_nodes, arguments_nodes, statement_nodes, statements_nodes}
use Rattle.tracer_lang.specs.Tree.{Expression, number, local, register, program_counter, load, operation, is_zero, call, system_call, Arguments, no_arguments, argument, Statement, emit, set, block, choice, while, store, return, stop, run, Statements, no_statements, statement, FunctionTree}
use Rattle.tracer_compile.specs.declared.roles.Role.{Role}
use Rattle.tracer_compile.specs.declared.roles.Role.TheVariants.{Zero, Value, First, Detail}
use Rattle.tracer_compile.specs.Blocks.{add_number, skip_if, jump_on, jump_back, constant, push, pop, zeros, end_with, end_without, copied_block, local_block, guard_block, load_block, truth_block, operator_block, barred_block, break_block, unit_block, depth_block, enter_block, return_block, set_block, emit_block, room_block, log_block, store_block, stop_block, opening_block}
use Rattle.tracer_compile.specs.Code.{Scope, callee, call_block, expression_code, arguments_code, choice_code, while_code, statement_code, statements_code, body_code}

-- ---- blocks

pub length-constant : (rd : Role) (n : ℕ) → length (constant rd n) ≡ 2
unfolding constant
length-constant rd n = refl

pub length-push : (r : Role) → length (push r) ≡ 2
unfolding push
length-push r = refl

pub length-pop : (r : Role) → length (pop r) ≡ 2
unfolding pop
length-pop r = refl

pub length-zeros : (count : ℕ) → length (zeros count) ≡ 2 * count
unfolding zeros
length-zeros zero = refl
length-zeros (suc count) =
    omega (arith, length-append (push Zero) (zeros count), length-push Zero, length-zeros count)

pub length-copied : (index : ℕ) → length (copied_block index) ≡ 2
unfolding copied_block
length-copied index = refl

pub length-local : (index : ℕ) → length (local_block index) ≡ 1
unfolding local_block
length-local index = refl

pub length-load : (op : LoadOp) → length (load_block op) ≡ 6
unfolding load_block guard_block
length-load op = refl

pub length-truth : (op : BranchOp) (a b : Role) → length (truth_block op a b) ≡ 4
unfolding truth_block
length-truth op a b = refl

pub length-operator : (op : Operator) → length (operator_block op) ≤ 4
unfolding operator_block truth_block
length-operator (Register op) = omega arith
length-operator (MulDiv op) = omega arith
length-operator (Branch op) = omega arith
length-operator (Exchanged op) = omega arith

pub length-barred : length barred_block ≡ 4
unfolding barred_block end_with
length-barred = refl

pub length-break : length break_block ≡ 11
unfolding break_block end_with
length-break = refl

pub length-unit : length unit_block ≡ 5
unfolding unit_block end_without end_with
length-unit = refl

pub length-depth : length depth_block ≡ 4
unfolding depth_block end_without end_with
length-depth = refl

pub length-enter : (locals address : ℕ) → length (enter_block locals address) ≡ 11
unfolding enter_block constant
length-enter locals address = refl

pub length-return : (locals : ℕ) → length (return_block locals) ≡ 5
unfolding return_block
length-return locals = refl

pub length-set : (index : ℕ) → length (set_block index) ≡ 1
unfolding set_block
length-set index = refl

pub length-emit : length emit_block ≡ 12
unfolding emit_block end_without end_with
length-emit = refl

pub length-store : (op : StoreOp) → length (store_block op) ≡ 23
unfolding store_block guard_block room_block end_without end_with log_block
length-store op = refl

pub length-stop : length stop_block ≡ 3
unfolding stop_block end_with
length-stop = refl

pub length-opening : (budget locals : ℕ) → length (opening_block budget locals) ≡ 9
unfolding opening_block constant
length-opening budget locals = refl

-- ---- nodes

-- no function has more than 16 locals
pub record FewLocals (scope : Scope) : Type 0 where
  pub few : (i : ℕ) → (callee scope i).locals ≤ 16

pub length-call : (f : FunctionTree) (address : ℕ) → f.locals ≤ 16
    → length (call_block f address) ≤ 52
unfolding call_block
length-call f address few =
    let missing : ℕ = f.locals - f.parameters in
    let less : missing ≤ f.locals = omega arith in
    omega (
      arith,
      length-append depth_block (unit_block ++ (zeros missing ++ enter_block f.locals address)),
      length-append unit_block (zeros missing ++ enter_block f.locals address),
      length-append (zeros missing) (enter_block f.locals address),
      length-depth,
      length-unit,
      length-zeros missing,
      length-enter f.locals address,
    )

mutual
  unfolding expression_code arguments_code

  -- two words are left for the push of an argument
  pub length-expression : (scope : Scope) → FewLocals scope → (e : Expression)
      → length (expression_code scope e) + 2 ≤ 60 * expression_nodes e
  length-expression scope few (number value) = omega (arith, length-constant Value value)
  length-expression scope few (local index) = omega (arith, length-local index)
  length-expression scope few (register index) = omega (arith, length-copied index)
  length-expression scope few program_counter = omega (arith, length-copied 32)
  length-expression scope few (load op address) =
      omega (
        arith,
        length-append (expression_code scope address) (load_block op),
        length-load op,
        length-expression scope few address,
      )
  length-expression scope few (operation op a b) =
      let fourth : List Instr = pop First ++ operator_block op in
      let third : List Instr = expression_code scope b ++ fourth in
      omega (
        arith,
        length-append (expression_code scope a) (push Value ++ third),
        length-append (push Value) third,
        length-append (expression_code scope b) fourth,
        length-append (pop First) (operator_block op),
        length-push Value,
        length-pop First,
        length-operator op,
        length-expression scope few a,
        length-expression scope few b,
      )
  length-expression scope few (is_zero of) =
      omega (
        arith,
        length-append (expression_code scope of) (truth_block Beq Value Zero),
        length-truth Beq Value Zero,
        length-expression scope few of,
      )
  length-expression scope few (call function es) =
      let last : List Instr = call_block (callee scope function) (slice_index scope.addresses function) in
      omega (
        arith,
        length-append (arguments_code scope es) last,
        length-call (callee scope function) (slice_index scope.addresses function) (few.few function),
        length-arguments scope few es,
      )
  length-expression scope few (system_call a b) =
      let last : List Instr = barred_block ++ break_block in
      let fourth : List Instr = pop Detail ++ last in
      let third : List Instr = expression_code scope b ++ fourth in
      omega (
        arith,
        length-append (expression_code scope a) (push Value ++ third),
        length-append (push Value) third,
        length-append (expression_code scope b) fourth,
        length-append (pop Detail) last,
        length-append barred_block break_block,
        length-push Value,
        length-pop Detail,
        length-barred,
        length-break,
        length-expression scope few a,
        length-expression scope few b,
      )

  pub length-arguments : (scope : Scope) → FewLocals scope → (es : Arguments)
      → length (arguments_code scope es) ≤ 60 * arguments_nodes es
  length-arguments scope few no_arguments = omega arith
  length-arguments scope few (argument first rest) =
      omega (
        arith,
        length-append (expression_code scope first) (push Value ++ arguments_code scope rest),
        length-append (push Value) (arguments_code scope rest),
        length-push Value,
        length-expression scope few first,
        length-arguments scope few rest,
      )

pub length-choice : (condition first second : List Instr)
    → length (choice_code condition first second)
    ≡ length condition + (length first + (length second + 3))
unfolding choice_code
length-choice condition first second =
    let tail : List Instr = jump_on (length second + 1) ∷ second in
    omega (
      arith,
      length-append condition
          (skip_if Bne Value Zero 2 ∷ jump_on (length first + 2) ∷ (first ++ tail)),
      length-append first tail,
    )

pub length-while : (condition body : List Instr)
    → length (while_code condition body) ≡ length condition + (length body + 8)
unfolding while_code
length-while condition body =
    let turn : List Instr = unit_block ++ body in
    let last : List Instr = jump_back (length condition + 2 + length turn) ∷ [] in
    omega (
      arith,
      length-append condition
          (skip_if Bne Value Zero 2 ∷ jump_on (length turn + 2) ∷ (turn ++ last)),
      length-append turn last,
      length-append unit_block body,
      length-unit,
    )

mutual
  unfolding statement_code statements_code

  pub length-statement : (scope : Scope) → FewLocals scope → (s : Statement)
      → length (statement_code scope s) ≤ 60 * statement_nodes s
  length-statement scope few (emit value) =
      omega (
        arith,
        length-append (expression_code scope value) emit_block,
        length-emit,
        length-expression scope few value,
      )
  length-statement scope few (set index value) =
      omega (
        arith,
        length-append (expression_code scope value) (set_block index),
        length-set index,
        length-expression scope few value,
      )
  length-statement scope few (block body) = omega (arith, length-statements scope few body)
  length-statement scope few (choice condition first second) =
      omega (
        arith,
        length-choice (expression_code scope condition) (statement_code scope first)
            (statement_code scope second),
        length-expression scope few condition,
        length-statement scope few first,
        length-statement scope few second,
      )
  length-statement scope few (while condition body) =
      omega (
        arith,
        length-while (expression_code scope condition) (statements_code scope body),
        length-expression scope few condition,
        length-statements scope few body,
      )
  length-statement scope few (store op a b) =
      let last : List Instr = pop Detail ++ store_block op in
      let third : List Instr = expression_code scope b ++ last in
      omega (
        arith,
        length-append (expression_code scope a) (push Value ++ third),
        length-append (push Value) third,
        length-append (expression_code scope b) last,
        length-append (pop Detail) (store_block op),
        length-push Value,
        length-pop Detail,
        length-store op,
        length-expression scope few a,
        length-expression scope few b,
      )
  length-statement scope few (return value) =
      omega (
        arith,
        length-append (expression_code scope value) (return_block scope.locals),
        length-return scope.locals,
        length-expression scope few value,
      )
  length-statement scope few (stop value) =
      omega (
        arith,
        length-append (expression_code scope value) stop_block,
        length-stop,
        length-expression scope few value,
      )
  length-statement scope few (run value) = omega (arith, length-expression scope few value)

  pub length-statements : (scope : Scope) → FewLocals scope → (ss : Statements)
      → length (statements_code scope ss) ≤ 60 * statements_nodes ss
  length-statements scope few no_statements = omega arith
  length-statements scope few (statement first rest) =
      omega (
        arith,
        length-append (statement_code scope first) (statements_code scope rest),
        length-statement scope few first,
        length-statements scope few rest,
      )

-- ---- bodies

pub length-body : (scope : Scope) → FewLocals scope → (ss : Statements)
    → length (body_code scope ss) ≤ 60 * statements_nodes ss + 6
unfolding body_code
length-body scope few ss =
    omega (
      arith,
      length-append (statements_code scope ss) (add_number Value Zero 0 ∷ return_block scope.locals),
      length-return scope.locals,
      length-statements scope few ss,
    )
