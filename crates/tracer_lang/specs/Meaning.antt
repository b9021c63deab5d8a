-- What a tracer does where it fires: its meaning on a private copy of the machine's memory. Of each
-- statement and expression the parts are evaluated from left to right, and the tests are tried in
-- the order in which they stand here.
use Rattle.std.specs.Prelude.{ℕ, zero, suc, ◌+◌, ◌-◌, ◌==◌, ◌&&◌, List, [], ◌∷◌, ◌++◌, length, replicate, Option, Some, None, slice_index, slice_index_or, slice_set, nat_lt, if◌then◌else◌}
use Rattle.std.specs.FinMap.{empty}
use Rattle.sl_model.specs.declared.instr.LoadOp.{LoadOp}
use Rattle.sl_model.specs.declared.instr.StoreOp.{StoreOp}
use Rattle.sl_model.specs.Pages.{Pages, load_at, store_at}
use Rattle.sl_model.specs.Arithmetic.{truth, is_taken, register_value, mul_div_value, load_width, load_value, store_width}
use Rattle.sl_model.specs.State.{State}
use Rattle.sl_model.specs.State as state
use Rattle.sl_model.specs.Heap.{is_break, brk_answer}
use Rattle.tracer_lang.specs.declared.record.TracerEnd.{TracerEnd}
use Rattle.tracer_lang.specs.declared.record.TracerEnd.TheVariants.{Done, OverBudget, TooDeep, LoadFault, StoreFault, TooManyStores, TooManyWords, Barred, User}
use Rattle.tracer_lang.specs.declared.record.Record.{Record}
use Rattle.tracer_lang.specs.declared.tree.Operator.{Operator}
use Rattle.tracer_lang.specs.declared.tree.Operator.TheVariants.{Register, MulDiv, Branch, Exchanged}
use Rattle.tracer_lang.specs.declared.tree.Point.TheVariants.{Addr}
use Rattle.tracer_lang.specs.Tree.{Expression, number, local, register, program_counter, load, operation, is_zero, call, system_call, Arguments, no_arguments, argument, Statement, emit, set, block, choice, while, store, return, stop, run, Statements, no_statements, statement, FunctionTree, TracepointTree, ScriptTree}

-- ---- how far a tracer has come

pub record Now : Type 0 where
  -- the copy's memory; a program has no page from 0xBFFFF000 on
  pub pages : Pages
  -- the words emitted so far
  pub words : List ℕ
  -- how many stores were done
  pub stores : ℕ
  -- how many turns of loops and entries of functions may follow
  pub units : ℕ
  -- the break of this call of the tracer
  pub brk : ℕ
  -- the locals of the body that runs
  pub locals : List ℕ

-- What becomes of an expression or a statement.
pub data Outcome : Type 0 where
  -- it has a value, which is 0 for a statement, and the tracer goes on
  Goes : (value : ℕ) (now : Now) → Outcome
  -- the function that runs returns a value
  Returned : (value : ℕ) (now : Now) → Outcome
  -- the tracer ends
  Ended : (end : TracerEnd) (now : Now) → Outcome

-- what follows a value; an end is passed on
abbrev pub then_do : Outcome → (ℕ → Now → Outcome) → Outcome
then_do (Goes value now) follow = follow value now
then_do (Returned value now) follow = Returned value now
then_do (Ended end now) follow = Ended end now

-- the first where a value is not 0, else the second
abbrev pub choose : ℕ → (Now → Outcome) → (Now → Outcome) → Now → Outcome
choose zero first second now = second now
choose (suc n) first second now = first now

-- ---- limits

abbrev pub most_words : ℕ
most_words = 256

abbrev pub most_stores : ℕ
most_stores = 4096

abbrev pub most_open_calls : ℕ
most_open_calls = 32

-- ---- what words, memory and the budget come to

abbrev pub operator_value : Operator → ℕ → ℕ → ℕ
operator_value (Register op) a b = register_value op a b
operator_value (MulDiv op) a b = mul_div_value op a b
operator_value (Branch op) a b = truth (is_taken op a b)
operator_value (Exchanged op) a b = truth (is_taken op b a)

-- a load of what stands at an address
abbrev pub loaded : LoadOp → ℕ → Now → Option ℕ → Outcome
loaded op address now None = Ended (LoadFault address) now
loaded op address now (Some n) = Goes (load_value op n) now

abbrev pub load_meaning : LoadOp → ℕ → Now → Outcome
load_meaning op address now = loaded op address now (load_at now.pages address (load_width op))

-- a store at an address, after which memory has these pages
abbrev pub stored : ℕ → Now → Option Pages → Outcome
stored address now None = Ended (StoreFault address) now
stored address now (Some pages) =
    if nat_lt now.stores most_stores
    then Goes 0 (record now { pages = pages; stores = now.stores + 1 })
    else Ended TooManyStores now

abbrev pub store_meaning : StoreOp → ℕ → ℕ → Now → Outcome
store_meaning op address value now =
    stored address now (store_at now.pages address (store_width op) value)

abbrev pub emit_meaning : ℕ → Now → Outcome
emit_meaning word now =
    if nat_lt (length now.words) most_words
    then Goes 0 (record now { words = now.words ++ word ∷ [] })
    else Ended TooManyWords now

abbrev pub set_meaning : ℕ → ℕ → Now → Outcome
set_meaning index value now = Goes 0 (record now { locals = slice_set now.locals index value })

-- with one unit less, or the end where none is left
abbrev pub with_unit : (Now → Outcome) → Now → Outcome
with_unit follow now =
    if now.units == 0 then Ended OverBudget now
    else follow (record now { units = now.units - 1 })

-- The break is the only system call that a tracer may do. It maps no memory, so it can't go beyond
-- the heap's mapped end, and it lasts for this call of the tracer.
abbrev pub break_meaning : State → ℕ → Now → Outcome
break_meaning s address now =
    let s' : State = record s { brk = now.brk } in
    let new : ℕ = brk_answer s' address in
    if is_break s' address && nat_lt s.brk_end address then Ended (Barred 214) now
    else Goes new (record now { brk = new })

abbrev pub system_call_meaning : State → ℕ → ℕ → Now → Outcome
system_call_meaning s code value now =
    if code == 214 then break_meaning s value now else Ended (Barred code) now

-- ---- expressions, at a state

-- what the function of a number gives for the values of its arguments
abbrev pub Enter : Type 0
Enter = ℕ → List ℕ → Now → Outcome

unfoldable mutual
  pub expression_meaning : State → Enter → Expression → Now → Outcome
  expression_meaning s enter (number value) now = Goes value now
  expression_meaning s enter (local index) now = Goes (slice_index now.locals index) now
  expression_meaning s enter (register index) now = Goes (state.register s index) now
  expression_meaning s enter program_counter now = Goes s.pc now
  expression_meaning s enter (load op address) now =
      then_do (expression_meaning s enter address now) (load_meaning op)
  expression_meaning s enter (operation operator first second) now =
      then_do (expression_meaning s enter first now) (λ a n.
      then_do (expression_meaning s enter second n) (λ b. Goes (operator_value operator a b)))
  expression_meaning s enter (is_zero of) now =
      then_do (expression_meaning s enter of now) (λ a. Goes (truth (a == 0)))
  expression_meaning s enter (call function arguments) now =
      arguments_meaning s enter arguments [] (enter function) now
  expression_meaning s enter (system_call code value) now =
      then_do (expression_meaning s enter code now) (λ c n.
      then_do (expression_meaning s enter value n) (system_call_meaning s c))

  -- what follows the values of arguments, after those that stand before them
  pub arguments_meaning :
      State → Enter → Arguments → List ℕ → (List ℕ → Now → Outcome) → Now → Outcome
  arguments_meaning s enter no_arguments values follow now = follow values now
  arguments_meaning s enter (argument first rest) values follow now =
      then_do (expression_meaning s enter first now)
      (λ value. arguments_meaning s enter rest (values ++ value ∷ []) follow)

-- ---- statements

-- The turns of a loop, each of which takes a unit once its condition was found to be not 0. So
-- there are at most as many as there were units.
unfoldable pub turns : (Now → Outcome) → (Now → Outcome) → ℕ → Now → Outcome
turns condition body zero now =
    then_do (condition now) (λ c. choose c (Ended OverBudget) (Goes 0))
turns condition body (suc n) now =
    then_do (condition now) (λ c.
    choose c (with_unit (λ t. then_do (body t) (λ _. turns condition body n))) (Goes 0))

unfoldable mutual
  pub statement_meaning : State → Enter → Statement → Now → Outcome
  statement_meaning s enter (emit value) now =
      then_do (expression_meaning s enter value now) emit_meaning
  statement_meaning s enter (set index value) now =
      then_do (expression_meaning s enter value now) (set_meaning index)
  statement_meaning s enter (block body) now = statements_meaning s enter body now
  statement_meaning s enter (choice condition first second) now =
      then_do (expression_meaning s enter condition now) (λ c.
      choose c (statement_meaning s enter first) (statement_meaning s enter second))
  statement_meaning s enter (while condition body) now =
      turns (expression_meaning s enter condition) (statements_meaning s enter body) now.units now
  statement_meaning s enter (store op address value) now =
      then_do (expression_meaning s enter address now) (λ a n.
      then_do (expression_meaning s enter value n) (store_meaning op a))
  statement_meaning s enter (return value) now =
      then_do (expression_meaning s enter value now) Returned
  statement_meaning s enter (stop value) now =
      then_do (expression_meaning s enter value now) (λ v. Ended (User v))
  statement_meaning s enter (run value) now =
      then_do (expression_meaning s enter value now) (λ _. Goes 0)

  pub statements_meaning : State → Enter → Statements → Now → Outcome
  statements_meaning s enter no_statements now = Goes 0 now
  statements_meaning s enter (statement first rest) now =
      then_do (statement_meaning s enter first now) (λ _. statements_meaning s enter rest)

-- ---- functions

-- what a number stands for that names no function
abbrev pub no_function : FunctionTree
no_function = record { parameters = 0; locals = 0; body = no_statements }

-- the locals of a body at its start: the values of its parameters, and zeros
abbrev pub opening_locals : ℕ → List ℕ → List ℕ
opening_locals locals values = values ++ replicate (locals - length values) 0

-- the caller goes on with the value of a function, and with its own locals
abbrev pub left_with : List ℕ → Outcome → Outcome
left_with locals (Goes value now) = Goes 0 (record now { locals = locals })
left_with locals (Returned value now) = Goes value (record now { locals = locals })
left_with locals (Ended end now) = Ended end now

-- a function's body, between its caller's and the next ones
abbrev pub body_meaning : State → Enter → FunctionTree → List ℕ → Now → Outcome
body_meaning s enter f values now =
    let inside : Now = record now { locals = opening_locals f.locals values } in
    left_with now.locals (statements_meaning s enter f.body inside)

-- what a call means where so many further ones may be open
unfoldable pub entering : State → List FunctionTree → ℕ → Enter
entering s functions zero f values now = Ended TooDeep now
entering s functions (suc n) f values now =
    with_unit
    (body_meaning s (entering s functions n) (slice_index_or functions f no_function) values)
    now

-- ---- tracers

-- what a number stands for that names no tracepoint
abbrev pub no_tracepoint : TracepointTree
no_tracepoint = record { point = Addr 0; locals = 0; body = no_statements }

-- a tracer before its first statement
abbrev pub opening_now : ScriptTree → TracepointTree → State → Now
opening_now script t s = record {
  pages = s.pages;
  words = [];
  stores = 0;
  units = script.budget;
  brk = s.brk;
  locals = opening_locals t.locals [];
}

-- how a tracer whose body came to this ended, and how far it had come
abbrev pub end_of : Outcome → TracerEnd × Now
end_of (Goes value now) = (Done, now)
end_of (Returned value now) = (Done, now)
end_of (Ended end now) = (end, now)

-- the machine of which a tracer reads registers and bounds: memory it reads on its copy alone
abbrev pub without_memory : State → State
without_memory s = record s { pages = empty }

-- what becomes of a tracer's body
abbrev pub tracer_meaning : ScriptTree → TracepointTree → State → Now → Outcome
tracer_meaning script t s now =
    statements_meaning s (entering s script.functions most_open_calls) t.body now

-- how a tracer of a script ends at a state, with its words and its stores
unfoldable pub meaning : ScriptTree → TracepointTree → State → TracerEnd × Now
meaning script t s =
    end_of (tracer_meaning script t (without_memory s) (opening_now script t s))

-- the record that the tracepoint of a number leaves at a state
abbrev pub record_of : ScriptTree → ℕ → State → Record
record_of script point s =
    let m : TracerEnd × Now =
    meaning script (slice_index_or script.tracepoints point no_tracepoint) s in
    record { count = s.count; point = point; pc = s.pc; words = m.1.words; outcome = m.0 }
