-- The meaning of tracers on rows that were worked by hand.
use Rattle.std.proofs.Common.{◌≡◌, ℕ, List, [], ◌∷◌, replicate, refl}
use Rattle.std.specs.List.{range_with_len}
use Rattle.std.specs.Ordering.{nat_cmp}
use Rattle.std.specs.FinMap.{empty, get-empty}
use Rattle.sl_model.specs.declared.instr.BranchOp.TheVariants.{Blt}
use Rattle.sl_model.specs.declared.instr.RegisterOp.TheVariants.{Add}
use Rattle.sl_model.specs.declared.instr.LoadOp.TheVariants.{Lw}
use Rattle.sl_model.specs.declared.run_state.RunState.TheVariants.{Running}
use Rattle.sl_model.specs.Pages.{byte_at, bytes_at, load_at}
use Rattle.sl_model.specs.State.{State}
use Rattle.tracer_lang.specs.declared.record.TracerEnd.{TracerEnd}
use Rattle.tracer_lang.specs.declared.record.TracerEnd.TheVariants.{Done, OverBudget, TooDeep, LoadFault, TooManyWords, Barred, User}
use Rattle.tracer_lang.specs.declared.record.Record.{Record}
use Rattle.tracer_lang.specs.declared.tree.Operator.TheVariants.{Register, Branch}
use Rattle.tracer_lang.specs.declared.tree.Point.TheVariants.{Addr}
use Rattle.tracer_lang.specs.Tree.{number, local, operation, load, call, system_call, no_arguments, Statement, emit, set, while, return, stop, run, Statements, no_statements, statement, FunctionTree, ScriptTree}
use Rattle.tracer_lang.specs.Meaning.{expression_meaning, statement_meaning, turns, entering, meaning, record_of}

-- a machine at 0x10008 with no memory, after two instructions; its heap is empty at 0x11000
abbrev at_ecall : State
at_ecall = record {
  pc = 0x10008;
  x = replicate 32 0;
  pages = empty;
  brk = 0x11000;
  brk_end = 0x11000;
  next_call = 0;
  status = Running;
  count = 2;
  layout = record { brk_start = 0x11000; heap_limit = 0x1011000 };
}

-- a script of one tracer with one local, and at most one function
abbrev script_with : ℕ → List FunctionTree → Statements → ScriptTree
script_with budget functions body = record {
  budget = budget;
  functions = functions;
  tracepoints = record { point = Addr 0x10008; locals = 1; body = body } ∷ [];
}

abbrev script_of_body : Statements → ScriptTree
script_of_body body = script_with 1000000 [] body

-- the record of the first tracer
abbrev left : TracerEnd → List ℕ → Record
left end words = record { count = 2; point = 0; pc = 0x10008; words = words; outcome = end }

abbrev one : Statement → Statements
one s = statement s no_statements

abbrev two : Statement → Statement → Statements
two s t = statement s (one t)

abbrev count_up : Statement
count_up = set 0 (operation (Register Add) (local 0) (number 1))

-- i is emitted as long as it is below a number
abbrev below : ℕ → Statements
below n =
    two (set 0 (number 0))
    (while (operation (Branch Blt) (local 0) (number n)) (two (emit (local 0)) count_up))

three_turns : record_of (script_with 3 [] (below 3)) 0 at_ecall ≡ left Done (0 ∷ 1 ∷ 2 ∷ [])
unfolding meaning statement_meaning expression_meaning turns
three_turns = refl

four_turns : record_of (script_with 3 [] (below 4)) 0 at_ecall ≡ left OverBudget (0 ∷ 1 ∷ 2 ∷ [])
unfolding meaning statement_meaning expression_meaning turns
four_turns = refl

endless : record_of
    (script_of_body (one (while (number 1) (two (emit (local 0)) count_up)))) 0 at_ecall
    ≡ left TooManyWords (range_with_len 0 256)
unfolding meaning statement_meaning expression_meaning turns
endless = refl

-- nothing is mapped where the machine has no memory, and a load there ends the tracer
unmapped : record_of
    (script_of_body (two (emit (number 1)) (emit (load Lw (number 0xc0000000))))) 0 at_ecall
    ≡ left (LoadFault 0xc0000000) (1 ∷ [])
unfolding meaning statement_meaning expression_meaning load_at bytes_at byte_at
unmapped = rw (get-empty nat_cmp 0xc0000) refl

-- the break may be asked for, and no other call may be done
barred : record_of
    (script_of_body (two (emit (system_call (number 214) (number 0)))
    (emit (system_call (number 64) (number 0))))) 0 at_ecall
    ≡ left (Barred 64) (0x11000 ∷ [])
unfolding meaning statement_meaning expression_meaning
barred = refl

-- a break beyond the heap's mapped end would map memory
barred_break : record_of
    (script_of_body (one (emit (system_call (number 214) (number 0x12000))))) 0 at_ecall
    ≡ left (Barred 214) []
unfolding meaning statement_meaning expression_meaning
barred_break = refl

stopped : record_of (script_of_body (one (stop (number 9)))) 0 at_ecall ≡ left (User 9) []
unfolding meaning statement_meaning expression_meaning
stopped = refl

abbrev calls_itself : FunctionTree
calls_itself =
    record { parameters = 0; locals = 0; body = one (return (call 0 no_arguments)) }

too_deep : record_of
    (script_with 1000000 (calls_itself ∷ []) (one (run (call 0 no_arguments)))) 0 at_ecall
    ≡ left TooDeep []
unfolding meaning statement_meaning expression_meaning entering
too_deep = refl
