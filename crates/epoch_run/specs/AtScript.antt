-- The script of `trace .. at`, and what it leaves.
use Rattle.std.specs.Prelude.{◌≡◌, ℕ, ◌==◌, List, [], ◌∷◌, if◌then◌else◌}
use Rattle.sl_model.specs.State.{State, register}
use Rattle.tracer_lang.specs.declared.record.Record.{Record}
use Rattle.tracer_lang.specs.declared.record.TracerEnd.TheVariants.{Done}
use Rattle.tracer_lang.specs.declared.tree.Point.TheVariants.{Addr}
use Rattle.tracer_lang.specs.Tree as tree
use Rattle.tracer_lang.specs.Tree.{Statements, TracepointTree, ScriptTree}
use Rattle.tracer_lang.specs.Firing.{records_at}
use Rattle.epoch_run.specs.Records.{Tracers}

-- the register that is recorded: a0
abbrev pub A0 : ℕ
A0 = 10

-- what its one tracer does: it emits the register
abbrev pub emits_a0 : Statements
emits_a0 = tree.statement (tree.emit (tree.register A0)) tree.no_statements

-- one tracepoint, at an address, in a script that names no budget
abbrev pub at_tree : ℕ → ScriptTree
at_tree address =
    let tracepoint : TracepointTree =
    record { point = Addr address; locals = 0; body = emits_a0 } in
    record { budget = 1000000; functions = []; tracepoints = tracepoint ∷ [] }

-- a record with one register wherever pc is at an address
abbrev pub emit_at : ℕ → ℕ → Tracers
emit_at address r s =
    let words : List ℕ = register s r ∷ [] in
    let left : Record =
    record { count = s.count; point = 0; pc = s.pc; words = words; outcome = Done } in
    if s.pc == address then left ∷ [] else []

-- that is what the script leaves
abbrev pub AtEmits : Type 0
AtEmits = (address : ℕ) (s : State) → records_at (at_tree address) s ≡ emit_at address A0 s
