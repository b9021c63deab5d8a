-- The laws of all expressions and statements, where those of calls are known.
use Rattle.std.specs.Prelude.{max, slice_index, ◌==◌}
use Rattle.std.proofs.Common.{◌≡◌, ℕ, suc, inr, ⊎_elim, ◌+◌, ◌*◌, ◌<◌, ◌≤◌, List, ◌++◌, [], ◌∷◌, length, Some, ap, ◌∙◌, sym, subst, arith, length-append, append_assoc}
use Rattle.std.proofs.Math.ListN.{get_or-append}
use Rattle.std.proofs.Math.Seq.{get_or-append_seam}
use Rattle.std.proofs.lemmas.Bool.{cases_lt}
use Rattle.sl_model.specs.declared.instr.BranchOp.TheVariants.{Beq}
use Rattle.sl_model.specs.declared.instr.Instr.{Instr}
use Rattle.sl_model.specs.Arithmetic.{truth}
use Rattle.sl_model.specs.Pages.{Pages, byte_at, load_at}
use Rattle.sl_model.specs.State.{State}
use Rattle.tracer_lang.specs.declared.record.TracerEnd.TheVariants.{User}
use Rattle.tracer_lang.specs.Limits.{argument_count, expression_depth, arguments_depth, statement_depth, statements_depth, FitsExpression, FitsArguments, FitsStatement, FitsStatements}
use Rattle.tracer_lang.specs.Meaning.{Now, Outcome, Goes, Returned, Ended, then_do, Enter, operator_value, load_meaning, store_meaning, emit_meaning, set_meaning, system_call_meaning, expression_meaning, arguments_meaning, statement_meaning, statements_meaning, without_memory}
use Rattle.tracer_lang.specs.Tree.{Expression, number, local, register, program_counter, load, operation, is_zero, call, system_call, Arguments, no_arguments, argument, Statement, emit, set, block, choice, while, store, return, stop, run, Statements, no_statements, statement}
use Rattle.word_blocks.specs.Code.{HasBlock}
use Rattle.word_blocks.specs.Configuration.{Registers, at_place}
use Rattle.word_blocks.specs.Ways.{Leads}
use Rattle.word_blocks.proofs.Bytes.{load_at-same}
use Rattle.word_blocks.proofs.CodeLaws.{HasBlock-parts}
use Rattle.word_blocks.proofs.Ways.{Leads-map}
use Rattle.tracer_compile.specs.declared.roles.Role.TheVariants.{Zero, First, Detail, Value}
use Rattle.tracer_compile.specs.Blocks.{push, pop, load_block, truth_block, operator_block, barred_block, break_block, set_block, emit_block, store_block, stop_block, return_block}
use Rattle.tracer_compile.specs.Code.{Scope, callee, call_block, expression_code, arguments_code, choice_code, statement_code, statements_code}
use Rattle.tracer_compile.proofs.Relation.{World, worth, promise, Body, Room, Roles, Stands, Reaches, any, holds_value, tells_nothing, Runs}
use Rattle.tracer_compile.proofs.Running.{Reaches-since, Leads-next, Runs-then, Runs-within}
use Rattle.tracer_compile.proofs.Values.{number-runs, local-runs, register-runs, pc-runs}
use Rattle.tracer_compile.proofs.Temporaries.{Leads-push, pops-First, pops-Detail, pushed-runs}
use Rattle.tracer_compile.proofs.Operators.{operator-runs, is_zero-runs}
use Rattle.tracer_compile.proofs.Ends.{stop-runs}
use Rattle.tracer_compile.proofs.Locals.{set-runs}
use Rattle.tracer_compile.proofs.Choices.{Leads-arrived, choice-runs}
use Rattle.tracer_compile.proofs.Loops.{while-runs}
use Rattle.tracer_compile.proofs.Returns.{return-runs}
use Rattle.tracer_compile.proofs.Emitted.{emit-runs}
use Rattle.tracer_compile.proofs.Loads.{load-runs}
use Rattle.tracer_compile.proofs.Storing.{store-runs}
use Rattle.tracer_compile.proofs.SystemCalls.{system_call-runs}

-- ---- what is known of calls

-- values are the words from an address on
abbrev pub Pushed : ℕ → List ℕ → Pages → Type 0
Pushed base values m = (index : ℕ) → index < length values → load_at m (base + 4 * index) 4 ≡ Some (slice_index values index)

-- what code of a body is made with
abbrev pub scope_in : World → Body → Scope
scope_in w b = record { functions = w.functions; addresses = w.addresses; locals = b.locals }

-- Entering functions does what `enter` says, from where a call's arguments are the topmost
-- temporaries.
abbrev pub CallsRun : World → Body → Enter → Type 0
CallsRun w b enter =
    (function : ℕ) (values : List ℕ) → function < length w.counts → length values ≡ slice_index w.counts function
    → (place base limit after : ℕ) (now : Now) (x : Registers) (m : Pages) → HasBlock w.code place (call_block (callee (scope_in w b) function) (slice_index w.addresses function)) → Pushed base values m
    → Room b base 1 → Roles b (base + 4 * length values) now x → Stands w b now m → length (call_block (callee (scope_in w b) function) (slice_index w.addresses function)) + worth w now.units + after ≤ limit
    → Leads (promise w) limit (at_place place x m) (Reaches w b holds_value (place + length (call_block (callee (scope_in w b) function) (slice_index w.addresses function))) base after m now.units (enter function values now))

-- ---- expressions

-- one more value
pub Pushed-more : (base value : ℕ) (values : List ℕ) (m o : Pages) → Pushed base values m → ((a : ℕ) → base ≤ a → a < base + 4 * length values → byte_at m a ≡ byte_at o a) → load_at o (base + 4 * length values) 4 ≡ Some value
    → Pushed base (values ++ value ∷ []) o
Pushed-more base value values m o pushed same loaded index below =
    let longer : length (values ++ value ∷ []) ≡ length values + 1 = length-append values (value ∷ []) in
    ⊎_elim
    (λ (older : index < length values).
    sym (load_at-same m o (base + 4 * index) 4 (λ a from before. same a (omega arith) (omega arith))) ∙ pushed index older ∙ ap Some (sym (get_or-append values (value ∷ []) 0 index older)))
    (λ (newest : length values ≤ index).
    let last : length values ≡ index = omega (arith, longer, below) in
    subst (λ i. load_at o (base + 4 * i) 4 ≡ Some (slice_index (values ++ value ∷ []) i)) last (loaded ∙ ap Some (sym (get_or-append_seam values value [] 0))))
    (cases_lt index (length values))

-- a function has few parameters
pub few_parameters : (w : World) (function : ℕ) → function < length w.counts → slice_index w.counts function ≤ 16
few_parameters w function below =
    let entry = w.entries function below in
    omega (arith, entry.parameters, entry.fits.parameters, entry.fits.body.few_locals)

-- without its memory a state has the same registers
module _ (w : World) (b : Body) (enter : Enter) (calls : CallsRun w b enter) where
  abbrev pub s : State
  s = without_memory w.s

  abbrev pub scope : Scope
  scope = scope_in w b

  -- a value waits while a second expression runs
  both-run : (told : ℕ → Registers → Type 0) (first second : Expression) (rest : ℕ → ℕ → Now → Outcome) (tail : List Instr)
      → Runs w b any holds_value (expression_depth first) (expression_code scope first) (expression_meaning s enter first)
      → ((a : ℕ) → Runs w b (holds_value a) told (suc (max (expression_depth first) (expression_depth second))) tail (λ n. then_do (expression_meaning s enter second n) (rest a)))
      → Runs w b any told (1 + max (expression_depth first) (expression_depth second)) (expression_code scope first ++ tail)
      (λ now. then_do (expression_meaning s enter first now) (λ a n. then_do (expression_meaning s enter second n) (rest a)))
  both-run told first second rest tail one other =
      let deep : ℕ = max (expression_depth first) (expression_depth second) in
      Runs-within w b any told (suc deep) (1 + deep) (expression_code scope first ++ tail) (λ now. then_do (expression_meaning s enter first now) (λ a n. then_do (expression_meaning s enter second n) (rest a))) (omega arith)
      (Runs-then w b any holds_value told (suc deep) (expression_code scope first) tail (expression_meaning s enter first) (λ a n. then_do (expression_meaning s enter second n) (rest a))
      (Runs-within w b any holds_value (expression_depth first) (suc deep) (expression_code scope first) (expression_meaning s enter first) (omega arith) one)
      other)

  mutual
    unfolding expression_code arguments_code expression_meaning arguments_meaning push

    pub expression-runs : (e : Expression) → FitsExpression w.counts b.locals e → Runs w b any holds_value (expression_depth e) (expression_code scope e) (expression_meaning s enter e)
    expression-runs (number value) fits = number-runs w b 0 value fits
    expression-runs (local index) fits = local-runs w b 0 index fits
    expression-runs (register index) fits = register-runs w b 1 index fits
    expression-runs program_counter fits = pc-runs w b 1
    expression-runs (load op address) fits =
        let depth : ℕ = expression_depth address in
        Runs-then w b any holds_value holds_value (1 + depth) (expression_code scope address) (load_block op) (expression_meaning s enter address) (load_meaning op)
        (Runs-within w b any holds_value depth (1 + depth) (expression_code scope address) (expression_meaning s enter address) (omega arith) (expression-runs address fits))
        (λ value. load-runs w b (1 + depth) op value)
    expression-runs (operation operator first second) fits =
        let deep : ℕ = max (expression_depth first) (expression_depth second) in
        both-run holds_value first second (λ a v. Goes (operator_value operator a v)) (push Value ++ (expression_code scope second ++ (pop First ++ operator_block operator))) (expression-runs first fits.0)
        (λ a. pushed-runs w b First (pops-First w b) holds_value deep a (expression_code scope second) (operator_block operator) (expression_meaning s enter second) (λ v. Goes (operator_value operator a v))
        (Runs-within w b any holds_value (expression_depth second) deep (expression_code scope second) (expression_meaning s enter second) (omega arith) (expression-runs second fits.1))
        (λ v. operator-runs w b (suc deep) operator a v))
    expression-runs (is_zero of) fits =
        let depth : ℕ = expression_depth of in
        Runs-then w b any holds_value holds_value (1 + depth) (expression_code scope of) (truth_block Beq Value Zero) (expression_meaning s enter of) (λ a. Goes (truth (a == 0)))
        (Runs-within w b any holds_value depth (1 + depth) (expression_code scope of) (expression_meaning s enter of) (omega arith) (expression-runs of fits))
        (λ value. is_zero-runs w b (1 + depth) value)
    expression-runs (call function arguments) fits = λ place top limit after now x m has is_given room roles stands enough.
        let count : 0 + argument_count arguments ≡ slice_index w.counts function = omega (arith, fits.1) in
        let here : top ≡ top + 4 * 0 = omega arith in
        arguments-run arguments fits.2 function fits.0 [] count place top limit after now x m has (λ index below. absurd (omega arith)) room (subst (λ q. Roles b q now x) here roles) stands enough
    expression-runs (system_call code value) fits =
        let deep : ℕ = max (expression_depth code) (expression_depth value) in
        both-run holds_value code value (system_call_meaning s) (push Value ++ (expression_code scope value ++ (pop Detail ++ (barred_block ++ break_block)))) (expression-runs code fits.0)
        (λ a. pushed-runs w b Detail (pops-Detail w b) holds_value deep a (expression_code scope value) (barred_block ++ break_block) (expression_meaning s enter value) (system_call_meaning s a)
        (Runs-within w b any holds_value (expression_depth value) deep (expression_code scope value) (expression_meaning s enter value) (omega arith) (expression-runs value fits.1))
        (λ v. system_call-runs w b (suc deep) a v))

    -- arguments behind some values that are pushed, and the call behind them
    arguments-run : (arguments : Arguments) → FitsArguments w.counts b.locals arguments → (function : ℕ) → function < length w.counts → (values : List ℕ) → length values + argument_count arguments ≡ slice_index w.counts function
        → (place base limit after : ℕ) (now : Now) (x : Registers) (m : Pages) → HasBlock w.code place (arguments_code scope arguments ++ call_block (callee scope function) (slice_index w.addresses function)) → Pushed base values m
        → Room b base (1 + arguments_depth arguments) → Roles b (base + 4 * length values) now x → Stands w b now m
        → length (arguments_code scope arguments ++ call_block (callee scope function) (slice_index w.addresses function)) + worth w now.units + after ≤ limit
        → Leads (promise w) limit (at_place place x m)
        (Reaches w b holds_value (place + length (arguments_code scope arguments ++ call_block (callee scope function) (slice_index w.addresses function))) base after m now.units (arguments_meaning s enter arguments values (enter function) now))
    arguments-run no_arguments fits function below values count place base limit after now x m has pushed room roles stands enough =
        calls function values below (omega (arith, count)) place base limit after now x m has pushed (record { behind = room.behind; fits = omega (arith, room.fits) }) roles stands enough
    arguments-run (argument first rest) fits function below values count place base limit after now x m has pushed room roles stands enough =
        let few : slice_index w.counts function ≤ 16 = few_parameters w function below in
        let called : List Instr = call_block (callee scope function) (slice_index w.addresses function) in
        let one : List Instr = expression_code scope first in
        let others : List Instr = arguments_code scope rest in
        let regrouped : (one ++ (push Value ++ others)) ++ called ≡ one ++ (push Value ++ (others ++ called)) = simp append_assoc in
        let parts = HasBlock-parts w.code place one (push Value ++ (others ++ called)) (subst (HasBlock w.code place) regrouped has) in
        let later = HasBlock-parts w.code (place + length one) (push Value) (others ++ called) parts.1 in
        let size : length ((one ++ (push Value ++ others)) ++ called) ≡ length one + 2 + length (others ++ called) = omega (arith, ap length regrouped, length-append one (push Value ++ (others ++ called))) in
        let end : ℕ = place + length ((one ++ (push Value ++ others)) ++ called) in
        let top : ℕ = base + 4 * length values in
        let between : ℕ = 2 + length (others ++ called) + after in
        Leads-next w b holds_value holds_value (place + length one) end top base between after limit m now.units (at_place place x m) (expression_meaning s enter first now)
        (λ value. arguments_meaning s enter rest (values ++ value ∷ []) (enter function)) (omega (arith, room.behind)) (omega arith) (omega arith)
        (expression-runs first fits.0 place top limit between now x m parts.0 tt (record { behind = omega (arith, room.behind); fits = omega (arith, room.fits, count, few) }) roles stands (omega (arith, enough, size)))
        (λ value then left y n tells roles' stands' kept less steps.
        let values' : List ℕ = values ++ value ∷ [] in
        let follow : Outcome = arguments_meaning s enter rest values' (enter function) then in
        let longer : length values' ≡ length values + 1 = length-append values (value ∷ []) in
        let again : top + 4 ≡ base + 4 * length values' = omega (arith, longer) in
        let finish : place + length one + 2 + length (others ++ called) ≡ end = omega (arith, size) in
        Leads-push w b Value (place + length one) top left value then y n _ later.0 tells (omega (arith, room.behind)) (omega (arith, room.fits, count, few)) roles' stands' (omega (arith, steps))
        (λ z o less_left counted roles'' stands'' loaded kept'.
        let more : Pushed base values' o = Pushed-more base value values m o pushed (λ a from before. kept a (omega (arith, stands.body.behind, room.behind)) before (inr (omega (arith, room.behind))) ∙ kept' a (omega (arith, stands.body.behind, room.behind)) before (inr (omega (arith, room.behind)))) loaded in
        Leads-map (promise w) less_left (at_place (place + length one + 2) z o) (Reaches w b holds_value end base after o then.units follow) (Reaches w b holds_value end base after n then.units follow)
        (subst (λ q. Leads (promise w) less_left (at_place (place + length one + 2) z o) (Reaches w b holds_value q base after o then.units follow)) finish
        (arguments-run rest fits.1 function below values' (omega (arith, longer, count)) (place + length one + 2) base less_left after then z o later.1 more (record { behind = room.behind; fits = omega (arith, room.fits) })
        (subst (λ q. Roles b q then z) again roles'') stands'' (omega (arith, steps, counted))))
        (λ r e. Reaches-since w b holds_value end base after n o then.units then.units follow r e (omega (arith, room.behind)) (λ a from before apart. kept' a from (omega arith) apart) (omega arith))))

  -- ---- statements

  -- an expression, and what is done with its value
  then-run : (depth : ℕ) (e : Expression) (follows : List Instr) (g : ℕ → Now → Outcome) → FitsExpression w.counts b.locals e → expression_depth e ≤ depth → ((value : ℕ) → Runs w b (holds_value value) tells_nothing depth follows (g value))
      → Runs w b any tells_nothing depth (expression_code scope e ++ follows) (λ now. then_do (expression_meaning s enter e now) g)
  then-run depth e follows g fits within runs =
      Runs-then w b any holds_value tells_nothing depth (expression_code scope e) follows (expression_meaning s enter e) g
      (Runs-within w b any holds_value (expression_depth e) depth (expression_code scope e) (expression_meaning s enter e) within (expression-runs e fits)) runs

  mutual
    unfolding statement_code statements_code choice_code statement_meaning statements_meaning

    pub statement-runs : (t : Statement) → FitsStatement w.counts b.locals t → Runs w b any tells_nothing (statement_depth t) (statement_code scope t) (statement_meaning s enter t)
    statement-runs (emit value) fits = then-run (1 + expression_depth value) value emit_block emit_meaning fits (omega arith) (emit-runs w b (1 + expression_depth value))
    statement-runs (set index value) fits = then-run (1 + expression_depth value) value (set_block index) (set_meaning index) fits.1 (omega arith) (λ v. set-runs w b (1 + expression_depth value) index v fits.0)
    statement-runs (block body) fits = Runs-within w b any tells_nothing (statements_depth body) (1 + statements_depth body) (statements_code scope body) (statements_meaning s enter body) (omega arith) (statements-run body fits)
    statement-runs (choice condition first second) fits =
        let deep : ℕ = 1 + max (expression_depth condition) (max (statement_depth first) (statement_depth second)) in
        then-run deep condition _ _ fits.0 (omega arith)
        (λ value. choice-runs w b deep value (statement_code scope first) (statement_code scope second) (statement_meaning s enter first) (statement_meaning s enter second)
        (Runs-within w b any tells_nothing (statement_depth first) deep (statement_code scope first) (statement_meaning s enter first) (omega arith) (statement-runs first fits.1))
        (Runs-within w b any tells_nothing (statement_depth second) deep (statement_code scope second) (statement_meaning s enter second) (omega arith) (statement-runs second fits.2)))
    statement-runs (while condition body) fits =
        let deep : ℕ = 1 + max (expression_depth condition) (statements_depth body) in
        while-runs w b deep (expression_code scope condition) (statements_code scope body) (expression_meaning s enter condition) (statements_meaning s enter body)
        (Runs-within w b any holds_value (expression_depth condition) deep (expression_code scope condition) (expression_meaning s enter condition) (omega arith) (expression-runs condition fits.0))
        (Runs-within w b any tells_nothing (statements_depth body) deep (statements_code scope body) (statements_meaning s enter body) (omega arith) (statements-run body fits.1))
    statement-runs (store op address value) fits =
        let deep : ℕ = max (expression_depth address) (expression_depth value) in
        both-run tells_nothing address value (store_meaning op) (push Value ++ (expression_code scope value ++ (pop Detail ++ store_block op))) (expression-runs address fits.0)
        (λ a. pushed-runs w b Detail (pops-Detail w b) tells_nothing deep a (expression_code scope value) (store_block op) (expression_meaning s enter value) (store_meaning op a)
        (Runs-within w b any holds_value (expression_depth value) deep (expression_code scope value) (expression_meaning s enter value) (omega arith) (expression-runs value fits.1))
        (λ v. store-runs w b (suc deep) op a v))
    statement-runs (return value) fits = then-run (1 + expression_depth value) value (return_block b.locals) Returned fits (omega arith) (return-runs w b tells_nothing (1 + expression_depth value))
    statement-runs (stop value) fits = then-run (1 + expression_depth value) value stop_block (λ v. Ended (User v)) fits (omega arith) (stop-runs w b (1 + expression_depth value))
    statement-runs (run value) fits = λ place top limit after now x m has is_given room roles stands enough.
        let end : ℕ = place + length (expression_code scope value) in
        Leads-next w b holds_value tells_nothing end end top top after after limit m now.units (at_place place x m) (expression_meaning s enter value now) (λ _. Goes 0) (omega (arith, room.behind)) (omega arith) (omega arith)
        (expression-runs value fits place top limit after now x m has tt (record { behind = room.behind; fits = omega (arith, room.fits) }) roles stands enough)
        (λ v then left y n tells roles' stands' kept less steps. Leads-arrived w b end top after left then y n roles' stands' steps 0)

    pub statements-run : (body : Statements) → FitsStatements w.counts b.locals body → Runs w b any tells_nothing (statements_depth body) (statements_code scope body) (statements_meaning s enter body)
    statements-run no_statements fits = λ place top limit after now x m has is_given room roles stands enough.
        let here : place ≡ place + 0 = omega arith in
        subst (λ q. Leads (promise w) limit (at_place place x m) (Reaches w b tells_nothing q top after m now.units (Goes 0 now))) here
        (Leads-arrived w b place top after limit now x m roles stands (omega (arith, enough)) 0)
    statements-run (statement first rest) fits =
        let deep : ℕ = max (statement_depth first) (statements_depth rest) in
        Runs-then w b any tells_nothing tells_nothing deep (statement_code scope first) (statements_code scope rest) (statement_meaning s enter first) (λ _. statements_meaning s enter rest)
        (Runs-within w b any tells_nothing (statement_depth first) deep (statement_code scope first) (statement_meaning s enter first) (omega arith) (statement-runs first fits.0))
        (λ value. Runs-within w b any tells_nothing (statements_depth rest) deep (statements_code scope rest) (statements_meaning s enter rest) (omega arith) (statements-run rest fits.1))
