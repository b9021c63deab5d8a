-- The compiler's theorem: code whose words spell a script's code stands for the script.
use Rattle.std.specs.Prelude.{slice_index, slice_index_or, IfOk, Ok, Err}
use Rattle.std.proofs.Common.{Result, ◌≡◌, ℕ, zero, suc, ⊎_elim, ◌+◌, ◌*◌, ◌<◌, ◌≤◌, List, length, refl, ap, ◌∙◌, sym, subst, arith, length-append}
use Rattle.std.proofs.lemmas.Bool.{cases_lt}
use Rattle.std.proofs.lemmas.List.{get_or-map}
use Rattle.std.proofs.Math.ListN.{length-map}
use Rattle.sl_model.specs.declared.instr.Instr.{Instr}
use Rattle.sl_model.specs.Bank.{IsBankMemory, bank_start, output_of}
use Rattle.sl_model.specs.Pages.{Pages}
use Rattle.sl_model.specs.Runs.{steps}
use Rattle.sl_model.specs.State.{State}
use Rattle.sl_model.specs.Step.{step}
use Rattle.sl_model.specs.Undo.{log_count}
use Rattle.tracer_lang.specs.declared.record.TracerEnd.{TracerEnd}
use Rattle.tracer_lang.specs.declared.record.TracerEnd.TheVariants.{Done}
use Rattle.tracer_lang.specs.Limits.{IsWithinLimits, FitsBody, parameter_counts, statements_depth}
use Rattle.tracer_lang.specs.Meaning.{Now, Outcome, Goes, Returned, Ended, no_function, no_tracepoint, opening_now, end_of, meaning, statements_meaning, without_memory}
use Rattle.tracer_lang.specs.Tree.{FunctionTree, TracepointTree, ScriptTree}
use Rattle.tracer_code.specs.declared.code.TracerCode.{TracerCode}
use Rattle.tracer_code.specs.declared.outcomes.TheConstants.{DONE}
use Rattle.tracer_code.specs.Outcomes.{TellsEnd}
use Rattle.tracer_code.specs.Runs.{IsObserved, IsContained, EndsWell, IsDone, RunsTo}
use Rattle.tracer_code.specs.Sound.{StandsFor}
use Rattle.word_blocks.specs.Code.{HasBlock, Spells}
use Rattle.word_blocks.specs.Configuration.{Configuration, at_place}
use Rattle.word_blocks.specs.Ways.{Arrives, Leads}
use Rattle.word_blocks.proofs.CodeLaws.{HasBlock-parts}
use Rattle.word_blocks.proofs.Ends.{EndsAfter-comes}
use Rattle.word_blocks.proofs.Ways.{Comes-steps, Comes-keeps, Leads-stay, Leads-then}
use Rattle.tracer_compile.specs.Blocks.{constant, end_with, end_without, opening_block}
use Rattle.tracer_compile.specs.Code.{body_code, tracepoint_code}
use Rattle.tracer_compile.specs.Script.{end_code, addresses_of, script_code, places_of}
use Rattle.tracer_compile.proofs.Relation.{Entry, World, worth, promise, Reaches, Ends, any, tells_nothing, Runs}
use Rattle.tracer_compile.proofs.Running.{HasBlock-inside}
use Rattle.tracer_compile.proofs.Ends.{Leads-end_without}
use Rattle.tracer_compile.proofs.WholeBodies.{returned, body-runs}
use Rattle.tracer_compile.proofs.Nodes.{scope_in, statements-run}
use Rattle.tracer_compile.proofs.Calls.{enter_in, calls-run}
use Rattle.tracer_compile.proofs.Opening.{outer, outer_top, outer_room, zeroed, IsAt-start, Leads-opening}
use Rattle.tracer_compile.proofs.Fitting.{script_fits}
use Rattle.tracer_compile.proofs.Placement.{FunctionStands, function_stands, tracepoint_stands, end_stands, length-places_of}

-- ---- a run that comes to an end

record Ran (w : World) (limit : ℕ) (end : TracerEnd) (now : Now) (start : State) : Type 0 where
  count : ℕ
  bound : count ≤ limit
  run : RunsTo w.words w.s start count
  outcome : TellsEnd (steps count start) end
  words : output_of (steps count start).pages ≡ now.words
  stores : log_count (steps count start).pages ≡ now.stores

ran : (w : World) (limit : ℕ) (end : TracerEnd) (now : Now) (start : State) → Arrives (promise w) limit (λ left d. Ends w end now d) start → Ran w limit end now start
ran w limit end now start arrives =
    let n : ℕ = arrives.steps in
    let t : State = arrives.state in
    let c : Configuration = arrives.configuration in
    let reached : Ends w end now c = arrives.reached in
    let same : t ≡ steps n start = sym (Comes-steps (promise w) n start t arrives.comes) in
    let ended = reached.ends t arrives.is_at in
    let tells : TellsEnd t end = record { number_told = arrives.is_at.registers 10 ∙ reached.number_told; value_told = arrives.is_at.registers 11 ∙ reached.value_told } in
    let told : TellsEnd (steps n start) end = subst (λ u. TellsEnd u end) same tells in
    let contained : IsContained w.words w.s t.pages = subst (IsContained w.words w.s) (sym arrives.is_at.pages) reached.holds.contained in
    record {
      count = n;
      bound = omega (arith, arrives.counted);
      run = record {
        ends = EndsAfter-comes (promise w) n start t arrives.comes ended.0;
        done = λ k below. subst IsDone (sym (Comes-keeps (promise w) n start t arrives.comes k below).1) tt;
        stores = λ k below. (Comes-keeps (promise w) n start t arrives.comes k below).0.1;
        contained = λ k within. ⊎_elim
            (λ (before : k < n). (Comes-keeps (promise w) n start t arrives.comes k before).0.0.contained)
            (λ (past : n ≤ k). subst (λ j. IsContained w.words w.s (steps j start).pages) (last n k past within) (subst (λ u. IsContained w.words w.s u.pages) same contained))
            (cases_lt k n);
        outcome = (end, told);
        fault = subst (λ u. EndsWell u (step u)) same ended.1;
      };
      outcome = told;
      words = ap output_of (ap (λ u. u.pages) (sym same) ∙ arrives.is_at.pages) ∙ reached.words;
      stores = ap log_count (ap (λ u. u.pages) (sym same) ∙ arrives.is_at.pages) ∙ reached.stores;
    }
  where
    last : (n k : ℕ) → n ≤ k → k ≤ n → n ≡ k
    last n k past within = omega arith

-- ---- a tracer

module _ (w : World) where
  -- what becomes of the tracer's body is how the tracer ends
  body_ends : (locals after end top most : ℕ) (m : Pages) → HasBlock w.code 0 end_code → (o : Outcome) (left : ℕ) (c : Configuration) → 3 ≤ after → Reaches w (outer locals) tells_nothing end top after m most (returned o) left c
      → Leads (promise w) left c (λ rest d. Ends w (end_of o).0 (end_of o).1 d)
  unfolding end_code
  body_ends locals after end top most m end_here (Goes value now) left c enough leaves =
      subst (λ q. Leads (promise w) left (at_place q c.registers c.pages) (λ rest d. Ends w Done now d)) (sym leaves.place_is)
      (Leads-end_without w (outer locals) Done DONE 0 left after tells_nothing end top now c.registers c.pages m most refl refl end_here leaves.holds leaves.matches (omega (arith, leaves.steps)))
  body_ends locals after end top most m end_here (Returned value now) left c enough leaves =
      subst (λ q. Leads (promise w) left (at_place q c.registers c.pages) (λ rest d. Ends w Done now d)) (sym leaves.place_is)
      (Leads-end_without w (outer locals) Done DONE 0 left after tells_nothing end top now c.registers c.pages m most refl refl end_here leaves.holds leaves.matches (omega (arith, leaves.steps)))
  body_ends locals after end top most m end_here (Ended end' now) left c enough ends = Leads-stay (promise w) left c _ ends

  -- a tracer stands behind the end code
  behind_end : (budget : ℕ) (t : TracepointTree) (place : ℕ) → HasBlock w.code 0 end_code → HasBlock w.code place (tracepoint_code w.functions w.addresses budget t) → 3 ≤ place
  unfolding end_code end_without end_with tracepoint_code opening_block constant
  behind_end budget t zero end_here has = absurd (cc (end_here.0, has.0))
  behind_end budget t (suc zero) end_here has = absurd (cc (end_here.1.0, has.0))
  behind_end budget t (suc (suc zero)) end_here has = absurd (cc (end_here.1.1.0, has.0))
  behind_end budget t (suc (suc (suc more))) end_here has = omega arith

  -- From where a tracepoint fires, the run comes to the end that the tracer means.
  tracer_runs : (script : ScriptTree) (t : TracepointTree) (m : Pages) (place : ℕ) → IsBankMemory w.words w.s m → HasBlock w.code 0 end_code → HasBlock w.code place (tracepoint_code w.functions w.addresses script.budget t)
      → FitsBody w.counts t.locals t.body → script.budget ≤ 1000000
      → let o : Outcome = statements_meaning (without_memory w.s) (enter_in w 32) t.body (opening_now script t w.s) in
      Leads (promise w) (length w.code + worth w script.budget) (at_place place zeroed m) (λ left d. Ends w (end_of o).0 (end_of o).1 d)
  unfolding tracepoint_code body_code opening_block constant
  tracer_runs script t m place is end_here has fits few =
      let now : Now = opening_now script t w.s in
      let o : Outcome = statements_meaning (without_memory w.s) (enter_in w 32) t.body now in
      let goal : ℕ → Configuration → Type 0 = λ left d. Ends w (end_of o).0 (end_of o).1 d in
      let body : List Instr = body_code (scope_in w (outer t.locals)) t.body in
      let whole : List Instr = tracepoint_code w.functions w.addresses script.budget t in
      let parts = HasBlock-parts w.code place (opening_block script.budget t.locals) body has in
      let size : length whole ≡ 9 + length body = length-append (opening_block script.budget t.locals) body in
      let inside : place + length whole ≤ length w.code = HasBlock-inside w.code place whole has (omega (arith, size)) in
      let behind : 3 ≤ place = behind_end script.budget t place end_here has in
      let top : ℕ = outer_top t.locals in
      let depth : ℕ = statements_depth t.body in
      let end : ℕ = place + 9 + length body in
      let runs : Runs w (outer t.locals) any tells_nothing depth body (λ n. returned (statements_meaning (without_memory w.s) (enter_in w 32) t.body n)) =
      body-runs w (outer t.locals) depth (scope_in w (outer t.locals)) t.body (statements_meaning (without_memory w.s) (enter_in w 32) t.body) refl
      (statements-run w (outer t.locals) (enter_in w 32) (calls-run w 32 (outer t.locals) refl) t.body fits.numbers) in
      Leads-opening w script t place (length w.code + worth w script.budget) m goal is (omega arith) fits.few_locals parts.0 (omega (arith, size, inside))
      (λ left y n counted roles stands.
      Leads-then (promise w) left (at_place (place + 9) y n) (Reaches w (outer t.locals) tells_nothing end top 3 n now.units (returned o)) goal
      (runs (place + 9) top left 3 now y n parts.1 tt (outer_room t.locals depth fits.few_locals (omega (arith, fits.shallow))) roles stands (omega (arith, counted, size, inside, behind)))
      (λ left' c reached. body_ends t.locals 3 end top now.units n end_here o left' c (omega arith) reached))

-- ---- a script

-- a function of the script
entry : (script : ScriptTree) → IsWithinLimits script → (number : ℕ) → number < length (parameter_counts script) → Entry (script_code script) script.functions (addresses_of script) (parameter_counts script) number
entry script limits number below =
    let parameters : FunctionTree → ℕ = λ f. f.parameters in
    let inside : number < length script.functions = omega (arith, length-map script.functions parameters, below) in
    let stands : FunctionStands script number = function_stands script number inside in
    record {
      place = stands.place;
      address = stands.address;
      body = stands.stands;
      fits = limits.functions number no_function inside;
      parameters = sym (get_or-map parameters script.functions number no_function 0 inside);
    }

-- code of the script beside a program
beside : (code : TracerCode) (script : ScriptTree) → IsWithinLimits script → Spells code.words (script_code script) → (s : State) → IsObserved s → World
beside code script limits spells s observed = record {
  s = s;
  observed = observed;
  words = code.words;
  code = script_code script;
  spells = spells;
  few_words = script_fits script limits;
  functions = script.functions;
  addresses = addresses_of script;
  counts = parameter_counts script;
  entries = entry script limits;
}

-- what all units are worth, with the first pass through the code
most_worth : (w : World) (budget : ℕ) → length w.code * (budget + 1) ≡ length w.code + worth w budget
unfolding worth
most_worth w budget = grind arith

-- Code that spells a script, and tells where its tracers stand and how many steps they take, stands
-- for it.
pub code_stands_for : (code : TracerCode) (script : ScriptTree) → IsWithinLimits script → Spells code.words (script_code script) → code.places ≡ places_of script → code.most ≡ length (script_code script) * (script.budget + 1) → StandsFor code script
unfolding meaning beside
code_stands_for code script limits spells places most = record {
  places = ap length places ∙ length-places_of script;
  means = λ point below s observed m is.
      let w : World = beside code script limits spells s observed in
      let t : TracepointTree = slice_index_or script.tracepoints point no_tracepoint in
      let place : ℕ = slice_index code.places point in
      let there : slice_index (places_of script) point ≡ place = ap (λ l. slice_index l point) (sym places) in
      let placed : HasBlock (script_code script) place (tracepoint_code script.functions (addresses_of script) script.budget t) =
      subst (λ q. HasBlock (script_code script) q (tracepoint_code script.functions (addresses_of script) script.budget t)) there (tracepoint_stands script point below) in
      let o : Outcome = statements_meaning (without_memory s) (enter_in w 32) t.body (opening_now script t s) in
      let start : State = bank_start place m s in
      let limit : ℕ = length (script_code script) + worth w script.budget in
      let way = tracer_runs w script t m place is (end_stands script) placed (limits.tracepoints point no_tracepoint below).body limits.most_budget in
      let result : Ran w limit (end_of o).0 (end_of o).1 start = ran w limit (end_of o).0 (end_of o).1 start (way start (IsAt-start place m s is.bank.are)) in
      record {
        well = record { count = result.count; bound = omega (arith, result.bound, most, most_worth w script.budget); run = result.run };
        leaves = record { outcome = result.outcome; words = result.words; stores = result.stores };
      };
}

-- What was made from a script stands for it, where there was memory to make it.
pub made_stands_for : {E : Type 0} (script : ScriptTree) (made : Result TracerCode E) → IsWithinLimits script
    → IfOk made (λ code. Spells code.words (script_code script)) → IfOk made (λ code. code.places ≡ places_of script) → IfOk made (λ code. code.most ≡ length (script_code script) * (script.budget + 1))
    → IfOk made (λ code. StandsFor code script)
made_stands_for script (Ok code) limits spells places most = code_stands_for code script limits spells places most
made_stands_for script (Err e) limits spells places most = tt
