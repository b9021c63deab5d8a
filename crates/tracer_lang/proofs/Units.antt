-- No expression, statement or call gives units back.
use Rattle.std.proofs.Common.{◌≡◌, ℕ, zero, suc, ◌+◌, ◌-◌, ◌≤◌, Bool, true, false, cond, List, [], ◌∷◌, ◌++◌, length, Option, Some, None, refl, sym, ap, subst, ◌∙◌, arith}
use Rattle.std.specs.Prelude.{◌==◌, ◌&&◌, slice_index, slice_index_or, nat_lt}
use Rattle.sl_model.specs.declared.instr.LoadOp.{LoadOp}
use Rattle.sl_model.specs.declared.instr.StoreOp.{StoreOp}
use Rattle.sl_model.specs.Pages.{Pages, load_at, store_at}
use Rattle.sl_model.specs.Arithmetic.{load_width, load_value, store_width, truth}
use Rattle.sl_model.specs.State.{State}
use Rattle.sl_model.specs.Heap.{is_break, brk_answer}
use Rattle.tracer_lang.specs.declared.record.TracerEnd.TheVariants.{OverBudget, StoreFault, TooManyStores, TooManyWords, Barred, User}
use Rattle.tracer_lang.specs.Tree.{Expression, number, local, register, program_counter, load, operation, is_zero, call, system_call, Arguments, no_arguments, argument, Statement, emit, set, block, choice, while, store, return, stop, run, Statements, no_statements, statement, FunctionTree}
use Rattle.tracer_lang.specs.Meaning.{Now, Outcome, Goes, Returned, Ended, then_do, choose, most_words, most_stores, operator_value, loaded, load_meaning, stored, store_meaning, emit_meaning, set_meaning, with_unit, break_meaning, system_call_meaning, Enter, expression_meaning, arguments_meaning, turns, statement_meaning, statements_meaning, no_function, opening_locals, left_with, body_meaning, entering}

-- how many units are left
abbrev pub left : Outcome → ℕ
left (Goes value now) = now.units
left (Returned value now) = now.units
left (Ended end now) = now.units

-- what comes of a start leaves no more units than there were
abbrev pub NoGain : (Now → Outcome) → Type 0
NoGain follow = (now : Now) → left (follow now) ≤ now.units

abbrev pub NoGains : Enter → Type 0
NoGains enter = (f : ℕ) (values : List ℕ) → NoGain (enter f values)

same : (n : ℕ) → n ≤ n
same n = omega arith

pub after : (n : ℕ) (o : Outcome) (follow : ℕ → Now → Outcome) → left o ≤ n
    → ((value : ℕ) → NoGain (follow value)) → left (then_do o follow) ≤ n
after n (Goes value now) follow few each =
    let less = each value now in omega (arith, few, less)
after n (Returned value now) follow few each = few
after n (Ended end now) follow few each = few

pub choose_no_gain : (c : ℕ) (first second : Now → Outcome) → NoGain first → NoGain second
    → NoGain (choose c first second)
choose_no_gain zero first second a b now = b now
choose_no_gain (suc n) first second a b now = a now

either : (b : Bool) (n : ℕ) (x y : Outcome) → left x ≤ n → left y ≤ n → left (cond b x y) ≤ n
either true n x y a b = a
either false n x y a b = b

loaded_no_gain : (op : LoadOp) (address : ℕ) (now : Now) (word : Option ℕ)
    → left (loaded op address now word) ≤ now.units
loaded_no_gain op address now None = same now.units
loaded_no_gain op address now (Some n) = same now.units

stored_no_gain : (address : ℕ) (now : Now) (pages : Option Pages)
    → left (stored address now pages) ≤ now.units
stored_no_gain address now None = same now.units
stored_no_gain address now (Some pages) =
    either (nat_lt now.stores most_stores) now.units
    (Goes 0 (record now { pages = pages; stores = now.stores + 1 })) (Ended TooManyStores now)
    (same now.units) (same now.units)

emit_no_gain : (word : ℕ) → NoGain (emit_meaning word)
emit_no_gain word now =
    either (nat_lt (length now.words) most_words) now.units
    (Goes 0 (record now { words = now.words ++ word ∷ [] })) (Ended TooManyWords now)
    (same now.units) (same now.units)

pub unit_no_gain : (follow : Now → Outcome) → NoGain follow → NoGain (with_unit follow)
unit_no_gain follow never now =
    either (now.units == 0) now.units (Ended OverBudget now)
    (follow (record now { units = now.units - 1 })) (same now.units)
    (let less = never (record now { units = now.units - 1 }) in omega (arith, less))

system_no_gain : (s : State) (code value : ℕ) → NoGain (system_call_meaning s code value)
system_no_gain s code value now =
    let s' : State = record s { brk = now.brk } in
    either (code == 214) now.units (break_meaning s value now) (Ended (Barred code) now)
    (either (is_break s' value && nat_lt s.brk_end value) now.units (Ended (Barred 214) now)
    (Goes (brk_answer s' value) (record now { brk = brk_answer s' value })) (same now.units)
    (same now.units))
    (same now.units)

module _ (s : State) (enter : Enter) (never : NoGains enter) where
  mutual
    unfolding expression_meaning

    pub expression_no_gain : (e : Expression) → NoGain (expression_meaning s enter e)
    expression_no_gain (number value) now = same now.units
    expression_no_gain (local index) now = same now.units
    expression_no_gain (register index) now = same now.units
    expression_no_gain program_counter now = same now.units
    expression_no_gain (load op address) now =
        after now.units (expression_meaning s enter address now) (load_meaning op)
        (expression_no_gain address now)
        (λ a t. loaded_no_gain op a t (load_at t.pages a (load_width op)))
    expression_no_gain (operation operator first second) now =
        after now.units (expression_meaning s enter first now)
        (λ a n. then_do (expression_meaning s enter second n) (λ b. Goes (operator_value operator a b)))
        (expression_no_gain first now)
        (λ a t. after t.units (expression_meaning s enter second t)
        (λ b. Goes (operator_value operator a b)) (expression_no_gain second t)
        (λ b u. same u.units))
    expression_no_gain (is_zero of) now =
        after now.units (expression_meaning s enter of now) (λ a. Goes (truth (a == 0)))
        (expression_no_gain of now) (λ a t. same t.units)
    expression_no_gain (call function arguments) now =
        arguments_no_gain arguments [] (enter function) (never function) now
    expression_no_gain (system_call code value) now =
        after now.units (expression_meaning s enter code now)
        (λ c n. then_do (expression_meaning s enter value n) (system_call_meaning s c))
        (expression_no_gain code now)
        (λ c t. after t.units (expression_meaning s enter value t) (system_call_meaning s c)
        (expression_no_gain value t) (λ v. system_no_gain s c v))

    pub arguments_no_gain : (es : Arguments) (values : List ℕ) (follow : List ℕ → Now → Outcome)
        → ((vs : List ℕ) → NoGain (follow vs)) → NoGain (arguments_meaning s enter es values follow)
    arguments_no_gain no_arguments values follow each now = each values now
    arguments_no_gain (argument first rest) values follow each now =
        after now.units (expression_meaning s enter first now)
        (λ value. arguments_meaning s enter rest (values ++ value ∷ []) follow)
        (expression_no_gain first now)
        (λ value. arguments_no_gain rest (values ++ value ∷ []) follow each)

  pub turns_no_gain : (condition body : Now → Outcome) → NoGain condition → NoGain body → (n : ℕ)
      → NoGain (turns condition body n)
  unfolding turns
  turns_no_gain condition body first second zero now =
      after now.units (condition now) (λ c. choose c (Ended OverBudget) (Goes 0)) (first now)
      (λ c. choose_no_gain c (Ended OverBudget) (Goes 0) (λ t. same t.units) (λ t. same t.units))
  turns_no_gain condition body first second (suc n) now =
      let again = λ (t : Now). then_do (body t) (λ _. turns condition body n) in
      after now.units (condition now) (λ c. choose c (with_unit again) (Goes 0)) (first now)
      (λ c. choose_no_gain c (with_unit again) (Goes 0)
      (unit_no_gain again (λ t. after t.units (body t) (λ _. turns condition body n) (second t)
      (λ _. turns_no_gain condition body first second n)))
      (λ t. same t.units))

  mutual
    unfolding statement_meaning

    pub statement_no_gain : (t : Statement) → NoGain (statement_meaning s enter t)
    statement_no_gain (emit value) now =
        after now.units (expression_meaning s enter value now) emit_meaning
        (expression_no_gain value now) emit_no_gain
    statement_no_gain (set index value) now =
        after now.units (expression_meaning s enter value now) (set_meaning index)
        (expression_no_gain value now) (λ v t. same t.units)
    statement_no_gain (block body) now = statements_no_gain body now
    statement_no_gain (choice condition first second) now =
        after now.units (expression_meaning s enter condition now)
        (λ c. choose c (statement_meaning s enter first) (statement_meaning s enter second))
        (expression_no_gain condition now)
        (λ c. choose_no_gain c (statement_meaning s enter first) (statement_meaning s enter second)
        (statement_no_gain first) (statement_no_gain second))
    statement_no_gain (while condition body) now =
        turns_no_gain (expression_meaning s enter condition) (statements_meaning s enter body)
        (expression_no_gain condition) (statements_no_gain body) now.units now
    statement_no_gain (store op address value) now =
        after now.units (expression_meaning s enter address now)
        (λ a n. then_do (expression_meaning s enter value n) (store_meaning op a))
        (expression_no_gain address now)
        (λ a t. after t.units (expression_meaning s enter value t) (store_meaning op a)
        (expression_no_gain value t)
        (λ v u. stored_no_gain a u (store_at u.pages a (store_width op) v)))
    statement_no_gain (return value) now =
        after now.units (expression_meaning s enter value now) Returned
        (expression_no_gain value now) (λ v t. same t.units)
    statement_no_gain (stop value) now =
        after now.units (expression_meaning s enter value now) (λ v. Ended (User v))
        (expression_no_gain value now) (λ v t. same t.units)
    statement_no_gain (run value) now =
        after now.units (expression_meaning s enter value now) (λ _. Goes 0)
        (expression_no_gain value now) (λ v t. same t.units)

    pub statements_no_gain : (ts : Statements) → NoGain (statements_meaning s enter ts)
    statements_no_gain no_statements now = same now.units
    statements_no_gain (statement first rest) now =
        after now.units (statement_meaning s enter first now)
        (λ _. statements_meaning s enter rest) (statement_no_gain first now)
        (λ v. statements_no_gain rest)

left_with_no_gain : (locals : List ℕ) (n : ℕ) (o : Outcome) → left o ≤ n
    → left (left_with locals o) ≤ n
left_with_no_gain locals n (Goes value now) few = few
left_with_no_gain locals n (Returned value now) few = few
left_with_no_gain locals n (Ended end now) few = few

pub entering_no_gain : (s : State) (functions : List FunctionTree) (calls : ℕ)
    → NoGains (entering s functions calls)
unfolding entering
entering_no_gain s functions zero f values now = same now.units
entering_no_gain s functions (suc n) f values now =
    let g = slice_index_or functions f no_function in
    let next = entering s functions n in
    unit_no_gain (body_meaning s next g values)
    (λ t.
    let inside : Now = record t { locals = opening_locals g.locals values } in
    left_with_no_gain t.locals t.units (statements_meaning s next g.body inside)
    (statements_no_gain s next (entering_no_gain s functions n) g.body inside))
    now
