-- Where the functions and the tracers of a script stand in its code.
use Rattle.std.proofs.Common.{◌≡◌, ℕ, zero, suc, ◌+◌, ◌-◌, ◌<◌, List, [], ◌∷◌, ◌++◌, length, map, replicate, get_or, refl, sym, ap, ◌∙◌, subst, arith, length-append}
use Rattle.std.specs.Prelude.{slice_index, slice_index_or}
use Rattle.std.proofs.lemmas.List.{get_or-map, length-map}
use Rattle.std.proofs.lemmas.Option.{slice_get_within}
use Rattle.sl_model.specs.declared.instr.Instr.{Instr}
use Rattle.tracer_lang.specs.Meaning.{no_function, no_tracepoint}
use Rattle.tracer_lang.specs.Tree.{Expression, number, local, register, program_counter, load, operation, is_zero, call, system_call, Arguments, no_arguments, argument, Statement, emit, set, block, choice, while, store, return, stop, run, Statements, no_statements, statement, FunctionTree, TracepointTree, ScriptTree}
use Rattle.word_blocks.specs.Code.{HasBlock}
use Rattle.word_blocks.proofs.CodeLaws.{HasBlock-parts, HasBlock-whole}
use Rattle.tracer_compile.specs.Blocks.{constant, depth_block, unit_block, zeros, opening_block}
use Rattle.tracer_compile.specs.Code.{Scope, callee, call_block, expression_code, arguments_code, choice_code, while_code, statement_code, statements_code, body_code, function_code, tracepoint_code}
use Rattle.tracer_compile.specs.Script.{joined, places_from, address_of, end_code, function_codes, tracepoint_codes, addresses_of, functions_part, script_code, places_of}
use Rattle.tracer_compile.proofs.Lengths.{length-enter, length-choice, length-while}

-- ---- the length of code does not depend on addresses

both : (a b c d : List Instr) → length a ≡ length b → length c ≡ length d
    → length (a ++ c) ≡ length (b ++ d)
both a b c d first second =
    omega (arith, length-append a c, length-append b d, first, second)

-- the same on the same side
behind : (a c d : List Instr) → length c ≡ length d → length (a ++ c) ≡ length (a ++ d)
behind a c d same = both a a c d refl same

before : (a b c : List Instr) → length a ≡ length b → length (a ++ c) ≡ length (b ++ c)
before a b c same = both a b c c same refl

same-call : (f : FunctionTree) (a b : ℕ) → length (call_block f a) ≡ length (call_block f b)
unfolding call_block
same-call f a b =
    behind depth_block _ _
    (behind unit_block _ _
    (behind (zeros (f.locals - f.parameters)) _ _
    (length-enter f.locals a ∙ sym (length-enter f.locals b))))

-- a scope with other addresses
abbrev at : Scope → List ℕ → Scope
at scope addresses = record scope { addresses = addresses }

mutual
  unfolding expression_code arguments_code

  same-expression : (scope : Scope) (a b : List ℕ) (e : Expression)
      → length (expression_code (at scope a) e) ≡ length (expression_code (at scope b) e)
  same-expression scope a b (number value) = refl
  same-expression scope a b (local index) = refl
  same-expression scope a b (register index) = refl
  same-expression scope a b program_counter = refl
  same-expression scope a b (load op address) = before _ _ _ (same-expression scope a b address)
  same-expression scope a b (operation op first second) =
      both _ _ _ _ (same-expression scope a b first)
      (behind _ _ _ (before _ _ _ (same-expression scope a b second)))
  same-expression scope a b (is_zero of) = before _ _ _ (same-expression scope a b of)
  same-expression scope a b (call function es) =
      both _ _ _ _ (same-arguments scope a b es)
      (same-call (callee scope function) (slice_index a function) (slice_index b function))
  same-expression scope a b (system_call first second) =
      both _ _ _ _ (same-expression scope a b first)
      (behind _ _ _ (before _ _ _ (same-expression scope a b second)))

  same-arguments : (scope : Scope) (a b : List ℕ) (es : Arguments)
      → length (arguments_code (at scope a) es) ≡ length (arguments_code (at scope b) es)
  same-arguments scope a b no_arguments = refl
  same-arguments scope a b (argument first rest) =
      both _ _ _ _ (same-expression scope a b first)
      (behind _ _ _ (same-arguments scope a b rest))

same-choice : (c c' f f' s s' : List Instr) → length c ≡ length c' → length f ≡ length f'
    → length s ≡ length s' → length (choice_code c f s) ≡ length (choice_code c' f' s')
same-choice c c' f f' s s' of_c of_f of_s =
    omega (arith, length-choice c f s, length-choice c' f' s', of_c, of_f, of_s)

same-while : (c c' t t' : List Instr) → length c ≡ length c' → length t ≡ length t'
    → length (while_code c t) ≡ length (while_code c' t')
same-while c c' t t' of_c of_t =
    omega (arith, length-while c t, length-while c' t', of_c, of_t)

mutual
  unfolding statement_code statements_code

  same-statement : (scope : Scope) (a b : List ℕ) (s : Statement)
      → length (statement_code (at scope a) s) ≡ length (statement_code (at scope b) s)
  same-statement scope a b (emit value) = before _ _ _ (same-expression scope a b value)
  same-statement scope a b (set index value) = before _ _ _ (same-expression scope a b value)
  same-statement scope a b (block body) = same-statements scope a b body
  same-statement scope a b (choice condition first second) =
      same-choice _ _ _ _ _ _ (same-expression scope a b condition)
      (same-statement scope a b first) (same-statement scope a b second)
  same-statement scope a b (while condition body) =
      same-while _ _ _ _ (same-expression scope a b condition) (same-statements scope a b body)
  same-statement scope a b (store op address value) =
      both _ _ _ _ (same-expression scope a b address)
      (behind _ _ _ (before _ _ _ (same-expression scope a b value)))
  same-statement scope a b (return value) = before _ _ _ (same-expression scope a b value)
  same-statement scope a b (stop value) = before _ _ _ (same-expression scope a b value)
  same-statement scope a b (run value) = same-expression scope a b value

  same-statements : (scope : Scope) (a b : List ℕ) (ss : Statements)
      → length (statements_code (at scope a) ss) ≡ length (statements_code (at scope b) ss)
  same-statements scope a b no_statements = refl
  same-statements scope a b (statement first rest) =
      both _ _ _ _ (same-statement scope a b first) (same-statements scope a b rest)

pub length-function_code : (functions : List FunctionTree) (a b : List ℕ) (f : FunctionTree)
    → length (function_code functions a f) ≡ length (function_code functions b f)
unfolding function_code body_code
length-function_code functions a b f =
    let scope : Scope = record { functions = functions; addresses = a; locals = f.locals } in
    before _ _ _ (same-statements scope a b f.body)

-- ---- places

-- codes of the same lengths have the same places
places-same : {X : Type 0} (f g : X → List Instr) → ((x : X) → length (f x) ≡ length (g x))
    → (xs : List X) (place : ℕ) → places_from place (map f xs) ≡ places_from place (map g xs)
unfolding places_from
places-same f g same [] place = refl
places-same f g same (x ∷ xs) place =
    ap (λ l. place ∷ l)
    (ap (λ n. places_from (place + n) (map f xs)) (same x)
    ∙ places-same f g same xs (place + length (g x)))

-- a code of a list stands at its place, where the list stands
joined-stands : (code : List Instr) (place : ℕ) (codes : List (List Instr)) (i : ℕ)
    → i < length codes → HasBlock code place (joined codes)
    → HasBlock code (slice_index (places_from place codes) i) (get_or codes i [])
unfolding joined places_from
joined-stands code place [] i within stands = absurd (omega (arith, within))
joined-stands code place (first ∷ rest) zero within stands =
    (HasBlock-parts code place first (joined rest) stands).0
joined-stands code place (first ∷ rest) (suc i) within stands =
    joined-stands code (place + length first) rest i (omega (arith, within))
    (HasBlock-parts code place first (joined rest) stands).1

length-places : (place : ℕ) (codes : List (List Instr))
    → length (places_from place codes) ≡ length codes
unfolding places_from
length-places place [] = refl
length-places place (first ∷ rest) =
    ap (λ n. suc n) (length-places (place + length first) rest)

-- ---- parts of the code

functions_part-stands : (script : ScriptTree)
    → HasBlock (script_code script) 0 (functions_part script (addresses_of script))
unfolding script_code
functions_part-stands script =
    (HasBlock-parts (script_code script) 0 (functions_part script (addresses_of script))
    (joined (tracepoint_codes script (addresses_of script)))
    (HasBlock-whole (script_code script))).0

tracepoints-stand : (script : ScriptTree)
    → HasBlock (script_code script) (length (functions_part script (addresses_of script)))
    (joined (tracepoint_codes script (addresses_of script)))
unfolding script_code
tracepoints-stand script =
    let from : ℕ = length (functions_part script (addresses_of script)) in
    let there = (HasBlock-parts (script_code script) 0
    (functions_part script (addresses_of script))
    (joined (tracepoint_codes script (addresses_of script)))
    (HasBlock-whole (script_code script))).1 in
    let At : ℕ → Type 0 =
    λ place. HasBlock (script_code script) place
    (joined (tracepoint_codes script (addresses_of script))) in
    let none : 0 + from ≡ from = omega arith in
    subst At none there

-- the end of all tracers stands first
pub end_stands : (script : ScriptTree) → HasBlock (script_code script) 0 end_code
unfolding functions_part
end_stands script =
    (HasBlock-parts (script_code script) 0 end_code
    (joined (function_codes script (addresses_of script))) (functions_part-stands script)).0

functions-stand : (script : ScriptTree)
    → HasBlock (script_code script) (length end_code)
    (joined (function_codes script (addresses_of script)))
unfolding functions_part
functions-stand script =
    let there = (HasBlock-parts (script_code script) 0 end_code
    (joined (function_codes script (addresses_of script))) (functions_part-stands script)).1 in
    let At : ℕ → Type 0 =
    λ place. HasBlock (script_code script) place
    (joined (function_codes script (addresses_of script))) in
    let none : 0 + length end_code ≡ length end_code = omega arith in
    subst At none there

-- what calls take the address of a function to be
address-told : (script : ScriptTree) (f : ℕ) → f < length script.functions
    → slice_index (addresses_of script) f
    ≡ address_of (slice_index
    (places_from (length end_code) (function_codes script (addresses_of script))) f)
unfolding addresses_of
address-told script f within =
    let unknown : List ℕ = replicate (length script.functions) 0 in
    let first_pass : List (List Instr) = function_codes script unknown in
    let inside : f < length (places_from (length end_code) first_pass) =
    omega (
      arith,
      length-places (length end_code) first_pass,
      length-map script.functions (function_code script.functions unknown),
      within,
    ) in
    get_or-map address_of (places_from (length end_code) first_pass) f 0 0 inside
    ∙ ap (λ l. address_of (get_or l f 0))
    (places-same (function_code script.functions unknown)
    (function_code script.functions (addresses_of script))
    (length-function_code script.functions unknown (addresses_of script)) script.functions
    (length end_code))

-- The code of a function stands at the place whose address its calls know.
pub record FunctionStands (script : ScriptTree) (f : ℕ) : Type 0 where
  pub place : ℕ
  pub address : slice_index (addresses_of script) f ≡ address_of place
  pub stands : HasBlock (script_code script) place
      (function_code script.functions (addresses_of script)
      (slice_index_or script.functions f no_function))

pub function_stands : (script : ScriptTree) (f : ℕ) → f < length script.functions
    → FunctionStands script f
function_stands script f within =
    let code : FunctionTree → List Instr =
    function_code script.functions (addresses_of script) in
    let codes : List (List Instr) = function_codes script (addresses_of script) in
    let inside : f < length codes = omega (arith, length-map script.functions code, within) in
    let place : ℕ = slice_index (places_from (length end_code) codes) f in
    let Stands : List Instr → Type 0 = λ part. HasBlock (script_code script) place part in
    record {
      place = place;
      address = address-told script f within;
      stands = subst Stands (get_or-map code script.functions f no_function [] within)
          (joined-stands (script_code script) (length end_code) codes f inside
          (functions-stand script));
    }

-- the code of a tracer stands at its place
pub tracepoint_stands : (script : ScriptTree) (t : ℕ) → t < length script.tracepoints
    → HasBlock (script_code script) (slice_index (places_of script) t)
    (tracepoint_code script.functions (addresses_of script) script.budget
    (slice_index_or script.tracepoints t no_tracepoint))
unfolding places_of
tracepoint_stands script t within =
    let code : TracepointTree → List Instr =
    tracepoint_code script.functions (addresses_of script) script.budget in
    let codes : List (List Instr) = tracepoint_codes script (addresses_of script) in
    let inside : t < length codes = omega (arith, length-map script.tracepoints code, within) in
    let place : ℕ = slice_index (places_of script) t in
    let Stands : List Instr → Type 0 = λ part. HasBlock (script_code script) place part in
    subst Stands (get_or-map code script.tracepoints t no_tracepoint [] within)
    (joined-stands (script_code script) (length (functions_part script (addresses_of script)))
    codes t inside (tracepoints-stand script))

-- each tracer has a place
pub length-places_of : (script : ScriptTree)
    → length (places_of script) ≡ length script.tracepoints
unfolding places_of
length-places_of script =
    length-places (length (functions_part script (addresses_of script)))
    (tracepoint_codes script (addresses_of script))
    ∙ length-map script.tracepoints
    (tracepoint_code script.functions (addresses_of script) script.budget)

-- the place of a tracer lies within the code
pub place-within : (script : ScriptTree) (t : ℕ) → t < length script.tracepoints
    → slice_index (places_of script) t < length (script_code script)
unfolding tracepoint_code opening_block constant
place-within script t within =
    slice_get_within (script_code script) (slice_index (places_of script) t) _
    (tracepoint_stands script t within).0
