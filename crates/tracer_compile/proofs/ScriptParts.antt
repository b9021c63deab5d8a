-- The codes of a script's functions and tracers, one by one.
use Rattle.std.proofs.Common.{◌≡◌, ℕ, suc, ◌+◌, ◌-◌, ◌*◌, ◌^◌, ◌<◌, ◌≤◌, List, [], ◌∷◌, ◌++◌, length, map, take, replicate, get_or, refl, sym, ap, ◌∙◌, subst, arith, append_assoc}
use Rattle.std.proofs.Math.Seq.{take-nil}
use Rattle.std.proofs.lemmas.List.{get_or-map, length-map}
use Rattle.sl_model.specs.declared.instr.Instr.{Instr}
use Rattle.tracer_lang.specs.declared.script.Script.{Script}
use Rattle.tracer_lang.specs.declared.tree.Function.{Function}
use Rattle.tracer_lang.specs.declared.tree.Tracepoint.{Tracepoint}
use Rattle.tracer_lang.specs.Limits.{FitsFunction, FitsTracepoint, FitsStatements, IsWithinLimits, parameter_counts}
use Rattle.tracer_lang.specs.Meaning.{no_function, no_tracepoint}
use Rattle.tracer_lang.specs.Script.{tree_of}
use Rattle.tracer_lang.specs.Tree.{FunctionTree, TracepointTree, function_of, tracepoint_of, statements_of}
use Rattle.tracer_compile.specs.Blocks.{opening_block}
use Rattle.tracer_compile.specs.Code.{body_code, function_code, tracepoint_code}
use Rattle.tracer_compile.specs.Script.{address_of, joined, places_from, end_code, function_codes, tracepoint_codes, addresses_of, functions_part, script_code, places_of}

-- how many parameters each of some functions has, as the code tells it
abbrev pub counts : List Function → List ℕ
counts functions = map (λ (f : FunctionTree). f.parameters) (map function_of functions)

-- ---- functions

pub length-function_codes : (s : Script) (addresses : List ℕ)
    → length (function_codes (tree_of s) addresses) ≡ length s.functions
length-function_codes s addresses =
    length-map (tree_of s).functions (function_code (tree_of s).functions addresses)
    ∙ length-map s.functions function_of

named_function : (s : Script) (i : ℕ) (f : Function) → i < length s.functions
    → f ≡ get_or s.functions i f → get_or (tree_of s).functions i no_function ≡ function_of f
named_function s i f within is =
    get_or-map function_of s.functions i f no_function within ∙ ap function_of (sym is)

-- the code of function i, which is f
pub function_codes-at : (s : Script) (addresses : List ℕ) (functions : List Function) (i : ℕ)
    (f : Function) → functions ≡ s.functions → i < length functions
    → f ≡ get_or functions i f
    → get_or (function_codes (tree_of s) addresses) i []
    ≡ function_code (map function_of functions) addresses (function_of f)
function_codes-at s addresses functions i f same within is =
    let inside : i < length s.functions = rw (← same) within in
    let inside_tree : i < length (tree_of s).functions =
    omega (arith, length-map s.functions function_of) in
    let here : f ≡ get_or s.functions i f = is ∙ ap (λ l. get_or l i f) same in
    get_or-map (function_code (tree_of s).functions addresses) (tree_of s).functions i no_function
    [] inside_tree
    ∙ ap (function_code (tree_of s).functions addresses) (named_function s i f inside here)
    ∙ ap (λ l. function_code (map function_of l) addresses (function_of f)) (sym same)

-- the numbers in its body are in their ranges
pub function_numbers : (s : Script) (functions : List Function) (i : ℕ) (f : Function)
    → IsWithinLimits (tree_of s) → functions ≡ s.functions → i < length functions
    → f ≡ get_or functions i f
    → FitsStatements (counts functions) f.locals (statements_of f.body)
function_numbers s functions i f limits same within is =
    let inside : i < length s.functions = rw (← same) within in
    let inside_tree : i < length (tree_of s).functions =
    omega (arith, length-map s.functions function_of) in
    let here : f ≡ get_or s.functions i f = is ∙ ap (λ l. get_or l i f) same in
    let Fits : FunctionTree → Type 0 = FitsFunction (parameter_counts (tree_of s)) in
    let fits : Fits (function_of f) =
    subst Fits (named_function s i f inside here) (limits.functions i no_function inside_tree) in
    let Numbers : List Function → Type 0 =
    λ l. FitsStatements (counts l) f.locals (statements_of f.body) in
    subst Numbers (sym same) fits.body.numbers

-- a function's code was added
pub function_grown : (functions : List Function) (addresses : List ℕ) (f : Function)
    (code grown : List Instr)
    → grown ≡ code
    ++ body_code
    record { functions = map function_of functions; addresses = addresses; locals = f.locals }
    (statements_of f.body)
    → grown ≡ code ++ function_code (map function_of functions) addresses (function_of f)
unfolding function_code
function_grown functions addresses f code grown added = added

-- ---- tracers

pub length-tracepoint_codes : (s : Script) (addresses : List ℕ)
    → length (tracepoint_codes (tree_of s) addresses) ≡ length s.tracepoints
length-tracepoint_codes s addresses =
    length-map (tree_of s).tracepoints
    (tracepoint_code (tree_of s).functions addresses (tree_of s).budget)
    ∙ length-map s.tracepoints tracepoint_of

named_tracepoint : (s : Script) (i : ℕ) (t : Tracepoint) → i < length s.tracepoints
    → t ≡ get_or s.tracepoints i t
    → get_or (tree_of s).tracepoints i no_tracepoint ≡ tracepoint_of t
named_tracepoint s i t within is =
    get_or-map tracepoint_of s.tracepoints i t no_tracepoint within ∙ ap tracepoint_of (sym is)

pub tracepoint_codes-at : (s : Script) (addresses : List ℕ) (tracepoints : List Tracepoint)
    (i : ℕ) (t : Tracepoint) → tracepoints ≡ s.tracepoints → i < length tracepoints
    → t ≡ get_or tracepoints i t
    → get_or (tracepoint_codes (tree_of s) addresses) i []
    ≡ tracepoint_code (tree_of s).functions addresses s.budget (tracepoint_of t)
tracepoint_codes-at s addresses tracepoints i t same within is =
    let inside : i < length s.tracepoints = rw (← same) within in
    let inside_tree : i < length (tree_of s).tracepoints =
    omega (arith, length-map s.tracepoints tracepoint_of) in
    let here : t ≡ get_or s.tracepoints i t = is ∙ ap (λ l. get_or l i t) same in
    get_or-map (tracepoint_code (tree_of s).functions addresses s.budget) (tree_of s).tracepoints
    i no_tracepoint [] inside_tree
    ∙ ap (tracepoint_code (tree_of s).functions addresses s.budget)
    (named_tracepoint s i t inside here)

pub tracepoint_numbers : (s : Script) (functions : List Function)
    (tracepoints : List Tracepoint) (i : ℕ) (t : Tracepoint)
    → IsWithinLimits (tree_of s) → functions ≡ s.functions → tracepoints ≡ s.tracepoints
    → i < length tracepoints → t ≡ get_or tracepoints i t
    → FitsStatements (counts functions) t.locals (statements_of t.body)
tracepoint_numbers s functions tracepoints i t limits same_functions same within is =
    let inside : i < length s.tracepoints = rw (← same) within in
    let inside_tree : i < length (tree_of s).tracepoints =
    omega (arith, length-map s.tracepoints tracepoint_of) in
    let here : t ≡ get_or s.tracepoints i t = is ∙ ap (λ l. get_or l i t) same in
    let Fits : TracepointTree → Type 0 = FitsTracepoint (parameter_counts (tree_of s)) in
    let fits : Fits (tracepoint_of t) =
    subst Fits (named_tracepoint s i t inside here)
    (limits.tracepoints i no_tracepoint inside_tree) in
    let Numbers : List Function → Type 0 =
    λ l. FitsStatements (counts l) t.locals (statements_of t.body) in
    subst Numbers (sym same_functions) fits.body.numbers

pub tracepoint_grown : (functions : List Function) (s : Script) (addresses : List ℕ)
    (t : Tracepoint) (code opened grown : List Instr)
    → functions ≡ s.functions → opened ≡ code ++ opening_block s.budget t.locals
    → grown ≡ opened
    ++ body_code
    record { functions = map function_of functions; addresses = addresses; locals = t.locals }
    (statements_of t.body)
    → grown ≡ code ++ tracepoint_code (tree_of s).functions addresses s.budget (tracepoint_of t)
unfolding tracepoint_code
tracepoint_grown functions s addresses t code opened grown same open_ added =
    let body : List Function → List Instr =
    λ l. body_code
    record { functions = map function_of l; addresses = addresses; locals = t.locals }
    (statements_of t.body) in
    added ∙ ap (λ l. opened ++ body l) same ∙ ap (λ o. o ++ body s.functions) open_
    ∙ append_assoc code (opening_block s.budget t.locals) (body s.functions)

-- ---- the whole

-- as many zeros as there are functions
pub zeros_resized : (old new : List ℕ) (n len : ℕ) → old ≡ [] → len ≡ 0
    → new ≡ take n old ++ replicate (n - len) 0 → new ≡ replicate n 0
zeros_resized old new n len empty none is =
    let all : n - len ≡ n = omega arith in
    is ∙ ap (λ l. take n l ++ replicate (n - len) 0) empty
    ∙ ap (λ l. l ++ replicate (n - len) 0) (take-nil n) ∙ ap (λ k. replicate k 0) all

-- what the first pass finds
pub addresses_found : (s : Script) (code : List Instr) (unknown : List ℕ)
    → code ≡ end_code → unknown ≡ replicate (length s.functions) 0
    → addresses_of (tree_of s)
    ≡ map address_of (places_from (length code) (function_codes (tree_of s) unknown))
unfolding addresses_of
addresses_found s code unknown begun zeros =
    let count : length (tree_of s).functions ≡ length s.functions =
    length-map s.functions function_of in
    ap (λ n. map address_of (places_from (length end_code)
    (function_codes (tree_of s) (replicate n 0)))) count
    ∙ ap (λ l. map address_of (places_from (length end_code) (function_codes (tree_of s) l)))
    (sym zeros)
    ∙ ap (λ l. map address_of (places_from (length l) (function_codes (tree_of s) unknown)))
    (sym begun)

length-places_from : (place : ℕ) (codes : List (List Instr))
    → length (places_from place codes) ≡ length codes
unfolding places_from
length-places_from place [] = refl
length-places_from place (first ∷ rest) =
    ap (λ n. suc n) (length-places_from (place + length first) rest)

-- each function has an address
pub length-addresses_of : (s : Script)
    → length (addresses_of (tree_of s)) ≡ length s.functions
unfolding addresses_of
length-addresses_of s =
    let codes : List (List Instr) =
    function_codes (tree_of s) (replicate (length (tree_of s).functions) 0) in
    length-map (places_from (length end_code) codes) address_of
    ∙ length-places_from (length end_code) codes
    ∙ length-function_codes s (replicate (length (tree_of s).functions) 0)

-- the parts make the whole
pub functions_stand : (s : Script) (addresses : List ℕ) (begun code : List Instr)
    → begun ≡ end_code → code ≡ begun ++ joined (function_codes (tree_of s) addresses)
    → code ≡ functions_part (tree_of s) addresses
unfolding functions_part
functions_stand s addresses begun code begin added =
    added ∙ ap (λ l. l ++ joined (function_codes (tree_of s) addresses)) begin

pub script_stands : (s : Script) (addresses : List ℕ) (part code : List Instr)
    → addresses ≡ addresses_of (tree_of s) → part ≡ functions_part (tree_of s) addresses
    → code ≡ part ++ joined (tracepoint_codes (tree_of s) addresses)
    → code ≡ script_code (tree_of s)
unfolding script_code
script_stands s addresses part code found begun added =
    added ∙ ap (λ l. l ++ joined (tracepoint_codes (tree_of s) addresses)) begun
    ∙ ap (λ l. functions_part (tree_of s) l ++ joined (tracepoint_codes (tree_of s) l)) found

pub places_stand : (s : Script) (addresses : List ℕ) (part : List Instr) (places : List ℕ)
    → addresses ≡ addresses_of (tree_of s) → part ≡ functions_part (tree_of s) addresses
    → places ≡ places_from (length part) (tracepoint_codes (tree_of s) addresses)
    → places ≡ places_of (tree_of s)
unfolding places_of
places_stand s addresses part places found begun told =
    told ∙ ap (λ l. places_from (length l) (tracepoint_codes (tree_of s) addresses)) begun
    ∙ ap (λ l. places_from (length (functions_part (tree_of s) l)) (tracepoint_codes (tree_of s) l))
    found

-- the bound of a run is far below 2 ^ 62
pub most_fits : (words budget : ℕ) → words ≤ 2 ^ 18 → budget ≤ 1000000
    → words * (budget + 1) < 2 ^ 62
most_fits words budget few small = grind arith
