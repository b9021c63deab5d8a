-- Expressions are read as what their nodes spell, and nothing else is read.
use Rattle.std.proofs.Common.{◌≡◌, ◌≤◌, ℕ, ◌==◌, true, false, not, cond, List, [], ◌∷◌, drop, slice_index, Option, Some, None, Result, Ok, Err, IfOk, inl, inr, refl, sym, ap, subst, ◌∙◌, arith}
use Rattle.std.proofs.lemmas.Bool.{eq-eqb, eqb-true, leb-true}
use Rattle.tracer_lang.specs.Tree.{Expression, number, local, register, program_counter, load, operation, is_zero, call, system_call, Arguments, no_arguments, argument}
use Rattle.tracer_text.specs.declared.fault.ScriptCause.TheVariants as causes
use Rattle.tracer_text.specs.declared.fault.ScriptFault.{ScriptFault}
use Rattle.tracer_text.specs.declared.token.Token.{Token}
use Rattle.tracer_text.specs.FirstPass.{fault}
use Rattle.tracer_text.specs.Nodes.{Tree, atom, list, Trees, no_trees, tree}
use Rattle.tracer_read.specs.declared.heads.ExpressionHead.{ExpressionHead}
use Rattle.tracer_read.specs.declared.heads.ExpressionHead.TheVariants.{Sym, Reg, Pc, Not, Call, Sys, Load, Operation}
use Rattle.tracer_read.specs.Numbers.{is_number}
use Rattle.tracer_read.specs.Heads.{expression_head}
use Rattle.tracer_read.specs.Parts.{◌>>=◌, or_fault, unless, spelling, word_of, number_of, number_within, name_index, symbol_value, symbol_of, no_part, only_part, part_count, one, two}
use Rattle.tracer_read.specs.Expressions.{Around, head, value, all, callee_names, parameter_counts, called, expression, expressions, expression_form}
use Rattle.tracer_read.specs.Grammar.{IsNumber, IsWord, NoPart, FirstPart, OnePart, TwoParts, IsName, IsSymbol, NamesSymbol, NamesFunction, IsExpression, Spells, SpellsArguments}
use Rattle.tracer_read.proofs.Sound.{IfOk-bind, IfOk-then, IfOk-unless, not_false}
use Rattle.tracer_read.proofs.GrammarNames.{ok_bind, not_broken, or_fault_ok, or_fault_is, IfOk-if, index_names, names_index, word_spelled, word_read, number_spelled, number_read, number_within-is, number_within-ok, symbol_spelled, symbol_read}

-- ---- what is read is spelled

pub one_part : (place : ℕ) (parts : Trees) (t : Tree) (Holds : Tree → Type 0)
    → only_part place parts ≡ Ok t → Holds t → OnePart Holds parts
one_part place no_trees t Holds is h = absurd cc
one_part place (tree u no_trees) t Holds is h =
    let same : u ≡ t = cc (is) in
    subst Holds (sym same) h
one_part place (tree u (tree v parts)) t Holds is h = absurd cc

pub symbol_of-spelled : (around : Around) (t : Tree)
    → IfOk (symbol_of around.text around.symbols t) (λ n. NamesSymbol around n t)
symbol_of-spelled around t =
    let Q : ℕ → Type 0 = λ n. NamesSymbol around n t in
    IfOk-then (word_of around.text t) _ Q (λ word is.
    or_fault_is word.place causes.SymbolUnknown
    (symbol_value around.symbols (spelling around.text word)) Q (λ n found.
    word_spelled around.text t word (λ word. IsSymbol around.symbols (spelling around.text word) n)
    is
    (symbol_spelled around.symbols (spelling around.text word) n found)))

value_spelled : (around : Around) (locals : List Token) (token : Token)
    → IfOk (value around locals token) (λ e. Spells around locals e (atom token))
value_spelled around locals token =
    let Q : Expression → Type 0 = λ e. Spells around locals e (atom token) in
    let index = name_index around.text locals token in
    IfOk-if (is_number (spelling around.text token))
    (number_of around.text (atom token) >>= λ n. Ok (number n))
    (or_fault token.place causes.NameUnknown index >>= λ index. Ok (local index)) Q
    (λ _. IfOk-bind (number_of around.text (atom token)) _
    (λ n. IsNumber around.text n (atom token)) Q (number_spelled around.text (atom token))
    (λ n h. inl h))
    (λ word. IfOk-then (or_fault token.place causes.NameUnknown index) _ Q (λ i found. (
      word,
      index_names around.text locals token i
          (or_fault_ok token.place causes.NameUnknown index i found),
    )))

called_spelled : (around : Around) (place : ℕ) (f : Tree) (arguments : Trees)
    → IfOk (called around place (tree f arguments))
    (λ function. NamesFunction around function f arguments)
called_spelled around place f arguments =
    let names = callee_names around.callees in
    let Q : ℕ → Type 0 = λ function. NamesFunction around function f arguments in
    IfOk-then (word_of around.text f) _ Q (λ word is.
    IfOk-then (or_fault word.place causes.NameUnknown (name_index around.text names word)) _ Q
    (λ i found.
    IfOk-unless (not (part_count arguments == slice_index (parameter_counts around.callees) i))
    place causes.Arity (Ok i) Q (λ same. (
      word_spelled around.text f word (IsName around.text names i) is
          (index_names around.text names word i (or_fault_ok word.place causes.NameUnknown
          (name_index around.text names word) i found)),
      eqb-true (part_count arguments) (slice_index (parameter_counts around.callees) i)
          (not_false (part_count arguments == slice_index (parameter_counts around.callees) i)
          same),
    ))))

-- a list whose first node is a word for this expression
abbrev Begins : Around → Tree → ExpressionHead → Type 0
Begins around first what = head expression_head around.text first ≡ Some what

-- what the list is read as, it spells
abbrev FormSpelled : Around → List Token → ℕ → Tree → Trees → Option ExpressionHead → Type 0
FormSpelled around locals place first parts h =
    IfOk (expression_form around place parts (expressions around locals parts) h)
    (λ e. Spells around locals e (list place (tree first parts)))

pc_spelled : (around : Around) (locals : List Token) (place : ℕ) (first : Tree) (parts : Trees)
    → Begins around first Pc → FormSpelled around locals place first parts (Some Pc)
pc_spelled around locals place first no_trees is = (is, tt)
pc_spelled around locals place first (tree t parts) is = tt

register_spelled : (around : Around) (locals : List Token) (place : ℕ) (first : Tree)
    (parts : Trees)
    → Begins around first Reg → FormSpelled around locals place first parts (Some Reg)
register_spelled around locals place first parts is =
    let Q : Expression → Type 0 = λ e. Spells around locals e (list place (tree first parts)) in
    IfOk-then (only_part place parts) _ Q (λ t only.
    IfOk-bind (number_within 0 31 around.text t) _
    (λ n. IsNumber around.text n t × (0 ≤ n) × (n ≤ 31)) Q (number_within-is 0 31 around.text t)
    (λ n h.
    (is, one_part place parts t (λ t. IsNumber around.text n t × (n ≤ 31)) only (h.0, h.2))))

symbol_form-spelled : (around : Around) (locals : List Token) (place : ℕ) (first : Tree)
    (parts : Trees)
    → Begins around first Sym → FormSpelled around locals place first parts (Some Sym)
symbol_form-spelled around locals place first parts is =
    let Q : Expression → Type 0 = λ e. Spells around locals e (list place (tree first parts)) in
    IfOk-then (only_part place parts) _ Q (λ t only.
    IfOk-bind (symbol_of around.text around.symbols t) _ (λ n. NamesSymbol around n t) Q
    (symbol_of-spelled around t) (λ n h.
    inr (is, one_part place parts t (NamesSymbol around n) only h)))

-- what is known of the parts of a list
pub record PartsSpelled (around : Around) (locals : List Token) (place : ℕ)
    (parts : Trees) : Type 0 where
  pub one_is : IfOk (one place (expressions around locals parts))
      (λ e. OnePart (Spells around locals e) parts)
  pub two_are : IfOk (two place (expressions around locals parts))
      (λ es. TwoParts (λ a b. Spells around locals es.0 a × Spells around locals es.1 b) parts)
  pub call_is : (first : Tree) → Begins around first Call
      → FormSpelled around locals place first parts (Some Call)

form_spelled : (around : Around) (locals : List Token) (place : ℕ) (first : Tree) (parts : Trees)
    (h : Option ExpressionHead)
    → head expression_head around.text first ≡ h → PartsSpelled around locals place parts
    → FormSpelled around locals place first parts h
form_spelled around locals place first parts None is known = tt
form_spelled around locals place first parts (Some Pc) is known =
    pc_spelled around locals place first parts is
form_spelled around locals place first parts (Some Reg) is known =
    register_spelled around locals place first parts is
form_spelled around locals place first parts (Some Sym) is known =
    symbol_form-spelled around locals place first parts is
form_spelled around locals place first parts (Some Call) is known = known.call_is first is
form_spelled around locals place first parts (Some Not) is known =
    IfOk-bind (one place (expressions around locals parts)) _
    (λ e. OnePart (Spells around locals e) parts)
    (λ e. Spells around locals e (list place (tree first parts))) known.one_is (λ e h. (is, h))
form_spelled around locals place first parts (Some (Load op)) is known =
    IfOk-bind (one place (expressions around locals parts)) _
    (λ e. OnePart (Spells around locals e) parts)
    (λ e. Spells around locals e (list place (tree first parts))) known.one_is (λ e h. (is, h))
form_spelled around locals place first parts (Some (Operation operator)) is known =
    IfOk-bind (two place (expressions around locals parts)) _
    (λ es. TwoParts (λ a b. Spells around locals es.0 a × Spells around locals es.1 b) parts)
    (λ e. Spells around locals e (list place (tree first parts))) known.two_are (λ es h. (is, h))
form_spelled around locals place first parts (Some Sys) is known =
    IfOk-bind (two place (expressions around locals parts)) _
    (λ es. TwoParts (λ a b. Spells around locals es.0 a × Spells around locals es.1 b) parts)
    (λ e. Spells around locals e (list place (tree first parts))) known.two_are (λ es h. (is, h))

mutual
  pub expression_spelled : (around : Around) (locals : List Token) (t : Tree)
      → IfOk (expression around locals t) (λ e. Spells around locals e t)
  expression_spelled around locals (atom token) = value_spelled around locals token
  expression_spelled around locals (list place no_trees) = tt
  expression_spelled around locals (list place (tree first parts)) =
      form_spelled around locals place first parts (head expression_head around.text first) refl
      (record {
        one_is = one_spelled around locals place parts;
        two_are = two_spelled around locals place parts;
        call_is = call_spelled around locals place parts;
      })

  arguments_spelled : (around : Around) (locals : List Token) (parts : Trees)
      → IfOk (all (expressions around locals parts)) (λ es. SpellsArguments around locals es parts)
  arguments_spelled around locals no_trees = tt
  arguments_spelled around locals (tree t parts) =
      let Q : Arguments → Type 0 = λ es. SpellsArguments around locals es (tree t parts) in
      IfOk-bind (expression around locals t) _ (λ e. Spells around locals e t) Q
      (expression_spelled around locals t) (λ e h.
      IfOk-bind (all (expressions around locals parts)) _
      (λ es. SpellsArguments around locals es parts) Q (arguments_spelled around locals parts)
      (λ es hs.
      (h, hs)))

  call_spelled : (around : Around) (locals : List Token) (place : ℕ) (parts : Trees) (first : Tree)
      → Begins around first Call → FormSpelled around locals place first parts (Some Call)
  call_spelled around locals place no_trees first is = tt
  call_spelled around locals place (tree f parts) first is =
      let Q : Expression → Type 0 = λ e. Spells around locals e
      (list place (tree first (tree f parts))) in
      IfOk-bind (called around place (tree f parts)) _
      (λ function. NamesFunction around function f parts) Q (called_spelled around place f parts)
      (λ function h.
      IfOk-bind (all (expressions around locals parts)) _
      (λ es. SpellsArguments around locals es parts) Q (arguments_spelled around locals parts)
      (λ es hs.
      (is, (h, hs))))

  pub one_spelled : (around : Around) (locals : List Token) (place : ℕ) (parts : Trees)
      → IfOk (one place (expressions around locals parts))
      (λ e. OnePart (Spells around locals e) parts)
  one_spelled around locals place no_trees = tt
  one_spelled around locals place (tree t no_trees) = expression_spelled around locals t
  one_spelled around locals place (tree t (tree u parts)) = tt

  pub two_spelled : (around : Around) (locals : List Token) (place : ℕ) (parts : Trees)
      → IfOk (two place (expressions around locals parts))
      (λ es. TwoParts (λ a b. Spells around locals es.0 a × Spells around locals es.1 b) parts)
  two_spelled around locals place no_trees = tt
  two_spelled around locals place (tree t no_trees) = tt
  two_spelled around locals place (tree t (tree u no_trees)) =
      let Q : Expression × Expression → Type 0 = λ es. Spells around locals es.0 t
      × Spells around locals es.1 u in
      IfOk-bind (expression around locals t) _ (λ e. Spells around locals e t) Q
      (expression_spelled around locals t) (λ a h.
      IfOk-bind (expression around locals u) _ (λ e. Spells around locals e u) Q
      (expression_spelled around locals u) (λ b k.
      (h, k)))
  two_spelled around locals place (tree t (tree u (tree v parts))) = tt

-- ---- what is spelled is read

abbrev Reads : Around → List Token → Expression → Type 0
Reads around locals e = (t : Tree) → Spells around locals e t → expression around locals t ≡ Ok e

form_read : (around : Around) (locals : List Token) (what : ExpressionHead) (Hold : Trees → Type 0)
    (t : Tree) (e : Expression)
    → IsExpression around what Hold t
    → ((place : ℕ) (parts : Trees) → Hold parts
    → expression_form around place parts (expressions around locals parts) (Some what) ≡ Ok e)
    → expression around locals t ≡ Ok e
form_read around locals what Hold (atom token) e h read = absurd h
form_read around locals what Hold (list place no_trees) e h read = absurd h
form_read around locals what Hold (list place (tree first parts)) e h read =
    ap (expression_form around place parts (expressions around locals parts)) h.0
    ∙ read place parts h.1

pub one_read : (around : Around) (locals : List Token) (place : ℕ) (parts : Trees) (e : Expression)
    → Reads around locals e → OnePart (Spells around locals e) parts
    → one place (expressions around locals parts) ≡ Ok e
one_read around locals place no_trees e reads h = absurd h
one_read around locals place (tree t no_trees) e reads h = reads t h
one_read around locals place (tree t (tree u parts)) e reads h = absurd h

pub two_read : (around : Around) (locals : List Token) (place : ℕ) (parts : Trees)
    (a b : Expression)
    → Reads around locals a → Reads around locals b
    → TwoParts (λ t u. Spells around locals a t × Spells around locals b u) parts
    → two place (expressions around locals parts) ≡ Ok (a, b)
two_read around locals place no_trees a b reads_a reads_b h = absurd h
two_read around locals place (tree t no_trees) a b reads_a reads_b h = absurd h
two_read around locals place (tree t (tree u no_trees)) a b reads_a reads_b h =
    ok_bind (expression around locals t) (λ a. expression around locals u >>= λ b. Ok (a, b)) a
    (Ok (a, b)) (reads_a t h.0)
    (ok_bind (expression around locals u) (λ b. Ok (a, b)) b (Ok (a, b)) (reads_b u h.1) refl)
two_read around locals place (tree t (tree u (tree v parts))) a b reads_a reads_b h = absurd h

pub symbol_of-read : (around : Around) (t : Tree) (n : ℕ) → NamesSymbol around n t
    → symbol_of around.text around.symbols t ≡ Ok n
symbol_of-read around t n h =
    let word = word_read around.text t _ h in
    let found = symbol_read around.symbols (spelling around.text word.0) n word.2 in
    ok_bind (word_of around.text t) (λ token.
    or_fault token.place causes.SymbolUnknown
    (symbol_value around.symbols (spelling around.text token))) word.0 (Ok n) word.1
    (ap (or_fault word.0.place causes.SymbolUnknown) found)

pub only_read : (place : ℕ) (parts : Trees) (Holds : Tree → Type 0) → OnePart Holds parts
    → (t : Tree) × (only_part place parts ≡ Ok t) × Holds t
only_read place no_trees Holds h = absurd h
only_read place (tree t no_trees) Holds h = (t, refl, h)
only_read place (tree t (tree u parts)) Holds h = absurd h

pc_read : (around : Around) (locals : List Token) (place : ℕ) (parts : Trees)
    → NoPart parts → expression_form around place parts (expressions around locals parts)
    (Some Pc) ≡ Ok program_counter
pc_read around locals place no_trees h = refl
pc_read around locals place (tree t parts) h = absurd h

register_read : (around : Around) (locals : List Token) (place : ℕ) (parts : Trees) (n : ℕ)
    → OnePart (λ t. IsNumber around.text n t × (n ≤ 31)) parts
    → expression_form around place parts (expressions around locals parts) (Some Reg) ≡ Ok
    (register n)
register_read around locals place parts n h =
    let only = only_read place parts _ h in
    ok_bind (only_part place parts) (λ t. number_within 0 31 around.text t >>= λ n. Ok (register n))
    only.0 (Ok (register n)) only.1
    (ok_bind (number_within 0 31 around.text only.0) (λ n. Ok (register n)) n (Ok (register n))
    (number_within-ok 0 31 around.text only.0 n only.2.0 (omega arith) only.2.1) refl)

symbol_form-read : (around : Around) (locals : List Token) (place : ℕ) (parts : Trees) (n : ℕ)
    → OnePart (NamesSymbol around n) parts
    → expression_form around place parts (expressions around locals parts) (Some Sym) ≡ Ok
    (number n)
symbol_form-read around locals place parts n h =
    let only = only_read place parts _ h in
    ok_bind (only_part place parts) (λ t. symbol_of around.text around.symbols t >>= λ n.
    Ok (number n)) only.0 (Ok (number n)) only.1
    (ok_bind (symbol_of around.text around.symbols only.0) (λ n. Ok (number n)) n (Ok (number n))
    (symbol_of-read around only.0 n only.2) refl)

number_token-read : (around : Around) (locals : List Token) (t : Tree) (n : ℕ)
    → IsNumber around.text n t → expression around locals t ≡ Ok (number n)
number_token-read around locals (atom token) n h =
    ap (λ b. cond b (number_of around.text (atom token) >>= λ n. Ok (number n))
    (or_fault token.place causes.NameUnknown (name_index around.text locals token) >>= λ index.
    Ok (local index))) h.0
    ∙ ok_bind (number_of around.text (atom token)) (λ n. Ok (number n)) n (Ok (number n))
    (number_read around.text (atom token) n h) refl
number_token-read around locals (list place parts) n h = absurd h

local_read : (around : Around) (locals : List Token) (t : Tree) (index : ℕ)
    → IsWord around.text (IsName around.text locals index) t
    → expression around locals t ≡ Ok (local index)
local_read around locals (atom token) index h =
    ap (λ b. cond b (number_of around.text (atom token) >>= λ n. Ok (number n))
    (or_fault token.place causes.NameUnknown (name_index around.text locals token) >>= λ index.
    Ok (local index))) h.0
    ∙ ap (λ o. or_fault token.place causes.NameUnknown o >>= λ index. Ok (local index))
    (names_index around.text locals token index h.1)
local_read around locals (list place parts) index h = absurd h

called_read : (around : Around) (place : ℕ) (f : Tree) (parts : Trees) (function : ℕ)
    → NamesFunction around function f parts → called around place (tree f parts) ≡ Ok function
called_read around place f parts function h =
    let names = callee_names around.callees in
    let counts = parameter_counts around.callees in
    let word = word_read around.text f _ h.0 in
    let found = names_index around.text names word.0 function word.2 in
    let same : not (part_count parts == slice_index counts function) ≡ false =
    ap not (eq-eqb (part_count parts) (slice_index counts function) h.1) in
    ok_bind (word_of around.text f) (λ token.
    or_fault token.place causes.NameUnknown (name_index around.text names token) >>= λ index.
    unless (not (part_count parts == slice_index counts index)) place causes.Arity (Ok index))
    word.0 (Ok function) word.1
    (ok_bind (or_fault word.0.place causes.NameUnknown (name_index around.text names word.0))
    (λ index.
    unless (not (part_count parts == slice_index counts index)) place causes.Arity (Ok index))
    function (Ok function)
    (ap (or_fault word.0.place causes.NameUnknown) found)
    (not_broken (not (part_count parts == slice_index counts function)) place causes.Arity
    (Ok function) same))

-- arguments are read, and then a call
call_read : (around : Around) (locals : List Token) (place : ℕ) (parts : Trees) (function : ℕ)
    (es : Arguments)
    → ((parts : Trees) → SpellsArguments around locals es parts
    → all (expressions around locals parts) ≡ Ok es)
    → FirstPart (λ f parts. NamesFunction around function f parts
    × SpellsArguments around locals es parts) parts
    → expression_form around place parts (expressions around locals parts) (Some Call) ≡ Ok
    (call function es)
call_read around locals place no_trees function es reads h = absurd h
call_read around locals place (tree f parts) function es reads h =
    ok_bind (called around place (tree f parts))
    (λ index. all (expressions around locals parts) >>= λ es. Ok (call index es)) function
    (Ok (call function es))
    (called_read around place f parts function h.0)
    (ok_bind (all (expressions around locals parts)) (λ es. Ok (call function es)) es
    (Ok (call function es)) (reads parts h.1) refl)

no_argument : (around : Around) (locals : List Token) (parts : Trees) → NoPart parts
    → all (expressions around locals parts) ≡ Ok no_arguments
no_argument around locals no_trees h = refl
no_argument around locals (tree t parts) h = absurd h

first_argument : (around : Around) (locals : List Token) (parts : Trees) (e : Expression)
    (es : Arguments)
    → Reads around locals e
    → ((parts : Trees) → SpellsArguments around locals es parts
    → all (expressions around locals parts) ≡ Ok es)
    → FirstPart (λ t others. Spells around locals e t × SpellsArguments around locals es others)
    parts
    → all (expressions around locals parts) ≡ Ok (argument e es)
first_argument around locals no_trees e es reads others_read h = absurd h
first_argument around locals (tree t parts) e es reads others_read h =
    ok_bind (expression around locals t) (λ e. all (expressions around locals parts) >>= λ es.
    Ok (argument e es)) e (Ok (argument e es)) (reads t h.0)
    (ok_bind (all (expressions around locals parts)) (λ es. Ok (argument e es)) es
    (Ok (argument e es)) (others_read parts h.1) refl)

mutual
  pub expression_read : (around : Around) (locals : List Token) (e : Expression) (t : Tree)
      → Spells around locals e t → expression around locals t ≡ Ok e
  expression_read around locals (number n) t (inl h) = number_token-read around locals t n h
  expression_read around locals (number n) t (inr h) =
      form_read around locals Sym (OnePart (NamesSymbol around n)) t (number n) h
      (λ place parts one. symbol_form-read around locals place parts n one)
  expression_read around locals (local index) t h = local_read around locals t index h
  expression_read around locals (register n) t h =
      form_read around locals Reg _ t (register n) h
      (λ place parts one. register_read around locals place parts n one)
  expression_read around locals program_counter t h =
      form_read around locals Pc NoPart t program_counter h
      (λ place parts none. pc_read around locals place parts none)
  expression_read around locals (load op address) t h =
      form_read around locals (Load op) _ t (load op address) h (λ place parts is.
      ap (λ r. r >>= λ e. Ok (load op e)) (one_read around locals place parts address
      (expression_read around locals address) is))
  expression_read around locals (operation operator first second) t h =
      form_read around locals (Operation operator) _ t (operation operator first second) h
      (λ place parts are.
      ap (λ r. r >>= λ es. Ok (operation operator es.0 es.1))
      (two_read around locals place parts first second (expression_read around locals first)
      (expression_read around locals second) are))
  expression_read around locals (is_zero of) t h =
      form_read around locals Not _ t (is_zero of) h (λ place parts is.
      ap (λ r. r >>= λ e. Ok (is_zero e)) (one_read around locals place parts of
      (expression_read around locals of) is))
  expression_read around locals (call function arguments) t h =
      form_read around locals Call _ t (call function arguments) h (λ place parts is.
      call_read around locals place parts function arguments
      (arguments_read around locals arguments) is)
  expression_read around locals (system_call code value) t h =
      form_read around locals Sys _ t (system_call code value) h (λ place parts are.
      ap (λ r. r >>= λ es. Ok (system_call es.0 es.1))
      (two_read around locals place parts code value (expression_read around locals code)
      (expression_read around locals value) are))

  arguments_read : (around : Around) (locals : List Token) (es : Arguments) (parts : Trees)
      → SpellsArguments around locals es parts → all (expressions around locals parts) ≡ Ok es
  arguments_read around locals no_arguments parts h = no_argument around locals parts h
  arguments_read around locals (argument first rest) parts h =
      first_argument around locals parts first rest (expression_read around locals first)
      (arguments_read around locals rest) h
