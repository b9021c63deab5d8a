-- A text of the right size whose tokens are written for few nodes has no fault in the first pass.
use Rattle.std.proofs.Common.{◌≡◌, ◌≢◌, ◌<◌, ◌≤◌, ℕ, zero, suc, ◌+◌, ◌-◌, ◌==◌, ◌&&◌, ◌||◌, Bool, true, false, not, cond, max, List, [], ◌∷◌, ◌++◌, length, ltb, Option, Some, None, refl, sym, ap, subst, ◌∙◌, arith, append_assoc}
use Rattle.std.proofs.lemmas.Bool.{eqb-true, le-ltb}
use Rattle.std.proofs.lemmas.List.{append-nil}
use Rattle.tracer_text.specs.declared.fault.ScriptCause.{ScriptCause}
use Rattle.tracer_text.specs.declared.fault.ScriptCause.TheVariants.{Byte, Paren, TooLarge, TooDeep}
use Rattle.tracer_text.specs.declared.fault.ScriptFault.{ScriptFault}
use Rattle.tracer_text.specs.declared.token.Token.{Token}
use Rattle.tracer_text.specs.FirstPass.{is_stray, cause_at, nodes_after, depth_after, first_of, fault, fault_from, fault_of}
use Rattle.tracer_text.specs.Tokens.{is_run_byte, begins_token, more_of, token_at, tokens_from, tokens_of}
use Rattle.tracer_text.specs.Nodes.{Tree, atom, list, Trees, no_trees, tree}
use Rattle.tracer_read.specs.Written.{first_byte, IsWritten, AreWritten, tree_nodes, trees_nodes, tree_depth, trees_depth}
use Rattle.tracer_read.proofs.GrammarNames.{is_false}
use Rattle.tracer_read.proofs.WrittenNodes.{no_parenthesis}

-- ---- tokens within the text

-- no token begins at the first byte too many
abbrev pub Begin : List Token → Type 0
Begin [] = Unit {0}
Begin (token ∷ tokens) = (token.place < 65536) × Begin tokens

begin_front : (a b : List Token) → Begin (a ++ b) → Begin a
begin_front [] b h = tt
begin_front (token ∷ a) b h = (h.0, begin_front a b h.1)

begin_behind : (a b : List Token) → Begin (a ++ b) → Begin b
begin_behind [] b h = h
begin_behind (token ∷ a) b h = begin_behind a b h.1

begin_join : (a b : List Token) → Begin a → Begin b → Begin (a ++ b)
begin_join [] b h k = k
begin_join (token ∷ a) b h k = (h.0, begin_join a b h.1 k)

begin_cond : (c : Bool) (token : Token) → token.place < 65536 → Begin (cond c (token ∷ []) [])
begin_cond true token h = (h, tt)
begin_cond false token h = tt

begin_at : (place b : ℕ) (bs : List ℕ) → place < 65536 → Begin (token_at place b bs)
begin_at place b bs h =
    begin_cond (begins_token b) (record { place = place; end = place + 1 + more_of b bs }) h

begin_from : (skipped place : ℕ) (bs : List ℕ) → place + length bs ≤ 65536
    → Begin (tokens_from skipped place bs)
begin_from skipped place [] le = tt
begin_from (suc skipped) place (b ∷ bs) le = begin_from skipped (place + 1) bs (omega arith)
begin_from zero place (b ∷ bs) le =
    begin_join (token_at place b bs) (tokens_from (more_of b bs) (place + 1) bs)
    (begin_at place b bs (omega arith))
    (begin_from (more_of b bs) (place + 1) bs (omega arith))

-- ---- no cause at a token

unequal : (n m : ℕ) → n ≢ m → (n == m) ≡ false
unequal n m other = is_false (n == m) (λ is. other (eqb-true n m is))

-- the rules after the first one that is kept
abbrev after_stray : ℕ → ℕ → ℕ → ℕ → Option ScriptCause
after_stray place b nodes depth =
    cond (b == 41 && depth == 0) (Some Paren)
    (cond (place == 65536 || (not (b == 41) && nodes == 4096)) (Some TooLarge)
    (cond (b == 40 && depth == 64) (Some TooDeep) None))

run_passes : (place nodes depth b : ℕ) → is_run_byte b ≡ true → place < 65536 → nodes < 4096
    → cause_at place b nodes depth ≡ None
run_passes place nodes depth b run below room =
    let no_paren = no_parenthesis b run in
    let not_closing : (b == 41) ≡ false = unequal b 41 no_paren.1 in
    let not_opening : (b == 40) ≡ false = unequal b 40 no_paren.0 in
    let within : (place == 65536) ≡ false = unequal place 65536 (omega arith) in
    let few : (nodes == 4096) ≡ false = unequal nodes 4096 (omega arith) in
    let deep : Option ScriptCause = cond (b == 40 && depth == 64) (Some TooDeep) None in
    ap (λ r. cond (not (r || b == 40 || b == 41)) (Some Byte) (after_stray place b nodes depth)) run
    ∙ ap (λ c. cond (c && depth == 0) (Some Paren)
    (cond (place == 65536 || (not (b == 41) && nodes == 4096)) (Some TooLarge) deep)) not_closing
    ∙ ap (λ c. cond (c || (not (b == 41) && nodes == 4096)) (Some TooLarge) deep) within
    ∙ ap (λ c. cond (not (b == 41) && c) (Some TooLarge) deep) few
    ∙ ap (λ c. cond (not c && false) (Some TooLarge) deep) not_closing
    ∙ ap (λ c. cond (c && depth == 64) (Some TooDeep) None) not_opening

opening_passes : (place nodes depth : ℕ) → place < 65536 → nodes < 4096 → depth < 64
    → cause_at place 40 nodes depth ≡ None
opening_passes place nodes depth below room low =
    let within : (place == 65536) ≡ false = unequal place 65536 (omega arith) in
    let few : (nodes == 4096) ≡ false = unequal nodes 4096 (omega arith) in
    let shallow : (depth == 64) ≡ false = unequal depth 64 (omega arith) in
    ap (λ c. cond (c || nodes == 4096) (Some TooLarge) (cond (depth == 64) (Some TooDeep) None))
    within
    ∙ ap (λ c. cond c (Some TooLarge) (cond (depth == 64) (Some TooDeep) None)) few
    ∙ ap (λ c. cond c (Some TooDeep) None) shallow

closing_passes : (place nodes depth : ℕ) → place < 65536
    → cause_at place 41 nodes (depth + 1) ≡ None
closing_passes place nodes depth below =
    let within : (place == 65536) ≡ false = unequal place 65536 (omega arith) in
    let some : (depth + 1 == 0) ≡ false = unequal (depth + 1) 0 (omega arith) in
    ap (λ c. cond c (Some Paren) (cond (place == 65536 || false) (Some TooLarge) None)) some
    ∙ ap (λ c. cond (c || false) (Some TooLarge) None) within

-- ---- over tokens, node by node

-- what a token without a cause leaves to the others
passes_on : (text : List ℕ) (nodes depth : ℕ) (token : Token) (tokens : List Token)
    → cause_at token.place (first_byte text token) nodes depth ≡ None
    → fault_from text nodes depth (token ∷ tokens)
    ≡ fault_from text (nodes_after (first_byte text token) nodes)
    (depth_after (first_byte text token) depth) tokens
passes_on text nodes depth token tokens none =
    let b = first_byte text token in
    let later = fault_from text (nodes_after b nodes) (depth_after b depth) tokens in
    ap (λ c. first_of token.place c later) none

-- the same, where it is known with what byte it begins
passes_byte : (text : List ℕ) (nodes depth b more deeper : ℕ) (token : Token) (tokens : List Token)
    → first_byte text token ≡ b → cause_at token.place b nodes depth ≡ None
    → nodes_after b nodes ≡ more → depth_after b depth ≡ deeper
    → fault_from text nodes depth (token ∷ tokens) ≡ fault_from text more deeper tokens
passes_byte text nodes depth b more deeper token tokens is none more_is deeper_is =
    let begins = first_byte text token in
    let cause : cause_at token.place begins nodes depth ≡ None =
    ap (λ b. cause_at token.place b nodes depth) is ∙ none in
    let count : nodes_after begins nodes ≡ more = ap (λ b. nodes_after b nodes) is ∙ more_is in
    let level : depth_after begins depth ≡ deeper = ap (λ b. depth_after b depth) is ∙ deeper_is in
    passes_on text nodes depth token tokens cause
    ∙ ap (λ n. fault_from text n (depth_after begins depth) tokens) count
    ∙ ap (λ d. fault_from text more d tokens) level

atom_passes : (text : List ℕ) (nodes depth : ℕ) (token : Token) (behind : List Token)
    → is_run_byte (first_byte text token) ≡ true → token.place < 65536 → nodes < 4096
    → fault_from text nodes depth (token ∷ behind) ≡ fault_from text (nodes + 1) depth behind
atom_passes text nodes depth token behind run below room =
    let b = first_byte text token in
    let no_paren = no_parenthesis b run in
    let not_closing : (b == 41) ≡ false = unequal b 41 no_paren.1 in
    let not_opening : (b == 40) ≡ false = unequal b 40 no_paren.0 in
    passes_byte text nodes depth b (nodes + 1) depth token behind refl
    (run_passes token.place nodes depth b run below room)
    (ap (λ c. cond c nodes (nodes + 1)) not_closing)
    (ap (λ c. cond c (depth + 1) (cond (b == 41) (depth - 1) depth)) not_opening
    ∙ ap (λ c. cond c (depth - 1) depth) not_closing)

mutual
  node_passes : (text : List ℕ) (t : Tree) (tokens behind : List Token) (nodes depth : ℕ)
      → IsWritten text t tokens → Begin tokens
      → nodes + tree_nodes t ≤ 4096 → depth + tree_depth t ≤ 64
      → fault_from text nodes depth (tokens ++ behind) ≡ fault_from text
      (nodes + tree_nodes t) depth behind
  node_passes text (atom token) tokens behind nodes depth h begin few low =
      let here : Begin (token ∷ []) = subst Begin h.0 begin in
      ap (λ ts. fault_from text nodes depth (ts ++ behind)) h.0
      ∙ atom_passes text nodes depth token behind h.1 here.0 (omega (arith, few))
  node_passes text (list place parts) tokens behind nodes depth h begin few low =
      let opening = h.0 in
      let between = h.1 in
      let closing = h.2 in
      let here : Begin (opening ∷ (between ++ closing ∷ [])) = subst Begin h.3 begin in
      let inner : Begin between = begin_front between (closing ∷ []) here.1 in
      let last : Begin (closing ∷ []) = begin_behind between (closing ∷ []) here.1 in
      let more : ℕ = nodes + 1 + trees_nodes parts in
      let count : more ≡ nodes + tree_nodes (list place parts) = omega arith in
      ap (λ ts. fault_from text nodes depth (ts ++ behind)) h.3
      ∙ passes_byte text nodes depth 40 (nodes + 1) (depth + 1) opening
      ((between ++ closing ∷ []) ++ behind)
      h.5 (opening_passes opening.place nodes depth here.0 (omega (arith, few))
      (omega (arith, low))) refl refl
      ∙ ap (fault_from text (nodes + 1) (depth + 1)) (append_assoc between (closing ∷ []) behind)
      ∙ nodes_pass text parts between (closing ∷ behind) (nodes + 1) (depth + 1) h.6 inner
      (omega (arith, few)) (omega (arith, low))
      ∙ passes_byte text more (depth + 1) 41 more depth closing behind
      h.7 (closing_passes closing.place more depth last.0) refl (omega arith)
      ∙ ap (λ n. fault_from text n depth behind) count

  nodes_pass : (text : List ℕ) (trees : Trees) (tokens behind : List Token) (nodes depth : ℕ)
      → AreWritten text trees tokens → Begin tokens
      → nodes + trees_nodes trees ≤ 4096 → depth + trees_depth trees ≤ 64
      → fault_from text nodes depth (tokens ++ behind) ≡ fault_from text
      (nodes + trees_nodes trees) depth behind
  nodes_pass text no_trees tokens behind nodes depth h begin few low =
      let count : nodes ≡ nodes + trees_nodes no_trees = omega arith in
      ap (λ ts. fault_from text nodes depth (ts ++ behind)) h
      ∙ ap (λ n. fault_from text n depth behind) count
  nodes_pass text (tree t trees) tokens behind nodes depth h begin few low =
      let first = h.0 in
      let rest = h.1 in
      let both : Begin (first ++ rest) = subst Begin h.2 begin in
      let count : nodes + tree_nodes t + trees_nodes trees ≡ nodes + trees_nodes (tree t trees) =
      omega arith in
      ap (λ ts. fault_from text nodes depth (ts ++ behind)) h.2
      ∙ ap (fault_from text nodes depth) (append_assoc first rest behind)
      ∙ node_passes text t first (rest ++ behind) nodes depth h.3 (begin_front first rest both)
      (omega (arith, few)) (omega (arith, low))
      ∙ nodes_pass text trees rest behind (nodes + tree_nodes t) depth h.4
      (begin_behind first rest both)
      (omega (arith, few)) (omega (arith, low))
      ∙ ap (λ n. fault_from text n depth behind) count

at_end : (text : List ℕ) (nodes : ℕ) → length text ≤ 65536 → fault_from text nodes 0 [] ≡ None
at_end text nodes short =
    ap (λ c. cond c (Some (fault 65536 TooLarge)) None) (le-ltb 65536 (length text) short)

pub written_passes : (text : List ℕ) (trees : Trees) → length text ≤ 65536
    → AreWritten text trees (tokens_of text) → trees_nodes trees ≤ 4096 → trees_depth trees ≤ 64
    → fault_of text ≡ None
written_passes text trees short written few low =
    let tokens = tokens_of text in
    let whole : tokens ++ [] ≡ tokens = append-nil tokens in
    ap (fault_from text 0 0) (sym whole)
    ∙ nodes_pass text trees tokens [] 0 0 written (begin_from 0 0 text (omega arith))
    (omega arith) (omega arith)
    ∙ at_end text (0 + trees_nodes trees) short
