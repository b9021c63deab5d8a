-- The nodes of a text without a fault are those that its tokens are written for, and no others are.
use Rattle.std.proofs.Common.{◌≡◌, ◌≢◌, ℕ, zero, suc, ◌+◌, ◌-◌, ◌==◌, ◌&&◌, ◌||◌, Bool, true, false, not, cond, List, [], ◌∷◌, ◌++◌, length, ltb, slice_index, Option, Some, None, refl, sym, ap, subst, ◌∙◌, ⊎_elim, arith, append_assoc}
use Rattle.std.proofs.lemmas.Bool.{eqb-true, false≢true}
use Rattle.std.proofs.lemmas.Bool.Decides.{eqb_tells}
use Rattle.std.proofs.lemmas.List.{append-nil}
use Rattle.tracer_text.specs.declared.fault.ScriptFault.{ScriptFault}
use Rattle.tracer_text.specs.declared.token.Token.{Token}
use Rattle.tracer_text.specs.FirstPass.{is_stray, cause_at, nodes_after, depth_after, fault_from, fault_of}
use Rattle.tracer_text.specs.Tokens.{is_run_byte, tokens_of}
use Rattle.tracer_text.specs.Nodes as text_nodes
use Rattle.tracer_text.specs.Nodes.{Tree, atom, list, Trees, no_trees, tree, Standing, before, nodes_from, rest_of}
use Rattle.tracer_read.specs.Written.{first_byte, IsWritten, AreWritten}
use Rattle.tracer_read.proofs.Accepted.{skips, both_none, other_than}
use Rattle.tracer_read.proofs.GrammarNames.{is_false}

-- ---- bytes of names and numbers

-- a byte that is neither stray nor a parenthesis is one of them
runs : (r p q : Bool) → not (r || p || q) ≡ false → p ≡ false → q ≡ false → r ≡ true
runs true p q h no_p no_q = refl
runs false true q h no_p no_q = absurd cc
runs false false true h no_p no_q = absurd cc
runs false false false h no_p no_q = absurd cc

-- and no parenthesis is
pub no_parenthesis : (b : ℕ) → is_run_byte b ≡ true → (b ≢ 40) × (b ≢ 41)
no_parenthesis b is =
    (λ e. false≢true (ap is_run_byte (sym e) ∙ is), λ e. false≢true (ap is_run_byte (sym e) ∙ is))

-- ---- what a token makes of what stands behind it

before_closing : (token : Token) (standing : Standing) (b : ℕ) → b ≡ 41
    → before b token standing ≡ record {
      inside = no_trees;
      outside = standing.inside ∷ standing.outside;
    }
before_closing token standing b is = ap (λ b. before b token standing) is

before_opening : (token : Token) (standing : Standing) (b : ℕ) → b ≡ 40
    → before b token standing
    ≡ record {
      inside = tree (list token.place standing.inside) (text_nodes.first_of standing.outside);
      outside = rest_of standing.outside;
    }
before_opening token standing b is = ap (λ b. before b token standing) is

before_atom : (token : Token) (standing : Standing) (b : ℕ) → b ≢ 40 → b ≢ 41
    → before b token standing ≡ record standing { inside = tree (atom token) standing.inside }
before_atom token standing b no_opening no_closing =
    let closed : Standing = record {
      inside = no_trees;
      outside = standing.inside ∷ standing.outside;
    } in
    let opened : Standing = record {
      inside = tree (list token.place standing.inside) (text_nodes.first_of standing.outside);
      outside = rest_of standing.outside;
    } in
    let made : Standing = record standing { inside = tree (atom token) standing.inside } in
    let not_closing : (b == 41) ≡ false = is_false (b == 41)
    (λ is. no_closing (eqb-true b 41 is)) in
    let not_opening : (b == 40) ≡ false = is_false (b == 40)
    (λ is. no_opening (eqb-true b 40 is)) in
    ap (λ c. cond c closed (cond (b == 40) opened made)) not_closing
    ∙ ap (λ c. cond c opened made) not_opening

-- ---- the nodes of a text are written as its tokens

-- the nodes up to the end of the innermost list, its closing parenthesis, and so on outwards
abbrev StandWritten : List ℕ → Trees → List Trees → List Token → Type 0
StandWritten text inside [] tokens = AreWritten text inside tokens
StandWritten text inside (outer ∷ outside) tokens =
    (front : List Token) × (closing : Token) × (behind : List Token)
    × (tokens ≡ front ++ closing ∷ behind)
    × AreWritten text inside front
    × (first_byte text closing ≡ 41)
    × StandWritten text outer outside behind

one_more : (text : List ℕ) (t : Tree) (first : List Token) (inside : Trees) (outside : List Trees)
    (tokens : List Token)
    → IsWritten text t first → StandWritten text inside outside tokens
    → StandWritten text (tree t inside) outside (first ++ tokens)
one_more text t first inside [] tokens w h = (first, tokens, refl, w, h)
one_more text t first inside (outer ∷ outside) tokens w h =
    let front = h.0 in
    let closing = h.1 in
    let behind = h.2 in (
      first ++ front,
      closing,
      behind,
      ap (λ ts. first ++ ts) h.3
          ∙ sym (append_assoc first front (closing ∷ behind)),
      (first, front, refl, w, h.4),
      h.5,
      h.6,
    )

-- a list that is closed further on
one_list : (text : List ℕ) (token : Token) (inside : Trees) (outside : List Trees)
    (tokens : List Token) (depth : ℕ)
    → first_byte text token ≡ 40 → length outside ≡ depth + 1
    → StandWritten text inside outside tokens
    → StandWritten text (tree (list token.place inside) (text_nodes.first_of outside))
    (rest_of outside) (token ∷ tokens) × (length (rest_of outside) ≡ depth)
one_list text token inside [] tokens depth is deep h = absurd (omega (arith, deep))
one_list text token inside (outer ∷ outside) tokens depth is deep h =
    let front = h.0 in
    let closing = h.1 in
    let behind = h.2 in
    let whole : List Token = token ∷ (front ++ closing ∷ []) in
    let more : StandWritten text (tree (list token.place inside) outer) outside (whole ++ behind) =
    one_more text (list token.place inside) whole outer outside behind
    (token, front, closing, refl, refl, is, h.4, h.5) h.6 in
    let same : whole ++ behind ≡ token ∷ tokens =
    ap (λ ts. token ∷ ts) (append_assoc front (closing ∷ []) behind ∙ sym h.3) in (
      subst (λ ts. StandWritten text (tree (list token.place inside) outer) outside ts) same more,
      omega (arith, deep),
    )

-- so many lists are open
abbrev Stands : List ℕ → ℕ → Standing → List Token → Type 0
Stands text depth standing tokens = StandWritten text standing.inside standing.outside tokens
    × (length standing.outside ≡ depth)

closing_stands : (text : List ℕ) (place nodes depth : ℕ) (token : Token) (standing : Standing)
    (tokens : List Token)
    → first_byte text token ≡ 41 → cause_at place 41 nodes depth ≡ None
    → Stands text (depth - 1) standing tokens
    → Stands text depth (before 41 token standing) (token ∷ tokens)
closing_stands text place nodes depth token standing tokens is none behind =
    let some = skips (depth == 0) _ _ none in
    let deep : depth ≢ 0 = other_than depth 0 some.0 in
    (([], token, tokens, refl, refl, is, behind.0), omega (arith, behind.1, deep))

opening_stands : (text : List ℕ) (depth : ℕ) (token : Token) (standing : Standing)
    (tokens : List Token)
    → first_byte text token ≡ 40
    → Stands text (depth + 1) standing tokens
    → Stands text depth (before 40 token standing) (token ∷ tokens)
opening_stands text depth token standing tokens is behind =
    one_list text token standing.inside standing.outside tokens depth is behind.1 behind.0

atom_stands : (text : List ℕ) (depth b : ℕ) (token : Token) (standing : Standing)
    (tokens : List Token)
    → first_byte text token ≡ b → is_run_byte b ≡ true
    → Stands text depth standing tokens
    → Stands text depth (before b token standing) (token ∷ tokens)
atom_stands text depth b token standing tokens is run behind =
    let no_paren = no_parenthesis b run in
    let begins : is_run_byte (first_byte text token) ≡ true = ap is_run_byte is ∙ run in
    let front = standing.inside in
    let more = one_more text (atom token) (token ∷ []) front standing.outside tokens
    (refl, begins) behind.0 in
    subst (λ (s : Standing). Stands text depth s (token ∷ tokens))
    (sym (before_atom token standing b no_paren.0 no_paren.1)) (more, behind.1)

token_stands : (text : List ℕ) (place nodes depth b : ℕ) (token : Token) (standing : Standing)
    (tokens : List Token)
    → first_byte text token ≡ b → cause_at place b nodes depth ≡ None
    → Stands text (depth_after b depth) standing tokens
    → Stands text depth (before b token standing) (token ∷ tokens)
token_stands text place nodes depth b token standing tokens =
    let P : ℕ → Type 0 = λ b. first_byte text token ≡ b → cause_at place b nodes depth ≡ None
    → Stands text (depth_after b depth) standing tokens
    → Stands text depth (before b token standing) (token ∷ tokens) in
    ⊎_elim
    (λ (closing : ((b == 41) ≡ true) × (b ≡ 41)).
    subst P (sym closing.1) (λ is none behind.
    closing_stands text place nodes depth token standing tokens is none behind))
    (λ (no_closing : ((b == 41) ≡ false) × (b ≢ 41)).
    ⊎_elim
    (λ (opening : ((b == 40) ≡ true) × (b ≡ 40)).
    subst P (sym opening.1) (λ is none behind.
    opening_stands text depth token standing tokens is behind))
    (λ (no_opening : ((b == 40) ≡ false) × (b ≢ 40)). λ is none behind.
    let same : depth_after b depth ≡ depth =
    ap (λ c. cond c (depth + 1) (cond (b == 41) (depth - 1) depth)) no_opening.0
    ∙ ap (λ c. cond c (depth - 1) depth) no_closing.0 in
    let stray = skips (is_stray b) _ _ none in
    let run = runs (is_run_byte b) (b == 40) (b == 41) stray.0 no_opening.0 no_closing.0 in
    atom_stands text depth b token standing tokens is run
    (subst (λ d. Stands text d standing tokens) same behind))
    (eqb_tells b 40))
    (eqb_tells b 41)

at_end : (c : Bool) (x : ScriptFault) → cond c None (Some x) ≡ None → c ≡ true
at_end true x h = refl
at_end false x h = absurd cc

stands : (text : List ℕ) (nodes depth : ℕ) (tokens : List Token)
    → fault_from text nodes depth tokens ≡ None
    → Stands text depth (nodes_from text tokens) tokens
stands text nodes depth [] none =
    let long = skips (ltb 65536 (length text)) _ _ none in
    let closed : depth ≡ 0 = eqb-true depth 0 (at_end (depth == 0) _ long.1) in
    (refl, sym closed)
stands text nodes depth (token ∷ tokens) none =
    let b = slice_index text token.place in
    let both = both_none token.place (cause_at token.place b nodes depth)
    (fault_from text (nodes_after b nodes) (depth_after b depth) tokens) none in
    token_stands text token.place nodes depth b token (nodes_from text tokens) tokens refl both.0
    (stands text (nodes_after b nodes) (depth_after b depth) tokens both.1)

no_list_open : (text : List ℕ) (inside : Trees) (outside : List Trees) (tokens : List Token)
    → StandWritten text inside outside tokens → length outside ≡ 0 → AreWritten text inside tokens
no_list_open text inside [] tokens h none = h
no_list_open text inside (outer ∷ outside) tokens h none = absurd (omega (arith, none))

pub nodes_written : (text : List ℕ) → fault_of text ≡ None
    → AreWritten text (nodes_from text (tokens_of text)).inside (tokens_of text)
nodes_written text none =
    let s = stands text 0 0 (tokens_of text) none in
    let standing = nodes_from text (tokens_of text) in
    no_list_open text standing.inside standing.outside (tokens_of text) s.0 s.1

-- ---- no other nodes are written so

abbrev joined : Trees → Trees → Trees
joined no_trees behind = behind
joined (tree t more) behind = tree t (joined more behind)

joined_none : (trees : Trees) → joined trees no_trees ≡ trees
joined_none no_trees = refl
joined_none (tree t more) = ap (tree t) (joined_none more)

-- nodes in front of what stands
abbrev in_front : Trees → Standing → Standing
in_front trees standing = record standing { inside = joined trees standing.inside }

mutual
  node_found : (text : List ℕ) (t : Tree) (tokens behind : List Token) → IsWritten text t tokens
      → nodes_from text (tokens ++ behind) ≡ in_front (tree t no_trees) (nodes_from text behind)
  node_found text (atom token) tokens behind h =
      ap (λ ts. nodes_from text (ts ++ behind)) h.0
      ∙ before_atom token (nodes_from text behind) (first_byte text token)
      (no_parenthesis (first_byte text token) h.1).0 (no_parenthesis (first_byte text token) h.1).1
  node_found text (list place parts) tokens behind h =
      let opening = h.0 in
      let between = h.1 in
      let closing = h.2 in
      let standing = nodes_from text behind in
      let closed : Standing = record {
        inside = no_trees;
        outside = standing.inside ∷ standing.outside;
      } in
      let inner : nodes_from text ((between ++ closing ∷ []) ++ behind) ≡ in_front parts closed =
      ap (nodes_from text) (append_assoc between (closing ∷ []) behind)
      ∙ nodes_found text parts between (closing ∷ behind) h.6
      ∙ ap (in_front parts) (before_closing closing standing (first_byte text closing) h.7) in
      let same : list opening.place (joined parts no_trees) ≡ list place parts =
      ap (λ p. list p (joined parts no_trees)) h.4 ∙ ap (list place) (joined_none parts) in
      ap (λ ts. nodes_from text (ts ++ behind)) h.3
      ∙ ap (before (first_byte text opening) opening) inner
      ∙ before_opening opening (in_front parts closed) (first_byte text opening) h.5
      ∙ ap (λ t. in_front (tree t no_trees) standing) same

  nodes_found : (text : List ℕ) (trees : Trees) (tokens behind : List Token)
      → AreWritten text trees tokens
      → nodes_from text (tokens ++ behind) ≡ in_front trees (nodes_from text behind)
  nodes_found text no_trees tokens behind h = ap (λ ts. nodes_from text (ts ++ behind)) h
  nodes_found text (tree t more) tokens behind h =
      let first = h.0 in
      let rest = h.1 in
      ap (λ ts. nodes_from text (ts ++ behind)) h.2
      ∙ ap (nodes_from text) (append_assoc first rest behind)
      ∙ node_found text t first (rest ++ behind) h.3
      ∙ ap (in_front (tree t no_trees)) (nodes_found text more rest behind h.4)

pub written_nodes : (text : List ℕ) (trees : Trees) (tokens : List Token)
    → AreWritten text trees tokens → (nodes_from text tokens).inside ≡ trees
written_nodes text trees tokens h =
    let none : tokens ++ [] ≡ tokens = append-nil tokens in
    ap (λ ts. (nodes_from text ts).inside) (sym none)
    ∙ ap (λ (s : Standing). s.inside) (nodes_found text trees tokens [] h)
    ∙ joined_none trees
