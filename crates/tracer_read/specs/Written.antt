-- How nodes are written: which tokens stand for them, in order.
use Rattle.std.specs.Prelude.{◌≡◌, ℕ, ◌+◌, true, max, List, [], ◌∷◌, ◌++◌, slice_index}
use Rattle.tracer_text.specs.declared.token.Token.{Token}
use Rattle.tracer_text.specs.Tokens.{is_run_byte}
use Rattle.tracer_text.specs.Nodes.{Tree, atom, list, Trees, no_trees, tree}

-- the first byte of a token
abbrev pub first_byte : List ℕ → Token → ℕ
first_byte text token = slice_index text token.place

-- A name or a number is written as its token, which begins with a byte of names and numbers. A list
-- is written as two parentheses, of which the first stands at the list's place, with its nodes
-- between them.
abbrev mutual
  pub IsWritten : List ℕ → Tree → List Token → Type 0
  IsWritten text (atom token) tokens =
      (tokens ≡ token ∷ []) × (is_run_byte (first_byte text token) ≡ true)
  IsWritten text (list place parts) tokens =
      (opening : Token)
      × (between : List Token)
      × (closing : Token)
      × (tokens ≡ opening ∷ (between ++ closing ∷ []))
      × (opening.place ≡ place)
      × (first_byte text opening ≡ 40)
      × AreWritten text parts between
      × (first_byte text closing ≡ 41)

  -- nodes one after the other
  pub AreWritten : List ℕ → Trees → List Token → Type 0
  AreWritten text no_trees tokens = tokens ≡ []
  AreWritten text (tree t more) tokens =
      (first : List Token)
      × (rest : List Token)
      × (tokens ≡ first ++ rest)
      × IsWritten text t first
      × AreWritten text more rest

-- how many nodes there are, each list with those in it
abbrev mutual
  pub tree_nodes : Tree → ℕ
  tree_nodes (atom token) = 1
  tree_nodes (list place trees) = 1 + trees_nodes trees

  pub trees_nodes : Trees → ℕ
  trees_nodes no_trees = 0
  trees_nodes (tree first rest) = tree_nodes first + trees_nodes rest

-- how many lists stand within one another
abbrev mutual
  pub tree_depth : Tree → ℕ
  tree_depth (atom token) = 0
  tree_depth (list place trees) = 1 + trees_depth trees

  pub trees_depth : Trees → ℕ
  trees_depth no_trees = 0
  trees_depth (tree first rest) = max (tree_depth first) (trees_depth rest)
