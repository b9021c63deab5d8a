-- Nodes: tokens, and lists of nodes in parentheses.
use Rattle.std.specs.Prelude.{ℕ, ◌==◌, List, [], ◌∷◌, slice_index, if◌then◌else◌}
use Rattle.tracer_text.specs.declared.token.Token.{Token}
use Rattle.tracer_text.specs.declared.node.Node.{Node}
use Rattle.tracer_text.specs.declared.node.Node.TheVariants.{Atom, List'}
use Rattle.tracer_text.specs.declared.node.Nodes.{Nodes}
use Rattle.tracer_text.specs.declared.node.Nodes.TheVariants.{End, And'}

-- a token, or a list with the place of its opening parenthesis; and nodes in order
mutual
  pub data Tree : Type 0 where
    atom : (token : Token) → Tree
    list : (place : ℕ) (trees : Trees) → Tree

  pub data Trees : Type 0 where
    no_trees : Trees
    tree : (first : Tree) (rest : Trees) → Trees

-- the nodes that the code keeps, without the places in memory
abbrev mutual
  pub tree_of : Node → Tree
  tree_of (Atom token) = atom token
  tree_of (List' place at nodes) = list place (trees_of nodes)

  pub trees_of : Nodes → Trees
  trees_of End = no_trees
  trees_of (And' p node q nodes) = tree (tree_of node) (trees_of nodes)

-- Of tokens that stand within some lists: the nodes up to the end of the innermost one, and for
-- each further one those between its inner list and its end.
pub record Standing : Type 0 where
  pub inside : Trees
  pub outside : List Trees

abbrev pub first_of : List Trees → Trees
first_of [] = no_trees
first_of (trees ∷ more) = trees

abbrev pub rest_of : List Trees → List Trees
rest_of [] = []
rest_of (trees ∷ more) = more

-- one more token before them, which begins with this byte
abbrev pub before : ℕ → Token → Standing → Standing
before b token standing =
    if b == 41 then record { inside = no_trees; outside = standing.inside ∷ standing.outside }
    else if b == 40 then record {
      inside = tree (list token.place standing.inside) (first_of standing.outside);
      outside = rest_of standing.outside;
    }
    else record standing { inside = tree (atom token) standing.inside }

-- the nodes of these tokens of a text
abbrev pub nodes_from : List ℕ → List Token → Standing
nodes_from text [] = record { inside = no_trees; outside = [] }
nodes_from text (token ∷ tokens) =
    before (slice_index text token.place) token (nodes_from text tokens)
