-- A text without a fault in the first pass has few nodes, and few lists within one another.
use Rattle.std.proofs.Common.{◌≡◌, ◌≢◌, ◌≤◌, ℕ, ◌+◌, ◌-◌, ◌==◌, ◌&&◌, ◌||◌, Bool, true, false, not, cond, List, [], ◌∷◌, length, ltb, slice_index, Option, Some, None, Ok, refl, sym, ap, subst, ◌∙◌, ⊎_elim, arith}
use Rattle.std.proofs.lemmas.Bool.{eq-eqb, false≢true, ltb-false}
use Rattle.std.proofs.lemmas.List.{take_all, length-take}
use Rattle.std.proofs.lemmas.Bool.Decides.{eqb_tells}
use Rattle.tracer_text.specs.declared.fault.ScriptCause.{ScriptCause}
use Rattle.tracer_text.specs.declared.fault.ScriptFault.{ScriptFault}
use Rattle.tracer_text.specs.declared.token.Token.{Token}
use Rattle.tracer_text.specs.FirstPass.{is_stray, cause_at, nodes_after, depth_after, first_of, fault_from, read_part, fault_of, unless, first_pass}
use Rattle.tracer_text.specs.Tokens.{tokens_of}
use Rattle.tracer_text.specs.Nodes as text_nodes
use Rattle.tracer_text.specs.Nodes.{Tree, atom, list, Trees, no_trees, tree, Standing, before, nodes_from, rest_of}
use Rattle.tracer_read.specs.Parts.{part_count}
use Rattle.tracer_read.specs.Written.{trees_nodes, trees_depth}

abbrev outside_nodes : List Trees → ℕ
outside_nodes [] = 0
outside_nodes (trees ∷ more) = trees_nodes trees + outside_nodes more

-- the nodes behind the inner list of each list that is open stand one level less deep each
abbrev Shallow : ℕ → List Trees → Type 0
Shallow depth [] = Unit {0}
Shallow depth (trees ∷ more) = (trees_depth trees + (depth - 1) ≤ 64) × Shallow (depth - 1) more

record Fine (nodes depth : ℕ) (standing : Standing) : Type 0 where
  few : nodes + trees_nodes standing.inside + outside_nodes standing.outside ≤ 4096
  inside : depth + trees_depth standing.inside ≤ 64
  outside : Shallow depth standing.outside

pub skips : {A : Type 0} (c : Bool) (x : A) (y : Option A) → cond c (Some x) y ≡ None → (c ≡ false)
    × (y ≡ None)
skips true x y h = cc
skips false x y h = (refl, h)

or_false : (a b : Bool) → (a || b) ≡ false → b ≡ false
or_false true b h = cc
or_false false b h = h

pub both_none : (place : ℕ) (c : Option ScriptCause) (later : Option ScriptFault)
    → first_of place c later ≡ None → (c ≡ None) × (later ≡ None)
both_none place (Some cause) later h = cc
both_none place None later h = (refl, h)

pub other_than : (n m : ℕ) → (n == m) ≡ false → n ≢ m
other_than n m is e = false≢true (sym is ∙ eq-eqb n m e)

-- a list before what stands behind it
abbrev opened : Token → Standing → Standing
opened token standing = record {
  inside = tree (list token.place standing.inside) (text_nodes.first_of standing.outside);
  outside = rest_of standing.outside;
}

-- what a closing parenthesis, an opening one and another token make of what stands behind them
abbrev Grows : ℕ → ℕ → ℕ → ℕ → Token → Standing → Type 0
Grows place nodes depth b token standing =
    cause_at place b nodes depth ≡ None
    → (nodes_after b nodes ≤ 4096 → depth_after b depth ≤ 64
    → Fine (nodes_after b nodes) (depth_after b depth) standing)
    → Fine nodes depth (before b token standing)

closing : (place nodes depth : ℕ) (token : Token) (standing : Standing) → nodes ≤ 4096 → depth ≤ 64
    → Grows place nodes depth 41 token standing
closing place nodes depth token standing few low none rest =
    let some = skips (depth == 0) _ _ none in
    let open_list : depth ≢ 0 = other_than depth 0 some.0 in
    let behind : Fine nodes (depth - 1) standing = rest few (omega arith) in
    record {
      few = omega (arith, behind.few);
      inside = omega arith;
      outside = (omega (arith, behind.inside, open_list), behind.outside);
    }

-- the outer lists, one level up
one_up : (depth : ℕ) (outside : List Trees) → depth ≤ 64 → Shallow (depth + 1) outside
    → (depth + trees_depth (text_nodes.first_of outside) ≤ 64) × Shallow depth (rest_of outside)
one_up depth [] low h = (omega arith, tt)
one_up depth (trees ∷ more) low h =
    let same : depth + 1 - 1 ≡ depth = omega arith in
    (omega (arith, h.0), subst (λ d. Shallow d more) same h.1)

split_nodes : (outside : List Trees) → trees_nodes (text_nodes.first_of outside) + outside_nodes
    (rest_of outside) ≡ outside_nodes outside
split_nodes [] = refl
split_nodes (trees ∷ more) = refl

opening : (place nodes depth : ℕ) (token : Token) (standing : Standing) → nodes ≤ 4096 → depth ≤ 64
    → Grows place nodes depth 40 token standing
opening place nodes depth token standing few low none rest =
    let large = skips (place == 65536 || nodes == 4096) _ _ none in
    let deep = skips (depth == 64) _ _ large.1 in
    let room : nodes ≢ 4096 = other_than nodes 4096
    (or_false (place == 65536) (nodes == 4096) large.0) in
    let level : depth ≢ 64 = other_than depth 64 deep.0 in
    let behind : Fine (nodes + 1) (depth + 1) standing = rest (omega arith) (omega arith) in
    let up = one_up depth standing.outside low behind.outside in
    record {
      few = omega (arith, behind.few, split_nodes standing.outside);
      inside = omega (arith, behind.inside, up.0);
      outside = up.1;
    }

other : (place nodes depth b : ℕ) (token : Token) (standing : Standing) → (b == 41) ≡ false
    → (b == 40) ≡ false
    → nodes ≤ 4096 → depth ≤ 64 → Grows place nodes depth b token standing
other place nodes depth b token standing no_close no_open few low none rest =
    let stray = skips (is_stray b) _ _ none in
    let paren = skips (b == 41 && depth == 0) _ _ stray.1 in
    let large = skips (place == 65536 || (not (b == 41) && nodes == 4096)) _ _ paren.1 in
    let full : (not (b == 41) && nodes == 4096) ≡ false =
    or_false (place == 65536) (not (b == 41) && nodes == 4096) large.0 in
    let room : nodes ≢ 4096 = other_than nodes 4096
    (sym (ap (λ c. not c && nodes == 4096) no_close) ∙ full) in
    let nodes_is : nodes_after b nodes ≡ nodes + 1 = ap (λ c. cond c nodes (nodes + 1)) no_close in
    let depth_is : depth_after b depth ≡ depth =
    ap (λ c. cond c (depth + 1) (cond (b == 41) (depth - 1) depth)) no_open
    ∙ ap (λ c. cond c (depth - 1) depth) no_close in
    let behind = rest (omega (arith, nodes_is)) (omega (arith, depth_is)) in
    let made : Standing = record standing { inside = tree (atom token) standing.inside } in
    let made_is : before b token standing ≡ made =
    ap (λ c. cond c (record { inside = no_trees; outside = standing.inside ∷ standing.outside })
    (cond (b == 40) (opened token standing) made)) no_close
    ∙ ap (λ c. cond c (opened token standing) made) no_open in
    subst (Fine nodes depth) (sym made_is) (record {
      few = omega (arith, behind.few, nodes_is);
      inside = omega (arith, behind.inside, depth_is);
      outside = subst (λ d. Shallow d standing.outside) depth_is behind.outside;
    })

one_token : (place nodes depth b : ℕ) (token : Token) (standing : Standing) → nodes ≤ 4096
    → depth ≤ 64 → Grows place nodes depth b token standing
one_token place nodes depth b token standing few low =
    ⊎_elim
    (λ (close : ((b == 41) ≡ true) × (b ≡ 41)).
    subst (λ b. Grows place nodes depth b token standing) (sym close.1)
    (closing place nodes depth token standing few low))
    (λ (no_close : ((b == 41) ≡ false) × (b ≢ 41)).
    ⊎_elim
    (λ (open_list : ((b == 40) ≡ true) × (b ≡ 40)).
    subst (λ b. Grows place nodes depth b token standing) (sym open_list.1)
    (opening place nodes depth token standing few low))
    (λ (no_open : ((b == 40) ≡ false) × (b ≢ 40)).
    other place nodes depth b token standing no_close.0 no_open.0 few low)
    (eqb_tells b 40))
    (eqb_tells b 41)

accepted : (text : List ℕ) (nodes depth : ℕ) (tokens : List Token) → nodes ≤ 4096 → depth ≤ 64
    → fault_from text nodes depth tokens ≡ None → Fine nodes depth (nodes_from text tokens)
accepted text nodes depth [] few low none = record
    { few = omega arith; inside = omega arith; outside = tt }
accepted text nodes depth (token ∷ tokens) few low none =
    let b = slice_index text token.place in
    let both = both_none token.place (cause_at token.place b nodes depth)
    (fault_from text (nodes_after b nodes) (depth_after b depth) tokens) none in
    one_token token.place nodes depth b token (nodes_from text tokens) few low both.0
    (λ more deeper. accepted text (nodes_after b nodes)
    (depth_after b depth) tokens more deeper both.1)

-- the text is no longer than a script may be
pub not_long : (text : List ℕ) (nodes depth : ℕ) (tokens : List Token)
    → fault_from text nodes depth tokens ≡ None → length text ≤ 65536
not_long text nodes depth [] none =
    let long = skips (ltb 65536 (length text)) _ _ none in
    ltb-false 65536 (length text) long.0
not_long text nodes depth (token ∷ tokens) none =
    let b = slice_index text token.place in
    let both = both_none token.place (cause_at token.place b nodes depth)
    (fault_from text (nodes_after b nodes) (depth_after b depth) tokens) none in
    not_long text (nodes_after b nodes) (depth_after b depth) tokens both.1

pub no_fault : {X : Type 0} (first : Option ScriptFault) (x y : X) → unless first x ≡ Ok y
    → (first ≡ None) × (x ≡ y)
no_fault None x y h = (refl, cc)
no_fault (Some fault) x y h = cc

-- what the first pass accepts
pub record Small (trees : Trees) : Type 0 where
  pub few : trees_nodes trees ≤ 4096
  pub shallow : trees_depth trees ≤ 64

pub first_pass-small : (text : List ℕ) (tokens : List Token) → first_pass text ≡ Ok tokens
    → Small (nodes_from text tokens).inside
first_pass-small text tokens is =
    let part = read_part text in
    let passed = no_fault (fault_of part) (tokens_of part) tokens is in
    let short : length part ≤ 65536 = not_long part 0 0 (tokens_of part) passed.0 in
    let whole : part ≡ text = take_all 65537 text (omega (arith, short, length-take 65537 text)) in
    let fine : Fine 0 0 (nodes_from part (tokens_of part)) =
    accepted part 0 0 (tokens_of part) (omega arith) (omega arith) passed.0 in
    let same : nodes_from part (tokens_of part) ≡ nodes_from text tokens =
    ap (nodes_from part) passed.1 ∙ ap (λ t. nodes_from t tokens) whole in
    let text_fine : Fine 0 0 (nodes_from text tokens) = subst (Fine 0 0) same fine in
    record { few = omega (arith, text_fine.few); shallow = omega (arith, text_fine.inside) }

pub part_count-le : (trees : Trees) → part_count trees ≤ trees_nodes trees
part_count-le no_trees = omega arith
part_count-le (tree (atom token) rest) = omega (arith, part_count-le rest)
part_count-le (tree (list place trees) rest) = omega (arith, part_count-le rest)
