-- Statements keep the limits of scripts.
use Rattle.std.proofs.Common.{◌≡◌, ◌<◌, ◌≤◌, ℕ, ◌+◌, ◌==◌, List, [], ◌∷◌, ◌++◌, length, Option, Some, None, Ok, IfOk, sym, ◌∙◌, arith}
use Rattle.std.proofs.lemmas.Bool.{eq-eqb, false≢true}
use Rattle.std.proofs.lemmas.List.{length_push}
use Rattle.std.specs.Prelude.{is_some}
use Rattle.tracer_lang.specs.Tree.{Statement, Statements}
use Rattle.tracer_lang.specs.Limits.{FitsStatement, FitsStatements, statement_nodes, statements_nodes, statement_depth, statements_depth}
use Rattle.tracer_text.specs.declared.fault.ScriptCause.TheVariants as causes
use Rattle.tracer_text.specs.declared.token.Token.{Token}
use Rattle.tracer_text.specs.Nodes.{Tree, atom, list, Trees, no_trees, tree}
use Rattle.tracer_read.specs.declared.heads.ValueHead.TheVariants.{Emit, Return, Stop, Run}
use Rattle.tracer_read.specs.declared.heads.StatementHead.{StatementHead}
use Rattle.tracer_read.specs.declared.heads.StatementHead.TheVariants.{Var, Set, Do, If, While, Store, Value}
use Rattle.tracer_read.specs.Heads.{statement_head}
use Rattle.tracer_read.specs.Parts.{or_fault, word_of, name_index, new_name, new_local, two_parts, one, two}
use Rattle.tracer_read.specs.Expressions.{Around, head, parameter_counts, expression, expressions}
use Rattle.tracer_read.specs.Statements.{in_order, var_form, set_form, if_form, while_form, statement_form, step_of, steps_of}
use Rattle.tracer_read.specs.Written.{tree_nodes, trees_nodes, tree_depth, trees_depth}
use Rattle.tracer_read.proofs.Sound.{IfOk-bind, IfOk-then, IfOk-unless, IfOk-or_fault, IfOk-weaker}
use Rattle.tracer_read.proofs.SmallNumbers.{position-below}
use Rattle.tracer_read.proofs.Monotone.{FitsExpression-more, FitsStatement-more}
use Rattle.tracer_read.proofs.SoundExpressions.{AreWords, Sound, BothSound, expression_sound, one_sound, two_sound}

pub new_local-grows : (text : List ℕ) (names : List Token) (token : Token) → length names ≤ 16
    → IfOk (new_local text names token) (λ more. (length more ≡ length names + 1)
    × (length more ≤ 16))
new_local-grows text names token few =
    let Q : List Token → Type 0 = λ more. (length more ≡ length names + 1) × (length more ≤ 16) in
    let Grown : List Token → Type 0 = λ more. length more ≡ length names + 1 in
    IfOk-bind (new_name text names token) _ Grown Q
    (IfOk-unless (is_some (name_index text names token)) token.place causes.NameDoubled
    (Ok (names ++ token ∷ [])) Grown (λ _. length_push names token))
    (λ more grown. IfOk-unless (length names == 16) token.place causes.TooLarge (Ok more) Q (λ is.
    let other : length names ≡ 16 → ⊥ = λ e. false≢true (sym is ∙ eq-eqb (length names) 16 e) in
    (grown, omega (arith, grown, few, other))))

record SmallPair (parts : Trees) (two : Tree × Tree) : Type 0 where
  few : tree_nodes two.1 ≤ trees_nodes parts
  shallow : tree_depth two.1 ≤ trees_depth parts

two_parts-small : (place : ℕ) (parts : Trees) → IfOk (two_parts place parts) (SmallPair parts)
two_parts-small place no_trees = tt
two_parts-small place (tree t no_trees) = tt
two_parts-small place (tree t (tree u no_trees)) =
    record { few = omega arith; shallow = omega arith }
two_parts-small place (tree t (tree u (tree v parts))) = tt

-- a statement, and the locals behind it
pub record StepSound (counts : List ℕ) (before nodes depth : ℕ)
    (x : Statement × List Token) : Type 0 where
  pub fits : FitsStatement counts (length x.1) x.0
  pub few : statement_nodes x.0 ≤ nodes
  pub shallow : statement_depth x.0 ≤ depth
  pub more : before ≤ length x.1
  pub most : length x.1 ≤ 16

pub record BlockSound (counts : List ℕ) (before : ℕ) (parts : Trees)
    (x : Statements × List Token) : Type 0 where
  pub fits : FitsStatements counts (length x.1) x.0
  pub few : statements_nodes x.0 ≤ trees_nodes parts
  pub shallow : statements_depth x.0 ≤ trees_depth parts
  pub more : before ≤ length x.1
  pub most : length x.1 ≤ 16

-- a statement whose list has these parts
abbrev FormSound : Around → List Token → Trees → Statement × List Token → Type 0
FormSound around locals parts x =
    StepSound (parameter_counts around.callees) (length locals) (1 + trees_nodes parts)
    (1 + trees_depth parts) x

var-sound : (around : Around) → AreWords around.symbols
    → (place : ℕ) (parts : Trees) (locals : List Token) → length locals ≤ 16
    → IfOk (var_form around place parts locals) (FormSound around locals parts)
var-sound around words place parts locals few =
    let Q : Statement × List Token → Type 0 = FormSound around locals parts in
    IfOk-bind (two_parts place parts) _ (SmallPair parts) Q (two_parts-small place parts)
    (λ pair small.
    IfOk-then (word_of around.text pair.0) _ Q (λ name _.
    IfOk-bind (new_local around.text locals name) _
    (λ more. (length more ≡ length locals + 1) × (length more ≤ 16)) Q
    (new_local-grows around.text locals name few) (λ more grown.
    IfOk-bind (expression around more pair.1) _
    (Sound (parameter_counts around.callees) (length more) (tree_nodes pair.1) (tree_depth pair.1))
    Q (expression_sound around words more pair.1) (λ e s. record {
      fits = (omega (arith, grown.0), s.fits);
      few = omega (arith, s.few, small.few);
      shallow = omega (arith, s.shallow, small.shallow);
      more = omega (arith, grown.0);
      most = grown.1;
    }))))

set-sound : (around : Around) → AreWords around.symbols
    → (place : ℕ) (parts : Trees) (locals : List Token) → length locals ≤ 16
    → IfOk (set_form around place parts locals) (FormSound around locals parts)
set-sound around words place parts locals few =
    let Q : Statement × List Token → Type 0 = FormSound around locals parts in
    IfOk-bind (two_parts place parts) _ (SmallPair parts) Q (two_parts-small place parts)
    (λ pair small.
    IfOk-then (word_of around.text pair.0) _ Q (λ name _.
    IfOk-bind (or_fault name.place causes.NameUnknown (name_index around.text locals name)) _
    (λ i. i < length locals) Q
    (IfOk-or_fault name.place causes.NameUnknown (name_index around.text locals name)
    (λ i. i < length locals) (position-below _ locals)) (λ i below.
    IfOk-bind (expression around locals pair.1) _
    (Sound (parameter_counts around.callees) (length locals) (tree_nodes pair.1)
    (tree_depth pair.1)) Q (expression_sound around words locals pair.1) (λ e s. record {
      fits = (below, s.fits);
      few = omega (arith, s.few, small.few);
      shallow = omega (arith, s.shallow, small.shallow);
      more = omega arith;
      most = few;
    }))))

-- what is known of the parts of a list
record PartsDone (around : Around) (place : ℕ) (parts : Trees) (locals : List Token) : Type 0 where
  does : IfOk (in_order (steps_of around parts) locals)
      (BlockSound (parameter_counts around.callees) (length locals) parts)
  ifs : IfOk (if_form place (expressions around locals parts) (steps_of around parts) locals)
      (FormSound around locals parts)
  whiles : IfOk (while_form place (expressions around locals parts) (steps_of around parts) locals)
      (FormSound around locals parts)

form-sound : (around : Around) → AreWords around.symbols
    → (place : ℕ) (parts : Trees) (locals : List Token) (h : Option StatementHead)
    → length locals ≤ 16 → PartsDone around place parts locals
    → IfOk (statement_form around place parts (steps_of around parts) locals h)
    (FormSound around locals parts)
form-sound around words place parts locals None few done = tt
form-sound around words place parts locals (Some Var) few done =
    var-sound around words place parts locals few
form-sound around words place parts locals (Some Set) few done =
    set-sound around words place parts locals few
form-sound around words place parts locals (Some If) few done = done.ifs
form-sound around words place parts locals (Some While) few done = done.whiles
form-sound around words place parts locals (Some Do) few done =
    IfOk-bind (in_order (steps_of around parts) locals) _
    (BlockSound (parameter_counts around.callees) (length locals) parts)
    (FormSound around locals parts) done.does
    (λ x s. record {
      fits = s.fits;
      few = omega (arith, s.few);
      shallow = omega (arith, s.shallow);
      more = s.more;
      most = s.most;
    })
form-sound around words place parts locals (Some (Store op)) few done =
    IfOk-bind (two place (expressions around locals parts)) _
    (BothSound (parameter_counts around.callees) (length locals) parts)
    (FormSound around locals parts) (two_sound around words locals place parts)
    (λ es s. record {
      fits = (s.first, s.second);
      few = omega (arith, s.few);
      shallow = omega (arith, s.shallow);
      more = omega arith;
      most = few;
    })
form-sound around words place parts locals (Some (Value Emit)) few done =
    IfOk-bind (one place (expressions around locals parts)) _
    (Sound (parameter_counts around.callees) (length locals) (trees_nodes parts)
    (trees_depth parts)) (FormSound around locals parts) (one_sound around words locals place parts)
    (λ e s. record {
      fits = s.fits;
      few = omega (arith, s.few);
      shallow = omega (arith, s.shallow);
      more = omega arith;
      most = few;
    })
form-sound around words place parts locals (Some (Value Return)) few done =
    IfOk-bind (one place (expressions around locals parts)) _
    (Sound (parameter_counts around.callees) (length locals) (trees_nodes parts)
    (trees_depth parts)) (FormSound around locals parts) (one_sound around words locals place parts)
    (λ e s. record {
      fits = s.fits;
      few = omega (arith, s.few);
      shallow = omega (arith, s.shallow);
      more = omega arith;
      most = few;
    })
form-sound around words place parts locals (Some (Value Stop)) few done =
    IfOk-bind (one place (expressions around locals parts)) _
    (Sound (parameter_counts around.callees) (length locals) (trees_nodes parts)
    (trees_depth parts)) (FormSound around locals parts) (one_sound around words locals place parts)
    (λ e s. record {
      fits = s.fits;
      few = omega (arith, s.few);
      shallow = omega (arith, s.shallow);
      more = omega arith;
      most = few;
    })
form-sound around words place parts locals (Some (Value Run)) few done =
    IfOk-bind (one place (expressions around locals parts)) _
    (Sound (parameter_counts around.callees) (length locals) (trees_nodes parts)
    (trees_depth parts)) (FormSound around locals parts) (one_sound around words locals place parts)
    (λ e s. record {
      fits = s.fits;
      few = omega (arith, s.few);
      shallow = omega (arith, s.shallow);
      more = omega arith;
      most = few;
    })

mutual
  pub step_sound : (around : Around) → AreWords around.symbols → (t : Tree) (locals : List Token)
      → length locals ≤ 16
      → IfOk (step_of around t locals) (StepSound (parameter_counts around.callees) (length locals)
      (tree_nodes t) (tree_depth t))
  step_sound around words (atom token) locals few = tt
  step_sound around words (list place no_trees) locals few = tt
  step_sound around words (list place (tree first parts)) locals few =
      IfOk-weaker (step_of around (list place (tree first parts)) locals)
      (FormSound around locals parts)
      (StepSound (parameter_counts around.callees) (length locals)
      (tree_nodes (list place (tree first parts))) (tree_depth (list place (tree first parts))))
      (form-sound around words place parts locals (head statement_head around.text first) few
      (record {
        does = block_sound around words parts locals few;
        ifs = if_sound around words place parts locals few;
        whiles = while_sound around words place parts locals few;
      }))
      (λ x s. record {
        fits = s.fits;
        few = omega (arith, s.few);
        shallow = omega (arith, s.shallow);
        more = s.more;
        most = s.most;
      })

  pub block_sound : (around : Around) → AreWords around.symbols
      → (parts : Trees) (locals : List Token) → length locals ≤ 16
      → IfOk (in_order (steps_of around parts) locals)
      (BlockSound (parameter_counts around.callees) (length locals) parts)
  block_sound around words no_trees locals few =
      record { fits = tt; few = omega arith; shallow = omega arith; more = omega arith; most = few }
  block_sound around words (tree first rest) locals few =
      IfOk-bind (step_of around first locals) _
      (StepSound (parameter_counts around.callees) (length locals) (tree_nodes first)
      (tree_depth first)) (BlockSound (parameter_counts around.callees) (length locals)
      (tree first rest)) (step_sound around words first locals few)
      (λ x s. IfOk-bind (in_order (steps_of around rest) x.1) _
      (BlockSound (parameter_counts around.callees) (length x.1) rest)
      (BlockSound (parameter_counts around.callees) (length locals) (tree first rest))
      (block_sound around words rest x.1 s.most)
      (λ y v. record {
        fits = (
          FitsStatement-more (parameter_counts around.callees) (length x.1)
              (length y.1) x.0 v.more s.fits,
          v.fits,
        );
        few = omega (arith, s.few, v.few);
        shallow = omega (arith, s.shallow, v.shallow);
        more = omega (arith, s.more, v.more);
        most = v.most;
      }))

  if_sound : (around : Around) → AreWords around.symbols
      → (place : ℕ) (parts : Trees) (locals : List Token) → length locals ≤ 16
      → IfOk (if_form place (expressions around locals parts) (steps_of around parts) locals)
      (FormSound around locals parts)
  if_sound around words place no_trees locals few = tt
  if_sound around words place (tree a no_trees) locals few = tt
  if_sound around words place (tree a (tree b no_trees)) locals few = tt
  if_sound around words place (tree a (tree b (tree c no_trees))) locals few =
      IfOk-bind (expression around locals a) _
      (Sound (parameter_counts around.callees) (length locals) (tree_nodes a) (tree_depth a))
      (FormSound around locals (tree a (tree b (tree c no_trees))))
      (expression_sound around words locals a)
      (λ e s. IfOk-bind (step_of around b locals) _
      (StepSound (parameter_counts around.callees) (length locals) (tree_nodes b) (tree_depth b))
      (FormSound around locals (tree a (tree b (tree c no_trees))))
      (step_sound around words b locals few)
      (λ x v. IfOk-bind (step_of around c x.1) _
      (StepSound (parameter_counts around.callees) (length x.1) (tree_nodes c) (tree_depth c))
      (FormSound around locals (tree a (tree b (tree c no_trees))))
      (step_sound around words c x.1 v.most)
      (λ y w. record {
        fits = (
          FitsExpression-more (parameter_counts around.callees) (length locals) (length y.1) e
              (omega (arith, v.more, w.more)) s.fits,
          FitsStatement-more
              (parameter_counts around.callees) (length x.1) (length y.1) x.0 w.more v.fits,
          w.fits,
        );
        few = omega (arith, s.few, v.few, w.few);
        shallow = omega (arith, s.shallow, v.shallow, w.shallow);
        more = omega (arith, v.more, w.more);
        most = w.most;
      })))
  if_sound around words place (tree a (tree b (tree c (tree d rest)))) locals few = tt

  while_sound : (around : Around) → AreWords around.symbols
      → (place : ℕ) (parts : Trees) (locals : List Token) → length locals ≤ 16
      → IfOk (while_form place (expressions around locals parts) (steps_of around parts) locals)
      (FormSound around locals parts)
  while_sound around words place no_trees locals few = tt
  while_sound around words place (tree a rest) locals few =
      IfOk-bind (expression around locals a) _
      (Sound (parameter_counts around.callees) (length locals) (tree_nodes a) (tree_depth a))
      (FormSound around locals (tree a rest)) (expression_sound around words locals a)
      (λ e s. IfOk-bind (in_order (steps_of around rest) locals) _
      (BlockSound (parameter_counts around.callees) (length locals) rest)
      (FormSound around locals (tree a rest)) (block_sound around words rest locals few)
      (λ x v. record {
        fits = (
          FitsExpression-more (parameter_counts around.callees) (length locals)
              (length x.1) e v.more s.fits,
          v.fits,
        );
        few = omega (arith, s.few, v.few);
        shallow = omega (arith, s.shallow, v.shallow);
        more = v.more;
        most = v.most;
      }))
