-- Expressions keep the limits of scripts.
use Rattle.std.proofs.Common.{◌≡◌, ◌<◌, ◌≤◌, ℕ, ◌+◌, ◌^◌, ◌==◌, ◌&&◌, not, max, leb, List, length, drop, slice_index, Option, Some, None, Ok, Err, IfOk, IfSome, refl, sym, ap, ◌∙◌, arith}
use Rattle.std.proofs.lemmas.Bool.{eqb-true, leb-true}
use Rattle.std.proofs.lemmas.List.{length-map}
use Rattle.sl_base.specs.declared.symbol.Symbol.{Symbol}
use Rattle.tracer_lang.specs.Tree.{Expression, number, local, register, program_counter, Arguments}
use Rattle.tracer_lang.specs.Limits.{FitsExpression, FitsArguments, argument_count, expression_nodes, arguments_nodes, expression_depth, arguments_depth}
use Rattle.tracer_text.specs.declared.fault.ScriptCause.TheVariants as causes
use Rattle.tracer_text.specs.FirstPass.{fault}
use Rattle.tracer_text.specs.declared.token.Token.{Token}
use Rattle.tracer_text.specs.Nodes.{Tree, atom, list, Trees, no_trees, tree}
use Rattle.tracer_read.specs.declared.heads.ExpressionHead.{ExpressionHead}
use Rattle.tracer_read.specs.declared.heads.ExpressionHead.TheVariants.{Sym, Reg, Pc, Not, Call, Sys, Load, Operation}
use Rattle.tracer_read.specs.Numbers.{is_number, number_value}
use Rattle.tracer_read.specs.Heads.{expression_head}
use Rattle.tracer_read.specs.Parts.{◌>>=◌, or_fault, spelling, place_of, word_of, number_of, number_within, name_index, symbol_value, symbol_of, no_part, only_part, part_count, one, two}
use Rattle.tracer_read.specs.Expressions.{Around, head, value, all, callee_names, parameter_counts, called, expression, expressions, expression_form}
use Rattle.tracer_read.specs.Written.{tree_nodes, trees_nodes, tree_depth, trees_depth}
use Rattle.tracer_read.proofs.Sound.{IfOk-bind, IfOk-then, IfOk-unless, IfOk-or_fault, IfOk-weaker, IfOk-cond, both_true, not_false}
use Rattle.tracer_read.proofs.SmallNumbers.{number_value-small, position-below}

-- symbols stand for words
abbrev pub AreWords : List Symbol → Type 0
AreWords symbols = (name : List ℕ) → IfSome (symbol_value symbols name) (λ n. n < 2 ^ 32)

pub number_of-small : (text : List ℕ) (t : Tree) → IfOk (number_of text t) (λ n. n < 2 ^ 32)
number_of-small text (atom token) =
    IfOk-cond (is_number (spelling text token))
    (or_fault token.place causes.Number (number_value (spelling text token)))
    (Err (fault token.place causes.Form)) (λ n. n < 2 ^ 32)
    (λ _. IfOk-or_fault token.place causes.Number (number_value (spelling text token))
    (λ n. n < 2 ^ 32) (number_value-small (spelling text token)))
    tt
number_of-small text (list place trees) = tt

pub number_within-within : (least most : ℕ) (text : List ℕ) (t : Tree)
    → IfOk (number_within least most text t) (λ n. (least ≤ n) × (n ≤ most))
number_within-within least most text t =
    IfOk-then (number_of text t) _ (λ n. (least ≤ n) × (n ≤ most)) (λ n _.
    IfOk-cond (leb least n && leb n most) (Ok n) (Err (fault (place_of t) causes.Number))
    (λ n. (least ≤ n) × (n ≤ most))
    (λ is. (
      leb-true least n (both_true (leb least n) (leb n most) is).0,
      leb-true n most
          (both_true (leb least n) (leb n most) is).1,
    )) tt)

pub symbol_of-small : (text : List ℕ) (symbols : List Symbol) → AreWords symbols → (t : Tree)
    → IfOk (symbol_of text symbols t) (λ n. n < 2 ^ 32)
symbol_of-small text symbols words t =
    IfOk-then (word_of text t) _ (λ n. n < 2 ^ 32) (λ token _.
    IfOk-or_fault token.place causes.SymbolUnknown (symbol_value symbols (spelling text token))
    (λ n. n < 2 ^ 32) (words (spelling text token)))

pub record Sound (counts : List ℕ) (locals nodes depth : ℕ) (e : Expression) : Type 0 where
  pub fits : FitsExpression counts locals e
  pub few : expression_nodes e ≤ nodes
  pub shallow : expression_depth e ≤ depth

pub record AreSound (counts : List ℕ) (locals : ℕ) (parts : Trees) (es : Arguments) : Type 0 where
  pub fit : FitsArguments counts locals es
  pub few : arguments_nodes es ≤ trees_nodes parts
  pub shallow : arguments_depth es ≤ trees_depth parts
  pub count : argument_count es ≡ part_count parts

pub record BothSound (counts : List ℕ) (locals : ℕ) (parts : Trees)
    (es : Expression × Expression) : Type 0 where
  pub first : FitsExpression counts locals es.0
  pub second : FitsExpression counts locals es.1
  pub few : expression_nodes es.0 + expression_nodes es.1 ≤ trees_nodes parts
  pub shallow : max (expression_depth es.0) (expression_depth es.1) ≤ trees_depth parts

-- the number of a function that is called, with as many arguments as it has parameters
abbrev Callable : List ℕ → ℕ → ℕ → Type 0
Callable counts arguments index = (index < length counts) × (arguments ≡ slice_index counts index)

called-callable : (around : Around) (place : ℕ) (f : Tree) (arguments : Trees)
    → IfOk (called around place (tree f arguments))
    (Callable (parameter_counts around.callees) (part_count arguments))
called-callable around place f arguments =
    let counts = parameter_counts around.callees in
    let names = callee_names around.callees in
    let same : length names ≡ length counts = length-map around.callees _
    ∙ sym (length-map around.callees _) in
    let Q : ℕ → Type 0 = Callable counts (part_count arguments) in
    IfOk-then (word_of around.text f) _ Q (λ token _.
    IfOk-bind (or_fault token.place causes.NameUnknown (name_index around.text names token)) _
    (λ i. i < length names) Q
    (IfOk-or_fault token.place causes.NameUnknown (name_index around.text names token)
    (λ i. i < length names) (position-below _ names))
    (λ i below. IfOk-unless (not (part_count arguments == slice_index counts i)) place causes.Arity
    (Ok i) Q
    (λ is. (
      omega (arith, below, same),
      eqb-true (part_count arguments) (slice_index counts i)
          (not_false (part_count arguments == slice_index counts i) is),
    ))))

value-sound : (around : Around) (locals : List Token) (token : Token)
    → IfOk (value around locals token) (Sound (parameter_counts around.callees) (length locals) 1 0)
value-sound around locals token =
    let Q : Expression → Type 0 = Sound (parameter_counts around.callees) (length locals) 1 0 in
    IfOk-cond (is_number (spelling around.text token))
    (number_of around.text (atom token) >>= λ n. Ok (number n))
    (or_fault token.place causes.NameUnknown (name_index around.text locals token) >>= λ index.
    Ok (local index)) Q
    (λ _. IfOk-bind (number_of around.text (atom token)) _ (λ n. n < 2 ^ 32) Q
    (number_of-small around.text (atom token))
    (λ n small. record { fits = small; few = omega arith; shallow = omega arith }))
    (IfOk-bind (or_fault token.place causes.NameUnknown (name_index around.text locals token)) _
    (λ i. i < length locals) Q
    (IfOk-or_fault token.place causes.NameUnknown (name_index around.text locals token)
    (λ i. i < length locals) (position-below _ locals))
    (λ i below. record { fits = below; few = omega arith; shallow = omega arith }))

pc-sound : (counts : List ℕ) (locals place nodes depth : ℕ) (parts : Trees)
    → IfOk (no_part place parts program_counter) (Sound counts locals (1 + nodes) (1 + depth))
pc-sound counts locals place nodes depth no_trees =
    record { fits = tt; few = omega arith; shallow = omega arith }
pc-sound counts locals place nodes depth (tree t parts) = tt

register-sound : (around : Around) (locals place nodes depth : ℕ) (parts : Trees)
    → IfOk (only_part place parts >>= λ t. number_within 0 31 around.text t >>= λ n.
    Ok (register n)) (Sound (parameter_counts around.callees) locals (1 + nodes) (1 + depth))
register-sound around locals place nodes depth parts =
    let Q : Expression → Type 0 = Sound (parameter_counts around.callees) locals (1 + nodes)
    (1 + depth) in
    IfOk-then (only_part place parts) _ Q (λ t _.
    IfOk-bind (number_within 0 31 around.text t) _ (λ n. (0 ≤ n) × (n ≤ 31)) Q
    (number_within-within 0 31 around.text t)
    (λ n within. record {
      fits = omega (arith, within.1);
      few = omega arith;
      shallow = omega arith;
    }))

symbol-sound : (around : Around) → AreWords around.symbols
    → (locals place nodes depth : ℕ) (parts : Trees)
    → IfOk (only_part place parts >>= λ t. symbol_of around.text around.symbols t >>= λ n.
    Ok (number n)) (Sound (parameter_counts around.callees) locals (1 + nodes) (1 + depth))
symbol-sound around words locals place nodes depth parts =
    let Q : Expression → Type 0 = Sound (parameter_counts around.callees) locals (1 + nodes)
    (1 + depth) in
    IfOk-then (only_part place parts) _ Q (λ t _.
    IfOk-bind (symbol_of around.text around.symbols t) _ (λ n. n < 2 ^ 32) Q
    (symbol_of-small around.text around.symbols words t)
    (λ n small. record { fits = small; few = omega arith; shallow = omega arith }))

-- the parts behind the first
abbrev behind : Trees → Trees
behind no_trees = no_trees
behind (tree first rest) = rest

-- what is known of the parts of a list
record PartsSound (around : Around) (locals : List Token) (place : ℕ) (parts : Trees) : Type 0 where
  ones : IfOk (one place (expressions around locals parts))
      (Sound (parameter_counts around.callees) (length locals) (trees_nodes parts)
      (trees_depth parts))
  twos : IfOk (two place (expressions around locals parts))
      (BothSound (parameter_counts around.callees) (length locals) parts)
  alls : IfOk (all (drop 1 (expressions around locals parts)))
      (AreSound (parameter_counts around.callees) (length locals) (behind parts))

call-sound : (around : Around) (locals : List Token) (place : ℕ) (parts : Trees)
    → IfOk (all (drop 1 (expressions around locals parts)))
    (AreSound (parameter_counts around.callees) (length locals) (behind parts))
    → IfOk (expression_form around place parts (expressions around locals parts) (Some Call))
    (Sound (parameter_counts around.callees) (length locals) (1 + trees_nodes parts)
    (1 + trees_depth parts))
call-sound around locals place no_trees alls = tt
call-sound around locals place (tree f arguments) alls =
    IfOk-bind (called around place (tree f arguments)) _
    (Callable (parameter_counts around.callees) (part_count arguments))
    (Sound (parameter_counts around.callees) (length locals) (1 + trees_nodes (tree f arguments))
    (1 + trees_depth (tree f arguments)))
    (called-callable around place f arguments)
    (λ i callable. IfOk-bind (all (expressions around locals arguments)) _
    (AreSound (parameter_counts around.callees) (length locals) arguments)
    (Sound (parameter_counts around.callees) (length locals) (1 + trees_nodes (tree f arguments))
    (1 + trees_depth (tree f arguments)))
    alls
    (λ es s. record {
      fits = (callable.0, s.count ∙ callable.1, s.fit);
      few = omega (arith, s.few);
      shallow = omega (arith, s.shallow);
    }))

form-sound : (around : Around) → AreWords around.symbols
    → (locals : List Token) (place : ℕ) (parts : Trees) (h : Option ExpressionHead)
    → PartsSound around locals place parts
    → IfOk (expression_form around place parts (expressions around locals parts) h)
    (Sound (parameter_counts around.callees) (length locals) (1 + trees_nodes parts)
    (1 + trees_depth parts))
form-sound around words locals place parts None known = tt
form-sound around words locals place parts (Some Pc) known =
    pc-sound (parameter_counts around.callees) (length locals) place (trees_nodes parts)
    (trees_depth parts) parts
form-sound around words locals place parts (Some Reg) known =
    register-sound around (length locals) place (trees_nodes parts) (trees_depth parts) parts
form-sound around words locals place parts (Some Sym) known =
    symbol-sound around words (length locals) place (trees_nodes parts) (trees_depth parts) parts
form-sound around words locals place parts (Some Not) known =
    IfOk-bind (one place (expressions around locals parts)) _
    (Sound (parameter_counts around.callees) (length locals) (trees_nodes parts)
    (trees_depth parts)) (Sound (parameter_counts around.callees) (length locals)
    (1 + trees_nodes parts) (1 + trees_depth parts)) known.ones
    (λ e s. record {
      fits = s.fits;
      few = omega (arith, s.few);
      shallow = omega (arith, s.shallow);
    })
form-sound around words locals place parts (Some (Load op)) known =
    IfOk-bind (one place (expressions around locals parts)) _
    (Sound (parameter_counts around.callees) (length locals) (trees_nodes parts)
    (trees_depth parts)) (Sound (parameter_counts around.callees) (length locals)
    (1 + trees_nodes parts) (1 + trees_depth parts)) known.ones
    (λ e s. record {
      fits = s.fits;
      few = omega (arith, s.few);
      shallow = omega (arith, s.shallow);
    })
form-sound around words locals place parts (Some (Operation operator)) known =
    IfOk-bind (two place (expressions around locals parts)) _
    (BothSound (parameter_counts around.callees) (length locals) parts)
    (Sound (parameter_counts around.callees) (length locals) (1 + trees_nodes parts)
    (1 + trees_depth parts)) known.twos
    (λ es s. record {
      fits = (s.first, s.second);
      few = omega (arith, s.few);
      shallow = omega (arith, s.shallow);
    })
form-sound around words locals place parts (Some Sys) known =
    IfOk-bind (two place (expressions around locals parts)) _
    (BothSound (parameter_counts around.callees) (length locals) parts)
    (Sound (parameter_counts around.callees) (length locals) (1 + trees_nodes parts)
    (1 + trees_depth parts)) known.twos
    (λ es s. record {
      fits = (s.first, s.second);
      few = omega (arith, s.few);
      shallow = omega (arith, s.shallow);
    })
form-sound around words locals place parts (Some Call) known =
    call-sound around locals place parts known.alls

mutual
  pub expression_sound : (around : Around) → AreWords around.symbols
      → (locals : List Token) (t : Tree)
      → IfOk (expression around locals t) (Sound (parameter_counts around.callees) (length locals)
      (tree_nodes t) (tree_depth t))
  expression_sound around words locals (atom token) = value-sound around locals token
  expression_sound around words locals (list place no_trees) = tt
  expression_sound around words locals (list place (tree first parts)) =
      IfOk-weaker (expression around locals (list place (tree first parts)))
      (Sound (parameter_counts around.callees) (length locals) (1 + trees_nodes parts)
      (1 + trees_depth parts)) (Sound (parameter_counts around.callees) (length locals)
      (tree_nodes (list place (tree first parts))) (tree_depth (list place (tree first parts))))
      (form-sound around words locals place parts (head expression_head around.text first)
      (record {
        ones = one_sound around words locals place parts;
        twos = two_sound around words locals place parts;
        alls = behind_sound around words locals parts;
      }))
      (λ e s. record {
        fits = s.fits;
        few = omega (arith, s.few);
        shallow = omega (arith, s.shallow);
      })

  all_sound : (around : Around) → AreWords around.symbols → (locals : List Token) (parts : Trees)
      → IfOk (all (expressions around locals parts))
      (AreSound (parameter_counts around.callees) (length locals) parts)
  all_sound around words locals no_trees = record
      { fit = tt; few = omega arith; shallow = omega arith; count = refl }
  all_sound around words locals (tree first rest) =
      IfOk-bind (expression around locals first) _
      (Sound (parameter_counts around.callees) (length locals) (tree_nodes first)
      (tree_depth first)) (AreSound (parameter_counts around.callees) (length locals)
      (tree first rest)) (expression_sound around words locals first)
      (λ e s. IfOk-bind (all (expressions around locals rest)) _
      (AreSound (parameter_counts around.callees) (length locals) rest)
      (AreSound (parameter_counts around.callees) (length locals) (tree first rest))
      (all_sound around words locals rest)
      (λ es ss. record {
        fit = (s.fits, ss.fit);
        few = omega (arith, s.few, ss.few);
        shallow = omega (arith, s.shallow, ss.shallow);
        count = ap (λ n. 1 + n) ss.count;
      }))

  behind_sound : (around : Around) → AreWords around.symbols → (locals : List Token) (parts : Trees)
      → IfOk (all (drop 1 (expressions around locals parts)))
      (AreSound (parameter_counts around.callees) (length locals) (behind parts))
  behind_sound around words locals no_trees =
      record { fit = tt; few = omega arith; shallow = omega arith; count = refl }
  behind_sound around words locals (tree first rest) = all_sound around words locals rest

  pub one_sound : (around : Around) → AreWords around.symbols
      → (locals : List Token) (place : ℕ) (parts : Trees)
      → IfOk (one place (expressions around locals parts))
      (Sound (parameter_counts around.callees) (length locals) (trees_nodes parts)
      (trees_depth parts))
  one_sound around words locals place no_trees = tt
  one_sound around words locals place (tree t no_trees) =
      IfOk-weaker (expression around locals t)
      (Sound (parameter_counts around.callees) (length locals) (tree_nodes t) (tree_depth t))
      (Sound (parameter_counts around.callees) (length locals) (trees_nodes (tree t no_trees))
      (trees_depth (tree t no_trees))) (expression_sound around words locals t)
      (λ e s. record {
        fits = s.fits;
        few = omega (arith, s.few);
        shallow = omega (arith, s.shallow);
      })
  one_sound around words locals place (tree t (tree u parts)) = tt

  pub two_sound : (around : Around) → AreWords around.symbols
      → (locals : List Token) (place : ℕ) (parts : Trees)
      → IfOk (two place (expressions around locals parts))
      (BothSound (parameter_counts around.callees) (length locals) parts)
  two_sound around words locals place no_trees = tt
  two_sound around words locals place (tree t no_trees) = tt
  two_sound around words locals place (tree t (tree u no_trees)) =
      IfOk-bind (expression around locals t) _
      (Sound (parameter_counts around.callees) (length locals) (tree_nodes t) (tree_depth t))
      (BothSound (parameter_counts around.callees) (length locals) (tree t (tree u no_trees)))
      (expression_sound around words locals t)
      (λ a s. IfOk-bind (expression around locals u) _
      (Sound (parameter_counts around.callees) (length locals) (tree_nodes u) (tree_depth u))
      (BothSound (parameter_counts around.callees) (length locals) (tree t (tree u no_trees)))
      (expression_sound around words locals u)
      (λ b v. record {
        first = s.fits;
        second = v.fits;
        few = omega (arith, s.few, v.few);
        shallow = omega (arith, s.shallow, v.shallow);
      }))
  two_sound around words locals place (tree t (tree u (tree v parts))) = tt
