-- How statements are spelled: which nodes may be written for each, between which locals.
use Rattle.std.specs.Prelude.{◌≡◌, ◌≢◌, ℕ, ◌≤◌, ◌⊎◌, List, [], ◌∷◌, ◌++◌, length, ⊤}
use Rattle.tracer_lang.specs.Tree.{Expression, Statement, emit, set, block, choice, while, store, return, stop, run, Statements, no_statements, statement}
use Rattle.tracer_text.specs.declared.token.Token.{Token}
use Rattle.tracer_text.specs.Nodes.{Tree, Trees}
use Rattle.tracer_read.specs.declared.heads.ValueHead.TheVariants.{Emit, Return, Stop, Run}
use Rattle.tracer_read.specs.declared.heads.StatementHead.{StatementHead}
use Rattle.tracer_read.specs.declared.heads.StatementHead.TheVariants.{Var, Set, Do, If, While, Store, Value}
use Rattle.tracer_read.specs.Heads.{statement_head}
use Rattle.tracer_read.specs.Parts.{spelling}
use Rattle.tracer_read.specs.Expressions.{Around}
use Rattle.tracer_read.specs.Grammar.{IsWord, IsForm, NoPart, FirstPart, OnePart, TwoParts, ThreeParts, IsName, Spells}

-- a word that none of these names is spelled as
abbrev pub IsNew : List ℕ → List Token → Token → Type 0
IsNew text [] word = ⊤
IsNew text (name ∷ names) word =
    (spelling text name ≢ spelling text word) × IsNew text names word

-- a new local behind those before, of which there are at most 16
abbrev pub IsNewLocal : List ℕ → List Token → List Token → Token → Type 0
IsNewLocal text before after word =
    IsNew text before word × (after ≡ before ++ word ∷ []) × (length after ≤ 16)

-- `(var X E)`: a new local, and its value, in which it is there already
abbrev pub Declares : Around → ℕ → Expression → List Token → List Token → Tree → Tree → Type 0
Declares around index value before after name t =
    IsWord around.text (IsNewLocal around.text before after) name
    × (index ≡ length before)
    × Spells around after value t

-- `(set X E)`: a local that is there, and its value
abbrev pub Sets : Around → ℕ → Expression → List Token → Tree → Tree → Type 0
Sets around index value locals name t =
    IsWord around.text (IsName around.text locals index) name × Spells around locals value t

-- a list that begins with the word of a statement
abbrev pub IsStatement : Around → StatementHead → (Trees → Type 0) → Tree → Type 0
IsStatement around what Hold t = IsForm statement_head what around.text Hold t

-- A node spells a statement behind some locals, and after it these locals are there. Each clause
-- says what may be written for its statement, and a comment shows it.
abbrev mutual
  pub SpellsStatement : Around → Statement → Tree → List Token → List Token → Type 0
  -- `(emit E)`
  SpellsStatement around (emit value) t before after =
      IsStatement around (Value Emit) (OnePart (Spells around before value)) t × (after ≡ before)
  -- `(var X E)` or `(set X E)`
  SpellsStatement around (set index value) t before after =
      IsStatement around Var (TwoParts (Declares around index value before after)) t
      ⊎ (IsStatement around Set (TwoParts (Sets around index value before)) t × (after ≡ before))
  -- `(do S S)`
  SpellsStatement around (block body) t before after =
      IsStatement around Do (λ parts. SpellsStatements around body parts before after) t
  -- `(if E S S)`
  SpellsStatement around (choice condition first second) t before after =
      IsStatement around If (ThreeParts (λ a b c.
      (between : List Token)
      × Spells around before condition a
      × SpellsStatement around first b before between
      × SpellsStatement around second c between after
      )) t
  -- `(while E S S)`
  SpellsStatement around (while condition body) t before after =
      IsStatement around While (FirstPart (λ a parts.
      Spells around before condition a × SpellsStatements around body parts before after
      )) t
  -- `(store4 E E)`
  SpellsStatement around (store op address value) t before after =
      IsStatement around (Store op)
      (TwoParts (λ a b. Spells around before address a × Spells around before value b)) t
      × (after ≡ before)
  -- `(return E)`
  SpellsStatement around (return value) t before after =
      IsStatement around (Value Return) (OnePart (Spells around before value)) t × (after ≡ before)
  -- `(stop E)`
  SpellsStatement around (stop value) t before after =
      IsStatement around (Value Stop) (OnePart (Spells around before value)) t × (after ≡ before)
  -- `(run E)`
  SpellsStatement around (run value) t before after =
      IsStatement around (Value Run) (OnePart (Spells around before value)) t × (after ≡ before)

  -- a node for each statement, in order
  pub SpellsStatements : Around → Statements → Trees → List Token → List Token → Type 0
  SpellsStatements around no_statements parts before after = NoPart parts × (after ≡ before)
  SpellsStatements around (statement first rest) parts before after =
      FirstPart (λ t more.
      (between : List Token)
      × SpellsStatement around first t before between
      × SpellsStatements around rest more between after
      ) parts
