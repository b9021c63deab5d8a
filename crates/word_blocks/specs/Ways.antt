-- Runs of the machine, with what holds of memory at every step on the way, and where their stores
-- lie.
use Rattle.std.specs.Prelude.{◌≡◌, ℕ, zero, suc, ◌+◌, List, IfSome}
use Rattle.sl_model.specs.declared.instr.Instr.{Instr}
use Rattle.sl_model.specs.Pages.{Pages}
use Rattle.sl_model.specs.NextStore.{next_store}
use Rattle.sl_model.specs.State.{State}
use Rattle.sl_model.specs.Step.{Stepped, step}
use Rattle.word_blocks.specs.Configuration.{Configuration, IsAt}
use Rattle.word_blocks.specs.Code.{CodeStands}

-- What is kept at every step while code runs: memory is as it is to be, so that the code stands in
-- it, and the address and the width of a store are such as they may be.
pub record Promise : Type 1 where
  -- the address of the code's first word
  pub start : ℕ
  pub code : List Instr
  pub holds : Pages → Type 0
  pub may_store : Pages → ℕ × ℕ → Type 0
  pub stands : (pages : Pages) → holds pages → CodeStands start code pages

-- a state keeps a promise, before its next step
abbrev pub Keeps : Promise → State → Type 0
Keeps p s = p.holds s.pages × IfSome (next_store s) (p.may_store s.pages)

-- in so many steps from one state to another, with the promise kept before each of them
abbrev pub Comes : Promise → ℕ → State → State → Type 0
Comes p zero s t = s ≡ t
Comes p (suc n) s t = Keeps p s × (u : State) × (step s ≡ Stepped u) × Comes p n u t

-- From a state to one at a configuration that is as it is to be, in at most so many steps, with the
-- promise kept. The goal is told how many steps are left.
pub record Arrives (p : Promise) (limit : ℕ) (goal : ℕ → Configuration → Type 0) (s : State)
    : Type 0 where
  pub steps : ℕ
  pub left : ℕ
  pub counted : steps + left ≡ limit
  pub state : State
  pub comes : Comes p steps s state
  pub configuration : Configuration
  pub is_at : IsAt p.start configuration state
  pub reached : goal left configuration

-- the same from every state at a configuration
abbrev pub Leads : Promise → ℕ → Configuration → (ℕ → Configuration → Type 0) → Type 0
Leads p limit c goal = (s : State) → IsAt p.start c s → Arrives p limit goal s
