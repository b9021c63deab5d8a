-- What the stores and sinks in memory hold.
use Rattle.std.specs.Prelude.{ℕ, List, refl}
use Rattle.std.specs.Coded.{Coded, code_by, coded×, coded_list, coded_ℕ}
use Rattle.std.specs.FinMap.{code}
use Rattle.outside.specs.FaultPlan.{FaultPlan, plan_code}
use Rattle.outside.specs.Files.{Files}

pub record SinkState : Type 0 where
  -- what was written
  pub bytes : List ℕ
  -- how many bytes there is room for, those that were written among them
  pub room : ℕ
  pub plan : FaultPlan

pub record StoreState : Type 0 where
  pub files : Files
  pub plan : FaultPlan

-- a state of a store is kept as the pair of its parts
abbrev pub store_code : Coded StoreState
store_code =
    code_by (Files × FaultPlan) (coded× (code (coded_list coded_ℕ) (coded_list coded_ℕ)) plan_code)
    (λ store. (store.files, store.plan))
    (λ pair. record { files = pair.0; plan = pair.1 })
    (λ _. refl)
