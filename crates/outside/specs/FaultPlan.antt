-- Faults that are planned, by the numbers of the calls that are to fail.
use Rattle.std.specs.Prelude.{ℕ, ◌+◌, ◌-◌, ◌^◌, min, Bool, List, ◌==◌, if◌then◌else◌, refl}
use Rattle.std.specs.List.{list_any}
use Rattle.std.specs.Coded.{Coded, code_by, coded×, coded_list, coded_ℕ}

pub record FaultPlan : Type 0 where
  -- the numbers of the calls that are to fail, where the first call is 1
  pub failing : List ℕ
  -- how many calls there were
  pub calls : ℕ
  -- how many of them failed
  pub faults : ℕ

-- the calls with these numbers are to fail, and there was none yet
abbrev pub new_plan : List ℕ → FaultPlan
new_plan failing = record { failing = failing; calls = 0; faults = 0 }

-- one more, up to the end of a u64
abbrev pub one_more : ℕ → ℕ
one_more n = min (n + 1) (2 ^ 64 - 1)

-- is the next call to fail
abbrev pub fails_next : FaultPlan → Bool
fails_next plan = list_any (λ number. number == one_more plan.calls) plan.failing

-- after a call that failed, or didn't
abbrev pub counted : FaultPlan → Bool → FaultPlan
counted plan failed = record plan {
  calls = one_more plan.calls;
  faults = (if failed then one_more plan.faults else plan.faults);
}

-- a plan is kept as the tuple of its parts
abbrev pub plan_code : Coded FaultPlan
plan_code =
    code_by (List ℕ × (ℕ × ℕ)) (coded× (coded_list coded_ℕ) (coded× coded_ℕ coded_ℕ))
    (λ plan. (plan.failing, (plan.calls, plan.faults)))
    (λ p. record { failing = p.0; calls = p.1.0; faults = p.1.1 })
    (λ _. refl)
