-- How a run comes to its end.
use Rattle.std.proofs.Common.{◌≡◌, ℕ, suc, ◌+◌, ◌<◌, ◌≤◌, true, false, refl, sym, ap, ◌∙◌, subst, arith, below_more, ⊎_elim}
use Rattle.std.proofs.lemmas.Bool.{cases_lt}
use Rattle.sl_model.specs.Pages.{Pages}
use Rattle.sl_model.specs.State.{State}
use Rattle.sl_model.specs.Step.{Next, Stepped as SteppedTo, Called, Trapped, step}
use Rattle.sl_model.specs.Runs.{steps, next_state, ends_at, is_end, EndsAfter}
use Rattle.sl_model.proofs.RunsLaws.{steps-suc, steps-go_on}
use Rattle.rv_machine.specs.Machine.{state_of, WentOn}
use Rattle.rv_machine.specs.declared.machine.Machine.{Machine}
use Rattle.rv_machine.specs.declared.machine.Outcome.{Outcome}
use Rattle.rv_machine.specs.declared.machine.Outcome.TheVariants.{Stepped, Call, Trap}
use Rattle.undo_isolation.specs.Run.{CameTo, NoEndBefore}

-- a run that has not ended yet goes on from there
no_later : (count k : ℕ) (start : State) → EndsAfter count start → NoEndBefore k start → k ≤ count
no_later count k start ends none = ⊎_elim
    (λ (below : count < k).
    let over : is_end (steps count start) ≡ true = ends.end in
    let open_ : is_end (steps count start) ≡ false = none count below in
    absurd cc)
    (λ (from : k ≤ count). from)
    (cases_lt count k)

-- where a run comes to an instruction that is not done, it is at its end
pub end-here : (count k : ℕ) (start now : State) (counted counted_now : ℕ) → EndsAfter count start → NoEndBefore k start → CameTo k start now counted counted_now
    → ((t : State) → step now ≡ SteppedTo t → ⊥) → CameTo count start now counted counted_now
end-here count k start now counted counted_now ends none came still =
    let from : k ≤ count = no_later count k start ends none in
    ⊎_elim
    (λ (below : k < count). absurd (still (steps (suc k) start) (ap step came.state ∙ steps-go_on count k start ends below)))
    (λ (to : count ≤ k).
    let same : k ≡ count = omega arith in
    subst (λ n. CameTo n start now counted counted_now) same came)
    (cases_lt k count)

-- a step that is not done changes nothing
pub stands : (next : Next) (m : Machine) (pages : Pages) (outcome : Outcome) (m' : Machine) (pages' : Pages) → (outcome ≡ Stepped → ⊥) → WentOn next m pages outcome m' pages'
    → (state_of m' pages' ≡ state_of m pages) × ((t : State) → next ≡ SteppedTo t → ⊥)
stands next m pages Stepped m' pages' not went = absurd (not refl)
stands next m pages Call m' pages' not went = (ap (λ n. state_of n pages') went.1 ∙ ap (state_of m) went.2, λ t stepped. absurd (let called : next ≡ Called = went.0 in cc))
stands next m pages (Trap number) m' pages' not went = (ap (λ n. state_of n pages') went.1 ∙ ap (state_of m) went.2, λ t stepped. absurd (let trapped : next ≡ Trapped number = went.0 in cc))

-- a step that is done goes on
pub goes : (next : Next) (m : Machine) (pages : Pages) (outcome : Outcome) (m' : Machine) (pages' : Pages) → outcome ≡ Stepped → WentOn next m pages outcome m' pages' → next ≡ SteppedTo (state_of m' pages')
goes next m pages outcome m' pages' is went = subst (λ o. WentOn next m pages o m' pages') is went

pub CameTo-suc : (k : ℕ) (start now then : State) (counted counted_now counted_then : ℕ) → CameTo k start now counted counted_now → step now ≡ SteppedTo then → counted_then ≡ counted_now + 1
    → CameTo (k + 1) start then counted counted_then
CameTo-suc k start now then counted counted_now counted_then came stepped one_more =
    let same : k + 1 ≡ suc k = omega arith in
    let stepped_to : step (steps k start) ≡ SteppedTo then = ap step (sym came.state) ∙ stepped in
    let further : steps (suc k) start ≡ then = steps-suc k start ∙ ap (next_state (steps k start)) stepped_to in
    let total = came.steps in
    record { state = rw same (sym further); steps = omega arith }

pub NoEndBefore-suc : (k : ℕ) (start now then : State) → NoEndBefore k start → now ≡ steps k start → step now ≡ SteppedTo then → NoEndBefore (k + 1) start
NoEndBefore-suc k start now then none at stepped =
    let here : is_end (steps k start) ≡ false = ap is_end (sym at) ∙ ap ends_at stepped in
    below_more _ _ none here
