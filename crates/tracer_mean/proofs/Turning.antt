-- One turn of a loop.
use Rattle.std.proofs.Common.{◌≡◌, ◌≢◌, ℕ, zero, suc, ◌-◌, ◌≤◌, false, refl, arith, ◌∙◌}
use Rattle.std.specs.Prelude.{◌==◌}
use Rattle.std.proofs.lemmas.Bool.Decides.{nat_tests}
use Rattle.tracer_lang.specs.declared.record.TracerEnd.TheVariants.{OverBudget}
use Rattle.tracer_lang.specs.Meaning.{Now, Outcome, Goes, Ended, then_do, choose, turns}
use Rattle.tracer_mean.specs.declared.progress.Halt.{Halt}
use Rattle.tracer_mean.specs.Evaluated.{HaltsAt}
use Rattle.tracer_mean.proofs.Halting.{passed_on, halts_as, passed_from}

not_zero : (n : ℕ) → n ≢ 0 → (n == 0) ≡ false
not_zero n some = grind (arith, nat_tests)

-- the first of two is chosen
chosen : (c : ℕ) (first second : Now → Outcome) (now : Now) → c ≢ 0
    → choose c first second now ≡ first now
chosen zero first second now some = absurd (some refl)
chosen (suc c) first second now some = refl

-- In the following laws `whole` is what a loop comes to from its start on.

-- the condition is 0
pub turns_end : (condition body : Now → Outcome) (whole : Outcome) (n c : ℕ) (now after : Now)
    → whole ≡ turns condition body n now → condition now ≡ Goes c after → c ≡ 0
    → whole ≡ Goes 0 after
unfolding turns
turns_end condition body whole zero c now after same e none = same ∙ rw (e, none) refl
turns_end condition body whole (suc n) c now after same e none = same ∙ rw (e, none) refl

-- the condition goes no further
turns_halt_at : (condition body : Now → Outcome) (n : ℕ) (h : Halt) (now after : Now)
    → HaltsAt (condition now) h after → HaltsAt (turns condition body n now) h after
unfolding turns
turns_halt_at condition body zero h now after is = passed_on (condition now) _ h after is
turns_halt_at condition body (suc n) h now after is = passed_on (condition now) _ h after is

pub turns_halt : (condition body : Now → Outcome) (whole : Outcome) (n : ℕ) (h : Halt)
    (now after : Now) → whole ≡ turns condition body n now → HaltsAt (condition now) h after
    → HaltsAt whole h after
turns_halt condition body whole n h now after same is =
    halts_as whole _ h after same (turns_halt_at condition body n h now after is)

-- no unit is left
turns_over_at : (condition body : Now → Outcome) (n c : ℕ) (now after : Now)
    → condition now ≡ Goes c after → c ≢ 0 → after.units ≡ 0
    → turns condition body n now ≡ Ended OverBudget after
unfolding turns
turns_over_at condition body zero c now after e some none =
    rw e (chosen c (Ended OverBudget) (Goes 0) after some)
turns_over_at condition body (suc n) c now after e some none =
    rw e (chosen c _ (Goes 0) after some ∙ rw none refl)

pub turns_over : (condition body : Now → Outcome) (whole : Outcome) (n c : ℕ) (now after : Now)
    → whole ≡ turns condition body n now → condition now ≡ Goes c after → c ≢ 0
    → after.units ≡ 0 → whole ≡ Ended OverBudget after
turns_over condition body whole n c now after same e some none =
    same ∙ turns_over_at condition body n c now after e some none

-- with a unit less, the body comes before the next turn
turns_on_at : (condition body : Now → Outcome) (n c : ℕ) (now after : Now)
    → condition now ≡ Goes c after → c ≢ 0 → after.units ≢ 0 → after.units ≤ n
    → turns condition body n now
    ≡ then_do (body (record after { units = after.units - 1 }))
    (λ _. turns condition body (n - 1))
unfolding turns
turns_on_at condition body zero c now after e some units within = absurd (omega arith)
turns_on_at condition body (suc n) c now after e some units within =
    let less : suc n - 1 ≡ n = omega arith in
    rw (e, less) (chosen c _ (Goes 0) after some ∙ rw (not_zero after.units units) refl)

pub turns_on : (condition body : Now → Outcome) (whole : Outcome) (n c : ℕ)
    (now after turned : Now)
    → whole ≡ turns condition body n now → condition now ≡ Goes c after → c ≢ 0
    → after.units ≢ 0 → after.units ≤ n → turned ≡ record after { units = after.units - 1 }
    → whole ≡ then_do (body turned) (λ _. turns condition body (n - 1))
turns_on condition body whole n c now after turned same e some units within less =
    same ∙ turns_on_at condition body n c now after e some units within
    ∙ rw less refl

-- the body goes no further
pub turns_halt_in : (condition body : Now → Outcome) (whole : Outcome) (n c : ℕ) (h : Halt)
    (now after turned done : Now)
    → whole ≡ turns condition body n now → now.units ≤ n
    → condition now ≡ Goes c after → after.units ≤ now.units → c ≢ 0 → after.units ≢ 0
    → HaltsAt (body turned) h done → turned ≡ record after { units = after.units - 1 }
    → HaltsAt whole h done
turns_halt_in condition body whole n c h now after turned done same enough e kept some units is
    less =
    let within : after.units ≤ n = omega arith in
    passed_from whole (body turned) _ h done
    (turns_on condition body whole n c now after turned same e some units within less) is

-- the body was done
pub turns_more : (condition body : Now → Outcome) (whole : Outcome) (n c : ℕ)
    (now after turned done : Now)
    → whole ≡ turns condition body n now → now.units ≤ n
    → condition now ≡ Goes c after → after.units ≤ now.units → c ≢ 0 → after.units ≢ 0
    → body turned ≡ Goes 0 done → turned ≡ record after { units = after.units - 1 }
    → whole ≡ turns condition body (n - 1) done
turns_more condition body whole n c now after turned done same enough e kept some units is less =
    let within : after.units ≤ n = omega arith in
    turns_on condition body whole n c now after turned same e some units within less ∙ rw is refl

pub ruleset turn_laws = (turns_end, turns_halt, turns_over)
