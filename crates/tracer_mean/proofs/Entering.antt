-- What the call of a function comes to.
use Rattle.std.proofs.Common.{◌≡◌, ◌≢◌, ℕ, zero, suc, ◌-◌, ◌≤◌, List, ◌++◌, length, replicate, take, false, refl, arith, ◌∙◌}
use Rattle.std.specs.Prelude.{◌==◌}
use Rattle.std.proofs.lemmas.Bool.Decides.{nat_tests}
use Rattle.std.specs.Prelude.{slice_index_or}
use Rattle.std.proofs.lemmas.List.{take_all}
use Rattle.std.proofs.Math.ListN.{length-append, length-replicate}
use Rattle.sl_model.specs.State.{State}
use Rattle.tracer_lang.specs.declared.record.TracerEnd.{TracerEnd}
use Rattle.tracer_lang.specs.declared.record.TracerEnd.TheVariants.{TooDeep, OverBudget}
use Rattle.tracer_lang.specs.Tree.{FunctionTree}
use Rattle.tracer_lang.specs.Meaning.{Now, Outcome, Goes, Returned as returned, Ended, statements_meaning, no_function, opening_locals, left_with, entering}

not_zero : (n : ℕ) → n ≢ 0 → (n == 0) ≡ false
not_zero n some = grind (arith, nat_tests)

-- as many calls are open as may be
pub too_deep : (s : State) (functions : List FunctionTree) (left f : ℕ) (values : List ℕ)
    (now : Now)
    → left ≡ 0 → entering s functions left f values now ≡ Ended TooDeep now
unfolding entering
too_deep s functions left f values now none = rw none refl

-- no unit is left
pub over_budget : (s : State) (functions : List FunctionTree) (left f : ℕ) (values : List ℕ)
    (now : Now) → left ≢ 0 → now.units ≡ 0
    → entering s functions left f values now ≡ Ended OverBudget now
unfolding entering
over_budget s functions zero f values now some none = absurd (some refl)
over_budget s functions (suc n) f values now some none = rw none refl

-- the body is done with a unit less
entered_at : (s : State) (functions : List FunctionTree) (n f : ℕ) (values : List ℕ)
    (now : Now) (g : FunctionTree) → now.units ≢ 0
    → slice_index_or functions f no_function ≡ g
    → entering s functions (suc n) f values now
    ≡ left_with now.locals (statements_meaning s (entering s functions n) g.body
    (record now { units = now.units - 1; locals = opening_locals g.locals values }))
unfolding entering
entered_at s functions n f values now g units named = rw (not_zero now.units units, named) refl

-- the locals of a body at its start, as the code fills them up
pub filled : (values items : List ℕ) (locals len : ℕ) → len ≡ length values → len ≤ locals
    → items ≡ take locals values ++ replicate (locals - len) 0
    → items ≡ opening_locals locals values
filled values items locals len long few is =
    is ∙ rw (take_all locals values (omega arith), long) refl

-- the same with the locals as the code fills them up
pub entered : (s : State) (functions : List FunctionTree) (left f : ℕ) (values items : List ℕ)
    (len : ℕ) (now : Now) (g : FunctionTree) → left ≢ 0 → now.units ≢ 0
    → slice_index_or functions f no_function ≡ g → len ≡ length values → len ≤ g.locals
    → items ≡ take g.locals values ++ replicate (g.locals - len) 0
    → entering s functions left f values now
    ≡ left_with now.locals (statements_meaning s (entering s functions (left - 1)) g.body
    (record now { units = now.units - 1; locals = items }))
entered s functions zero f values items len now g some units named long few is =
    absurd (some refl)
entered s functions (suc n) f values items len now g some units named long few is =
    let less : suc n - 1 ≡ n = omega arith in
    entered_at s functions n f values now g units named
    ∙ rw (filled values items g.locals len long few is, less) refl

-- the body ends, or returns
pub left_goes : (locals : List ℕ) (o : Outcome) (value : ℕ) (now : Now)
    → o ≡ Goes value now → left_with locals o ≡ Goes 0 (record now { locals = locals })
left_goes locals o value now is = rw is refl

pub left_returned : (locals : List ℕ) (o : Outcome) (value : ℕ) (now : Now)
    → o ≡ returned value now → left_with locals o ≡ Goes value (record now { locals = locals })
left_returned locals o value now is = rw is refl

-- the tracer ends in the body
pub left_ended : (locals : List ℕ) (o : Outcome) (end : TracerEnd) (now : Now)
    → o ≡ Ended end now → left_with locals o ≡ Ended end now
left_ended locals o end now is = rw is refl

pub length-opening : (locals : ℕ) (values : List ℕ) → length values ≤ locals
    → length (opening_locals locals values) ≡ locals
length-opening locals values few =
    rw (length-append values, length-replicate) (omega arith)

pub ruleset enter_laws = (too_deep, over_budget)
