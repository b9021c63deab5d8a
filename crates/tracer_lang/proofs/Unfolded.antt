-- A loop, as it reads.
use Rattle.std.proofs.Common.{◌≡◌, ℕ, zero, suc, ◌+◌, ◌-◌, ◌≤◌, ◌≢◌, Bool, true, false, cond, eqb, List, refl, sym, ap, ◌∙◌, inl, inr, arith}
use Rattle.std.specs.Prelude.{◌==◌}
use Rattle.std.proofs.lemmas.Bool.{cases_eq, eq-eqb, ne_eqb}
use Rattle.sl_model.specs.State.{State}
use Rattle.tracer_lang.specs.declared.record.TracerEnd.TheVariants.{OverBudget}
use Rattle.tracer_lang.specs.Tree.{Expression, while, Statements, FunctionTree}
use Rattle.tracer_lang.specs.Meaning.{Now, Outcome, Goes, Returned, Ended, then_do, choose, with_unit, Enter, expression_meaning, turns, statement_meaning, statements_meaning, entering}
use Rattle.tracer_lang.specs.Loops.{loop_again}
use Rattle.tracer_lang.proofs.Units.{left, NoGain, expression_no_gain, statements_no_gain, entering_no_gain}

-- what follows is the same from wherever so many units are left at most
same_after : (n : ℕ) (o : Outcome) (f g : ℕ → Now → Outcome) → left o ≤ n
    → ((value : ℕ) (now : Now) → now.units ≤ n → f value now ≡ g value now)
    → then_do o f ≡ then_do o g
same_after n (Goes value now) f g few each = each value now few
same_after n (Returned value now) f g few each = refl
same_after n (Ended end now) f g few each = refl

same_choice : (c : ℕ) (f g second : Now → Outcome) (now : Now) → f now ≡ g now
    → choose c f second now ≡ choose c g second now
same_choice zero f g second now is = refl
same_choice (suc n) f g second now is = is

spent : (f : Now → Outcome) (now : Now) → now.units ≤ 0 → Ended OverBudget now ≡ with_unit f now
spent f now few =
    let none : now.units ≡ 0 = omega (arith, few) in
    ap (λ (b : Bool). cond b (Ended OverBudget now) (f (record now { units = now.units - 1 })))
    (sym (eq-eqb now.units 0 none))

same_unit : (f g : Now → Outcome) (now : Now)
    → (now.units ≢ 0 → f (record now { units = now.units - 1 }) ≡ g (record now { units = now.units - 1 }))
    → with_unit f now ≡ with_unit g now
same_unit f g now is = elim (cases_eq now.units 0) [
  | inl none ↦
      ap (λ (b : Bool). cond b (Ended OverBudget now) (f (record now { units = now.units - 1 })))
      (eq-eqb now.units 0 none)
      ∙ ap (λ (b : Bool). cond b (Ended OverBudget now) (g (record now { units = now.units - 1 })))
      (sym (eq-eqb now.units 0 none))
  | inr some ↦
      ap (λ (b : Bool). cond b (Ended OverBudget now) (f (record now { units = now.units - 1 })))
      (ne_eqb now.units 0 some)
      ∙ is some
      ∙ ap (λ (b : Bool). cond b (Ended OverBudget now) (g (record now { units = now.units - 1 })))
      (sym (ne_eqb now.units 0 some))
]

module _ (condition body : Now → Outcome) (first : NoGain condition) (second : NoGain body) where
  -- where no unit is left, nothing that a unit would be taken for is done
  none_left : (f : Now → Outcome) (now : Now) → now.units ≤ 0
      → turns condition body zero now
      ≡ then_do (condition now) (λ c. choose c (with_unit f) (Goes 0))
  unfolding turns
  none_left f now few =
      same_after now.units (condition now) (λ c. choose c (Ended OverBudget) (Goes 0))
      (λ c. choose c (with_unit f) (Goes 0)) (first now)
      (λ c t less. same_choice c (Ended OverBudget) (with_unit f) (Goes 0) t
      (spent f t (omega (arith, less, few))))

  -- one turn, with what comes after it
  one_turn : (n most : ℕ) (f : Now → Outcome) (now : Now) → now.units ≤ most + 1
      → ((t : Now) → t.units ≤ most → turns condition body n t ≡ f t)
      → turns condition body (suc n) now
      ≡ then_do (condition now) (λ c. choose c (with_unit (λ t. then_do (body t) (λ _. f))) (Goes 0))
  unfolding turns
  one_turn n most f now few each =
      same_after now.units (condition now)
      (λ c. choose c (with_unit (λ t. then_do (body t) (λ _. turns condition body n))) (Goes 0))
      (λ c. choose c (with_unit (λ t. then_do (body t) (λ _. f))) (Goes 0)) (first now)
      (λ c t less. same_choice c (with_unit (λ u. then_do (body u) (λ _. turns condition body n)))
      (with_unit (λ u. then_do (body u) (λ _. f))) (Goes 0) t
      (same_unit (λ u. then_do (body u) (λ _. turns condition body n)) (λ u. then_do (body u) (λ _. f))
      t (λ some.
      let u : Now = record t { units = t.units - 1 } in
      same_after most (body u) (λ _. turns condition body n) (λ _. f)
      (let fewer = second u in omega (arith, fewer, less, few, some)) (λ _. each))))

  -- that the turns are counted makes no difference, where there are as many as units
  same_turns : (n m : ℕ) (now : Now) → now.units ≤ n → now.units ≤ m
      → turns condition body n now ≡ turns condition body m now
  unfolding turns
  same_turns zero zero now a b = refl
  same_turns zero (suc m) now a b =
      none_left (λ t. then_do (body t) (λ _. turns condition body m)) now a
  same_turns (suc n) zero now a b =
      sym (none_left (λ t. then_do (body t) (λ _. turns condition body n)) now b)
  same_turns (suc n) (suc m) now a b =
      one_turn n (now.units - 1) (turns condition body m) now (omega arith)
      (λ t few. same_turns n m t (omega (arith, few, a)) (omega (arith, few, b)))

  -- the loop again, with as many turns as there are units then
  pub turns_again : (n : ℕ) (now : Now) → now.units ≤ n
      → turns condition body n now
      ≡ then_do (condition now) (λ c.
      choose c (with_unit (λ t. then_do (body t) (λ _ u. turns condition body u.units u))) (Goes 0))
  turns_again zero now few =
      none_left (λ t. then_do (body t) (λ _ u. turns condition body u.units u)) now few
  turns_again (suc n) now few =
      one_turn n n (λ u. turns condition body u.units u) now (omega (arith, few))
      (λ t less. same_turns n t.units t less (omega arith))

pub loops_unfold : (s : State) (functions : List FunctionTree) (calls : ℕ) (condition : Expression)
    (body : Statements) (now : Now)
    → statement_meaning s (entering s functions calls) (while condition body) now
    ≡ loop_again s (entering s functions calls) condition body now
unfolding statement_meaning
loops_unfold s functions calls condition body now =
    let enter = entering s functions calls in
    let never = entering_no_gain s functions calls in
    turns_again (expression_meaning s enter condition) (statements_meaning s enter body)
    (expression_no_gain s enter never condition) (statements_no_gain s enter never body) now.units now
    (omega arith)
