-- Runs that keep a promise: one after the other, what they are as steps of the machine, and what
-- configurations they lead to.
use Rattle.std.proofs.Common.{◌≡◌, ℕ, zero, suc, ◌+◌, ◌-◌, ◌<◌, ◌≤◌, refl, ap, ◌∙◌, sym, subst, arith}
use Rattle.sl_model.specs.State.{State}
use Rattle.sl_model.specs.Step.{Stepped, step}
use Rattle.sl_model.specs.Runs.{next_state, steps}
use Rattle.word_blocks.specs.Configuration.{Configuration, IsAt}
use Rattle.word_blocks.specs.Ways.{Promise, Keeps, Comes, Arrives, Leads}

-- ---- runs

-- one run after another
pub Comes-then : (p : Promise) (m n : ℕ) (s t u : State) → Comes p m s t → Comes p n t u → Comes p (m + n) s u
Comes-then p zero n s t u first second =
    let none : n ≡ 0 + n = omega arith in
    subst (λ k. Comes p k s u) none (subst (λ r. Comes p n r u) (sym first) second)
Comes-then p (suc m) n s t u first second =
    let one_more : suc (m + n) ≡ suc m + n = omega arith in
    let rest = Comes-then p m n first.1 t u first.3 second in
    subst (λ k. Comes p k s u) one_more (first.0, first.1, first.2, rest)

-- a single step
pub Comes-step : (p : Promise) (s t : State) → Keeps p s → step s ≡ Stepped t → Comes p 1 s t
Comes-step p s t keeps led = (keeps, t, led, refl)

-- a run is so many steps
pub Comes-steps : (p : Promise) (n : ℕ) (s t : State) → Comes p n s t → steps n s ≡ t
unfolding steps
Comes-steps p zero s t way = way
Comes-steps p (suc n) s t way = ap (λ next. steps n (next_state s next)) way.2 ∙ Comes-steps p n way.1 t way.3

-- the promise is kept before each step, which leads to the next state
pub Comes-keeps : (p : Promise) (n : ℕ) (s t : State) → Comes p n s t → (k : ℕ) → k < n → Keeps p (steps k s) × (step (steps k s) ≡ Stepped (steps (suc k) s))
unfolding steps
Comes-keeps p zero s t way k below = absurd (omega arith)
Comes-keeps p (suc n) s t way zero below = (way.0, way.2 ∙ ap Stepped (sym (ap (next_state s) way.2)))
Comes-keeps p (suc n) s t way (suc k) below =
    let led : next_state s (step s) ≡ way.1 = ap (next_state s) way.2 in
    let rest = Comes-keeps p n way.1 t way.3 k (omega arith) in
    subst (λ u. Keeps p (steps k u) × (step (steps k u) ≡ Stepped (steps (suc k) u))) (sym led) rest

-- ---- configurations

module _ (p : Promise) where
  -- nothing more is to be done
  pub Leads-stay : (limit : ℕ) (c : Configuration) (goal : ℕ → Configuration → Type 0) → goal limit c → Leads p limit c goal
  Leads-stay limit c goal reached s is = record {
    steps = 0;
    left = limit;
    counted = omega arith;
    state = s;
    comes = refl;
    configuration = c;
    is_at = is;
    reached = reached;
  }

  -- one way after another
  pub Leads-then : (limit : ℕ) (c : Configuration) (middle goal : ℕ → Configuration → Type 0) → Leads p limit c middle → ((left : ℕ) (d : Configuration) → middle left d → Leads p left d goal) → Leads p limit c goal
  Leads-then limit c middle goal first second s is =
      let half : Arrives p limit middle s = first s is in
      let whole : Arrives p half.left goal half.state = second half.left half.configuration half.reached half.state half.is_at in
      record {
        steps = half.steps + whole.steps;
        left = whole.left;
        counted = omega (arith, half.counted, whole.counted);
        state = whole.state;
        comes = Comes-then p half.steps whole.steps s half.state whole.state half.comes whole.comes;
        configuration = whole.configuration;
        is_at = whole.is_at;
        reached = whole.reached;
      }

  -- what is reached says more than is wanted
  pub Leads-map : (limit : ℕ) (c : Configuration) (strong goal : ℕ → Configuration → Type 0) → Leads p limit c strong → ((left : ℕ) (d : Configuration) → strong left d → goal left d) → Leads p limit c goal
  Leads-map limit c strong goal way weaker = Leads-then limit c strong goal way (λ left d reached. Leads-stay left d goal (weaker left d reached))

  -- a step as the beginning of a way
  pub Leads-step : (limit : ℕ) (c d : Configuration) (goal : ℕ → Configuration → Type 0) → 1 ≤ limit
      → ((s : State) → IsAt p.start c s → Keeps p s) → ((s : State) → IsAt p.start c s → (t : State) × (step s ≡ Stepped t) × IsAt p.start d t)
      → ((left : ℕ) → left + 1 ≡ limit → Leads p left d goal) → Leads p limit c goal
  Leads-step limit c d goal enough keeps leads further s is =
      let next = leads s is in
      let whole : Arrives p (limit - 1) goal next.0 = further (limit - 1) (omega arith) next.0 next.2 in
      record {
        steps = suc whole.steps;
        left = whole.left;
        counted = omega (arith, whole.counted);
        state = whole.state;
        comes = (keeps s is, next.0, next.1, whole.comes);
        configuration = whole.configuration;
        is_at = whole.is_at;
        reached = whole.reached;
      }
