use Rattle.std.proofs.Common.{arith, ⊎_elim, inl, inr}
use Rattle.machine_tests.proofs.tests.checks.opening.Goals as goal

pub opening_with-requires-clause-pages : goal.opening_with-requires-clause-pages
opening_with-requires-clause-pages c = λ page some.
    ⊎_elim (λ e. inl (omega arith)) (λ e. inr (omega arith)) (c.in_ok-frames.ensures.pages page some)
