use Rattle.std.proofs.Common.{arith, ⊎_elim, inl}
use Rattle.machine_tests.proofs.tests.checks.opening_with_data.Goals as goal

pub opening_with-requires-clause-pages : goal.opening_with-requires-clause-pages
opening_with-requires-clause-pages c = λ page some.
    ⊎_elim (λ e. inl (omega arith)) (λ e. inl (omega arith)) (c.in_ok-frames.ensures.pages page some)
