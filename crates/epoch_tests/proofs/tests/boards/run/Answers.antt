use Rattle.std.proofs.Common.{◌≡◌, subst, arith}
use Rattle.epoch_board.specs.Rule.{times}
use Rattle.epoch_tests.proofs.tests.boards.run.Goals as goal

pub returns-clause-once : goal.returns-clause-once
returns-clause-once g c = λ k below.
    let done = c.in_ok-done.ensures in
    subst (λ claims. times k claims ≡ 1) done.3 (c.close.ensures.whole done.2 k (omega (arith, c.in_ok-board.ensures.board.0)))
