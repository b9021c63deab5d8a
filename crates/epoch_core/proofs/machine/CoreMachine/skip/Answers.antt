use Rattle.std.proofs.Common.{◌≡◌, true, false, ltb, Some, None, refl, sym, ap, ◌∙◌}
use Rattle.std.proofs.lemmas.Bool.{lt-ltb, le-ltb}
use Rattle.epoch_core.specs.Schedule.{CoreState}
use Rattle.epoch_core.proofs.Steps.{skip_is}
use Rattle.epoch_core.proofs.machine.CoreMachine.skip.Goals as goal

pub returns-in_default-clause-ok : goal.returns-in_default-clause-ok
returns-in_default-clause-ok c = sym (skip_is c.args.self.now c.args.worker None c.args.self.now.low (sym c.held.ensures ∙ c.in_default.is) refl)

pub returns-in_default-low-clause-ok : goal.returns-in_default-low-clause-ok
returns-in_default-low-clause-ok c =
    let low : c.args.self.now.low ≡ None = sym (ap (λ (core : CoreState). core.low) c.self.view_is) ∙ c.in_default-low.is in
    sym (skip_is c.args.self.now c.args.worker (Some c.in-Some.epoch) None (sym c.held.ensures ∙ c.in-Some.is) low)

pub returns-in_ok-put-clause-ok : goal.returns-in_ok-put-clause-ok
returns-in_ok-put-clause-ok c =
    let low : c.args.self.now.low ≡ Some c.in-Some-low.below = sym (ap (λ (core : CoreState). core.low) c.self.view_is) ∙ c.in-Some-low.is in
    let less : ltb c.in-Some-low.below c.in-Some.epoch ≡ true = lt-ltb c.in-Some-low.below c.in-Some.epoch c.if-below-epoch.true in
    rw (skip_is c.args.self.now c.args.worker (Some c.in-Some.epoch) (Some c.in-Some-low.below) (sym c.held.ensures ∙ c.in-Some.is) low, less) c.in_ok-put.ensures.ok

pub returns-else-below-epoch-clause-ok : goal.returns-else-below-epoch-clause-ok
returns-else-below-epoch-clause-ok c =
    let low : c.args.self.now.low ≡ Some c.in-Some-low.below = sym (ap (λ (core : CoreState). core.low) c.self.view_is) ∙ c.in-Some-low.is in
    let more : ltb c.in-Some-low.below c.in-Some.epoch ≡ false = le-ltb c.in-Some-low.below c.in-Some.epoch c.if-below-epoch.false in
    rw (skip_is c.args.self.now c.args.worker (Some c.in-Some.epoch) (Some c.in-Some-low.below) (sym c.held.ensures ∙ c.in-Some.is) low, more) refl
