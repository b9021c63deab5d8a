use Rattle.std.proofs.Common.{◌≡◌, ℕ, Some, None, sym, ap, ◌∙◌}
use Rattle.std.specs.Prelude.{Option}
use Rattle.std.specs.Option.{option_eq}
use Rattle.std.proofs.Common.{eqb, true, false}
use Rattle.std.proofs.lemmas.Bool.{eqb-true, eq-eqb}
use Rattle.tracepoints.proofs.Chains.{past_here, past_other}
use Rattle.tracepoints.proofs.points.Points.past.Goals as goal

-- what the comparison says
is_there : (at : Option ℕ) (i : ℕ) → option_eq eqb at (Some i) ≡ true → at ≡ Some i
is_there None i is = absurd cc
is_there (Some n) i is = ap Some (eqb-true n i is)

is_elsewhere : (at : Option ℕ) (i : ℕ) → option_eq eqb at (Some i) ≡ false → at ≡ Some i → ⊥
is_elsewhere None i is e = absurd cc
is_elsewhere (Some n) i is e =
    let same : n ≡ i = cc in
    let yes = eq-eqb n i same in
    absurd cc

pub returns-then-eq : goal.returns-then-eq
returns-then-eq c = λ chain stands.
    let chains = rw c.self.view_is at c.self.invariant.chains in
    past_here c.args.self.now c.self.inside.heads c.self.inside.next c.args.index chain c.args.at
    chains c.requires stands (is_there c.args.at c.args.index (sym c.eq.ensures ∙ c.if-eq.true))

pub returns-else-eq : goal.returns-else-eq
returns-else-eq c = λ chain stands.
    past_other c.args.self.now c.args.index chain c.args.at c.requires stands
    (is_elsewhere c.args.at c.args.index (sym c.eq.ensures ∙ c.if-eq.false))
