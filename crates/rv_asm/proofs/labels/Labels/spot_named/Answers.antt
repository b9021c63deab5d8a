use Rattle.std.proofs.Common.{sym, ◌∙◌, subst, ◌<◌, ◌^◌}
use Rattle.std.specs.Prelude.{Option, IfSome}
use Rattle.rv_asm.specs.declared.place.Spot.{Spot}
use Rattle.rv_asm.proofs.LabelLaws.{spot_named-near}
use Rattle.rv_asm.proofs.labels.Labels.spot_named.Goals as goal

pub returns-clause-near : goal.returns-clause-near
returns-clause-near c =
    let P : Option Spot → Type 0 = λ o. IfSome o (λ spot. spot.offset < 2 ^ 62) in
    subst P (sym (c.copied.ensures ∙ c.get.ensures.value ∙ c.self.invariant.index c.args.name.now)) (spot_named-near c.args.name.now c.self.inside.all.items c.self.invariant.near)
