use Rattle.std.proofs.Common.{◌≡◌, ap, sym, ◌∙◌, None, arith, take, subst}
use Rattle.std.specs.Prelude.{Option, ℕ, IfSome, ◌<◌}
use Rattle.sl_model.specs.declared.layout.TheConstants.{PROGRAM_PAGES}
use Rattle.rec_format.specs.Recorded.{end_place, listed_to}
use Rattle.rec_format.proofs.Listed.{all_listed_to}
use Rattle.checkpoints.specs.Memory.{missing_from}
use Rattle.checkpoints.proofs.Listings.{first_listed}
use Rattle.checkpoints.proofs.Missing.{missing_below}
use Rattle.checkpoints.proofs.kept.Checkpoints.least_missing.Goals as goal

pub returns-clause-least : goal.returns-clause-least
returns-clause-least c =
    let rec = c.args.self.now.rec in
    let all = listed_to rec (end_place rec) in
    let at : c.loop-index.index ≡ c.count_to-index-end.result = omega arith in
    c.loop-index.invariant ∙ ap (λ n. missing_from c.args.f.now.pages None (take n all)) (at ∙ c.count_to-index-end.ensures.count)
    ∙ ap (missing_from c.args.f.now.pages None) (first_listed rec c.args.k (end_place rec) c.requires (omega arith))

pub returns-clause-below : goal.returns-clause-below
returns-clause-below c =
    let rec = c.args.self.now.rec in
    subst (λ (o : Option ℕ). IfSome o (λ page. page < PROGRAM_PAGES)) (sym (returns-clause-least c))
    (missing_below c.args.f.now.pages None (listed_to rec c.args.k) tt (all_listed_to rec c.args.k c.args.self.now.is_value))
