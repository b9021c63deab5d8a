use Rattle.std.proofs.Common.{◌≡◌, ⊎_elim, arith, true, take, subst}
use Rattle.rec_format.specs.Recorded.{is_listed}
use Rattle.checkpoints.specs.Memory.{IsCompared}
use Rattle.checkpoints.proofs.Compared.{listed_more}
use Rattle.checkpoints.proofs.kept.Checkpoints.unlike_listed.Goals as goal

pub loop-listing-preserved : goal.loop-listing-preserved
loop-listing-preserved c =
    let kept = c.loop-listing.invariant in
    let compared = IsCompared c.args.self.now.opening.pages c.args.self.now.rec c.args.k c.args.f.now.pages c.compare_page-least.result in
    record {
      told = c.compare_page-least.ensures.told;
      keeps = λ q known. c.compare_page-least.ensures.keeps q (kept.keeps q known);
      listed = λ q is. ⊎_elim
          (λ (before : is_listed (take c.loop-listing.listing-index c.as_slice-listing-items.result.now) q ≡ true).
          c.compare_page-least.ensures.keeps q (kept.listed q before))
          (λ (here : c.listing-item.result.number ≡ q). subst compared here c.compare_page-least.ensures.here)
          (listed_more c.as_slice-listing-items.result.now c.loop-listing.listing-index q c.listing-item.result
          (omega arith) c.listing-item.is is);
    }
