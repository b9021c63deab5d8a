use Rattle.std.proofs.Common.{ℕ, ap, sym, ◌∙◌, length}
use Rattle.std.proofs.lemmas.List.{length-replicate}
use Rattle.sl_model.specs.Mapping.{zero_page}
use Rattle.rec_format.specs.Recorded.{listed_to}
use Rattle.rec_format.proofs.Listed.{all_listed_to, length-last_listing}
use Rattle.checkpoints.proofs.kept.Checkpoints.page_at.Goals as goal

pub returns-in-Some-clause-whole : goal.returns-in-Some-clause-whole
returns-in-Some-clause-whole c =
    let self = c.args.self.now in
    let whole = length-last_listing zero_page (listed_to self.rec c.args.k) c.args.page (length-replicate {A = ℕ} 4096 0) (all_listed_to self.rec c.args.k self.is_value) in
    ap length (sym (c.in-Some.ensures zero_page)) ∙ whole
