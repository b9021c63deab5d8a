use Rattle.std.proofs.Common.{None, sym, ◌∙◌, subst}
use Rattle.sl_model.specs.Pages.{Pages}
use Rattle.rec_format.specs.Recorded.{listed_to}
use Rattle.checkpoints.specs.Memory.{IsFirstUnlike}
use Rattle.checkpoints.proofs.Missing.{IsLeastMissing, least_missing}
use Rattle.checkpoints.proofs.FirstPage.{told, unlike_below, missing_below_all}
use Rattle.checkpoints.proofs.kept.Checkpoints.memory_break.Goals as goal

pub returns : goal.returns
returns c = λ s same.
    let rec = c.args.self.now.rec in
    let pages = c.args.f.now.pages in
    let opened = c.args.self.now.opening.pages in
    let unlike = c.first_unlike.ensures in
    let missing : IsLeastMissing pages None (listed_to rec c.args.k) c.least_missing.result = rw c.least_missing.ensures.least (least_missing pages None (listed_to rec c.args.k)) in
    c.told_first.ensures
    ∙ sym (told opened rec c.args.k s c.first_unlike.result c.least_missing.result
    (subst (λ (p : Pages). IsFirstUnlike opened rec c.args.k p c.first_unlike.result) (sym same) unlike)
    (subst (λ (p : Pages). IsLeastMissing p None (listed_to rec c.args.k) c.least_missing.result) (sym same) missing)
    (unlike_below opened rec c.args.k pages c.first_unlike.result unlike c.dirty_len-kept.ensures.kept.below)
    (missing_below_all c.least_missing.result c.least_missing.ensures.below))
