use Rattle.std.proofs.Common.{◌≡◌, ◌∙◌, ap, subst, sym}
use Rattle.sl_model.specs.Pages.{ArePages}
use Rattle.sl_model.specs.State.{IsOpening}
use Rattle.rv_machine.specs.Machine.{state_of}
use Rattle.replay.specs.Opening.{opening_pages}
use Rattle.replay.proofs.Opens.{IsOpening-pages}
use Rattle.replay.proofs.loading.load.Goals as goal

pub returns-clause-opens : goal.returns-clause-opens
returns-clause-opens c =
    let filled : c.fill_stack.new.frames.pages ≡ opening_pages c.args.image.now c.args.args.now = c.in_ok-fill_stack.ensures in
    let pages : c.clear_dirty.new.self.pages ≡ opening_pages c.args.image.now c.args.args.now = ap (λ m. m.pages) c.clear_dirty.ensures ∙ filled in
    let are : ArePages (opening_pages c.args.image.now c.args.args.now) = subst ArePages filled c.dirty_len-kept.ensures.kept.whole in
    let same = ap (state_of c.open_machine.result) pages ∙ c.open_machine.ensures in
    subst IsOpening (sym same) (IsOpening-pages c.args.image.now c.args.args.now c.requires.image c.requires.args are)
