use Rattle.std.proofs.Common.{refl, sym, ◌∙◌, ap}
use Rattle.rv_machine.specs.Machine.{state_of}
use Rattle.rec_format.specs.Recorded.{checkpoint_at}
use Rattle.rec_format.specs.Compared.{machine_diff, pages_diff, checkpoint_diff, as_checkpoint_break, PAGE_NUMBERS}
use Rattle.checkpoints.proofs.FirstPage.{else_some, else_none}
use Rattle.checkpoints.proofs.kept.Checkpoints.differs.Goals as goal

pub returns-then-is_some : goal.returns-then-is_some
unfolding checkpoint_diff
returns-then-is_some c =
    let self = c.args.self.now in
    let s = state_of c.args.m.now c.args.f.now.pages in
    let same = c.machine_break-found.ensures c.args.f.now.pages ∙ ap (λ d. as_checkpoint_break c.args.k (machine_diff d s)) c.checkpoint.ensures in
    same ∙ sym (else_some c.args.k (machine_diff (checkpoint_at self.rec c.args.k) s) (pages_diff self.opening.pages self.rec c.args.k s PAGE_NUMBERS) (rw (← same) c.if-is_some.ensures))

pub returns : goal.returns
unfolding checkpoint_diff
returns c =
    let self = c.args.self.now in
    let s = state_of c.args.m.now c.args.f.now.pages in
    let same = c.machine_break-found.ensures c.args.f.now.pages ∙ ap (λ d. as_checkpoint_break c.args.k (machine_diff d s)) c.checkpoint.ensures in
    c.memory_break.ensures s refl
    ∙ sym (else_none c.args.k (machine_diff (checkpoint_at self.rec c.args.k) s) (pages_diff self.opening.pages self.rec c.args.k s PAGE_NUMBERS) (rw (← same) c.if-is_some.ensures))
