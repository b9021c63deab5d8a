use Rattle.std.proofs.Common.{refl}
use Rattle.rv_machine.specs.Machine.{state_of}
use Rattle.checkpoints.proofs.Opened.{at_opening, end_from, end_to}
use Rattle.checkpoints.proofs.kept.Checkpoints.machine_at.Goals as goal

pub returns-then-k-eq0-clause-state : goal.returns-then-k-eq0-clause-state
returns-then-k-eq0-clause-state c = λ pages same.
    let self = c.args.self.now in
    at_opening self.rec self.machine self.opening.pages pages (state_of self.machine self.opening.pages) c.args.k refl self.opens c.if-k-eq0.true same

pub returns-clause-from : goal.returns-clause-from
returns-clause-from c =
    let self = c.args.self.now in
    rw (c.machine_of.ensures.end self.opening.pages) (end_from (state_of self.machine self.opening.pages) c.checkpoint.result.now.brk_end)

pub returns-clause-to : goal.returns-clause-to
returns-clause-to c =
    let self = c.args.self.now in
    rw (c.machine_of.ensures.end self.opening.pages) (end_to (state_of self.machine self.opening.pages) c.checkpoint.result.now.brk_end self.opens)
