use Rattle.rv_machine.specs.Machine.{state_of}
use Rattle.checkpoints.proofs.Opened.{restored}
use Rattle.checkpoints.proofs.restore.machine_of.Goals as goal

pub returns-clause-state : goal.returns-clause-state
returns-clause-state c = λ rec k opened pages is.
    restored rec (state_of c.args.opening.now opened) k c.args.checkpoint.now c.copy_from_slice.new.self c.recorded_end.result pages c.copy_from_slice.ensures.after (c.recorded_end.ensures opened) is
