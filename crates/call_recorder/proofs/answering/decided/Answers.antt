use Rattle.call_recorder.proofs.Due.{due_fixed}
use Rattle.call_recorder.proofs.answering.decided.Goals as goal

pub returns-clause-due : goal.returns-clause-due
returns-clause-due c = rw (c.entry_of.ensures.parts, c.new.ensures) (due_fixed c.args.ask c.args.answer c.requires)
