use Rattle.call_recorder.proofs.live.Live.leave.Goals as goal

pub returns-clause-state : goal.returns-clause-state
returns-clause-state c = c.exit.ensures.state c.args.self.now.memory.pages
