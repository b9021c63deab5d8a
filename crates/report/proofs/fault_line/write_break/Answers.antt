use Rattle.report.proofs.fault_line.write_break.Goals as goal

pub returns-in-NoCall-clause-written : goal.returns-in-NoCall-clause-written
returns-in-NoCall-clause-written g c = rw c.in-NoCall.is c.write_line.ensures.written

pub returns-in-CallDiffers-clause-written : goal.returns-in-CallDiffers-clause-written
returns-in-CallDiffers-clause-written g c = rw c.in-CallDiffers.is c.write_line-in-CallDiffers.ensures.written

pub returns-in-EarlyEnd-clause-written : goal.returns-in-EarlyEnd-clause-written
returns-in-EarlyEnd-clause-written g c = rw c.in-EarlyEnd.is c.write_line-in-EarlyEnd.ensures.written

pub returns-in-EndDiffers-clause-written : goal.returns-in-EndDiffers-clause-written
returns-in-EndDiffers-clause-written g c = rw c.in-EndDiffers.is c.write_line-in-EndDiffers.ensures.written

pub returns-in-CallsLeft-clause-written : goal.returns-in-CallsLeft-clause-written
returns-in-CallsLeft-clause-written g c = rw c.in-CallsLeft.is c.write_line-in-CallsLeft.ensures.written

pub returns-in-CheckpointDiffers-clause-written : goal.returns-in-CheckpointDiffers-clause-written
returns-in-CheckpointDiffers-clause-written g c = rw c.in-CheckpointDiffers.is c.write_line-in-CheckpointDiffers.ensures.written
