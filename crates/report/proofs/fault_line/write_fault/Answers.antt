use Rattle.report.proofs.fault_line.write_fault.Goals as goal

pub returns-in-StoreFault-clause-written : goal.returns-in-StoreFault-clause-written
returns-in-StoreFault-clause-written g c = rw c.in-StoreFault.is c.write_line.ensures.written

pub returns-in-SinkFault-clause-written : goal.returns-in-SinkFault-clause-written
returns-in-SinkFault-clause-written g c = rw c.in-SinkFault.is c.write_line-in-SinkFault.ensures.written

pub returns-in-Memory-clause-written : goal.returns-in-Memory-clause-written
returns-in-Memory-clause-written g c = rw c.in-Memory.is c.write_line-in-Memory.ensures.written
