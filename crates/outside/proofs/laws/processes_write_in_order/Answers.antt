use Rattle.outside.proofs.Hearing.{writes_in_order}
use Rattle.outside.proofs.laws.processes_write_in_order.Goals as goal

pub returns : goal.returns
returns c = writes_in_order
