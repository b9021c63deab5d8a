use Rattle.outside.proofs.Hearing.{replies_in_order}
use Rattle.outside.proofs.laws.replies_come_in_order.Goals as goal

pub returns : goal.returns
returns c = replies_in_order
