use Rattle.std.proofs.Common.{refl}
use Rattle.page_frames.proofs.Changes.{IsTable-empty}
use Rattle.page_frames.proofs.table.Table.new.Goals as goal

pub returns-clause-table : goal.returns-clause-table
returns-clause-table c = IsTable-empty _ refl refl
