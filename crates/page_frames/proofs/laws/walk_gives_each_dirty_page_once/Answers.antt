use Rattle.page_frames.proofs.Walks.{walk-is-list}
use Rattle.page_frames.proofs.laws.walk_gives_each_dirty_page_once.Goals as goal

pub returns : goal.returns
returns c = walk-is-list
