use Rattle.page_frames.proofs.Walks.{left-next}
use Rattle.tree_frames.proofs.frames.TreeFrames.next_dirty.Goals as goal

pub returns-clause-walk : goal.returns-clause-walk
returns-clause-walk c =
    left-next c.args.self.now.dirty c.args.at c.dirty_behind.result c.dirty_behind.ensures.kept.once c.requires
    (record { first = c.dirty_behind.ensures.first; next = c.dirty_behind.ensures.next })
