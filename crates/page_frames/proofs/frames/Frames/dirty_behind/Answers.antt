use Rattle.page_frames.proofs.Kept.{kept}
use Rattle.page_frames.proofs.frames.Frames.dirty_behind.Goals as goal

pub returns-clause-kept : goal.returns-clause-kept
returns-clause-kept c = kept c.self.inside c.self.invariant c.args.self.now c.self.view_is
