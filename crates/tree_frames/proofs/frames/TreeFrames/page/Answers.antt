use Rattle.tree_frames.proofs.Kept.{kept}
use Rattle.tree_frames.proofs.frames.TreeFrames.page.Goals as goal

pub returns-in_err-frame-clause-kept : goal.returns-in_err-frame-clause-kept
returns-in_err-frame-clause-kept c = kept c.self.inside c.self.invariant c.args.self.now c.self.view_is

pub returns-clause-kept : goal.returns-clause-kept
returns-clause-kept c = kept c.self.inside c.self.invariant c.args.self.now c.self.view_is
