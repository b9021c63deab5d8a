use Rattle.std.proofs.Common.{◌<◌, ◌∙◌, ap, arith, Some}
use Rattle.tree_frames.proofs.Loaded.{load_at-unmapped, load_at-mapped}
use Rattle.tree_frames.proofs.frames.TreeFramesBus.load.Goals as goal

pub returns-in_err-frame-clause-value : goal.returns-in_err-frame-clause-value
returns-in_err-frame-clause-value c =
    let some : 0 < c.args.width = grind arith in
    c.from_residual.ensures ∙ load_at-unmapped c.self.inside c.args.self.now c.args.addr c.args.width c.self.view_is some c.in_err-frame.ensures.value

pub returns-clause-value : goal.returns-clause-value
returns-clause-value c =
    ap Some c.load.ensures.value ∙ load_at-mapped c.self.inside c.args.self.now c.args.addr c.args.width c.in_ok-frame.frame.now c.self.invariant c.self.view_is c.in_ok-frame.ensures.value (omega (arith, c.from.ensures))
