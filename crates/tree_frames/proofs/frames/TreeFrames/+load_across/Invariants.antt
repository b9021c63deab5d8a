use Rattle.tree_frames.proofs.frames.TreeFrames.+load_across.Given as goal

abbrev pub decreases-load_across : goal.decreases-load_across
decreases-load_across l = l.count
