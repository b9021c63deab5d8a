use Rattle.epoch_core.proofs.Sound.{whole_after}
use Rattle.epoch_core.proofs.laws.posts_are_whole.Goals as goal

pub returns : goal.returns
returns c = whole_after
