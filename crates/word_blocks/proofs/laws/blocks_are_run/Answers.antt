use Rattle.word_blocks.proofs.Following.{exec-steps}
use Rattle.word_blocks.proofs.laws.blocks_are_run.Goals as goal

pub returns : goal.returns
returns c start code block from s has is stands = exec-steps start code block from s has stands is
