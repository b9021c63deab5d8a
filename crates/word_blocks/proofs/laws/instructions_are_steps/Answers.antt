use Rattle.word_blocks.proofs.Instructions.{step-does}
use Rattle.word_blocks.proofs.laws.instructions_are_steps.Goals as goal

pub returns : goal.returns
returns c = step-does
