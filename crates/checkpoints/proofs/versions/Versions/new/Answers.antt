use Rattle.std.proofs.Common.{refl}
use Rattle.checkpoints.proofs.Chains.{IsChain-empty}
use Rattle.checkpoints.proofs.versions.Versions.new.Goals as goal

pub returns-clause-chain : goal.returns-clause-chain
returns-clause-chain c = IsChain-empty _ _ refl c.new.ensures.items
