use Rattle.std.proofs.Common.{refl}
use Rattle.tracepoints.specs.Chains.{chain_at}
use Rattle.tracepoints.proofs.chain.chain_at.Goals as goal

pub returns-clause-chain : goal.returns-clause-chain
unfolding chain_at
returns-clause-chain c = refl
