use Rattle.std.proofs.Common.{arith, ◌-◌, ◌+◌, ◌≡◌, refl}
use Rattle.tracepoints.specs.Chains.{chain_of, point_at}
use Rattle.tracepoints.proofs.Chains.{AreChains-none, AreChains-more}
use Rattle.tracepoints.proofs.points.Points.chained.Goals as goal

pub loop-index-init : goal.loop-index-init
loop-index-init c =
    AreChains-none c.args.points c.len-index.result _ _ (omega arith) refl refl

pub loop-index-preserved : goal.loop-index-preserved
loop-index-preserved c =
    let i = c.loop-index.index - 1 in
    let here : i + 1 ≡ c.loop-index.index = omega arith in
    let chain : c.chain_of-chain.result ≡ chain_of (point_at c.args.points i) =
    rw c.as_slice.ensures at c.chain_of-chain.ensures.chain in
    rw chain (AreChains-more c.args.points i c.loop-index.heads c.loop-index.next (omega arith)
    c.requires.few (omega arith) (rw here c.loop-index.invariant))
