-- The nodes after one in a list are less deep than the list.
use Rattle.std.proofs.Common.{◌≡◌, ◌<◌, Box, Global, ap, arith}
use denote.Hole.Carrier.{out}
use denote.Hole.Rolled.{depth_falls}
use Rattle.tracer_text.specs.declared.node.Node.{Node}
use Rattle.tracer_text.specs.declared.node.Nodes.{Nodes, size-Nodes}
use Rattle.tracer_text.specs.declared.node.Nodes.TheVariants.{And'}
use Rattle.tracer_text.specs.declared.node.Node.TheBlock.{the_members, member-Nodes, the_sigs, the_carrier, the_depth}

rest_falls : (x : Node) (rest : Nodes) (p q : Box (Unit {0}) Global)
    → size-Nodes rest < size-Nodes (And' p x q rest)
unfolding the_depth out
rest_falls x rest p q =
    let falls = depth_falls the_members the_sigs the_carrier member-Nodes (And' p x q rest)
    (size-Nodes (And' p x q rest)) (omega arith) in
    falls.1.0

pub rest_less : {x : Node} {rest : Nodes} {p q : Box (Unit {0}) Global} (nodes : Nodes)
    → nodes ≡ And' p x q rest
    → size-Nodes rest < size-Nodes nodes
rest_less {x} {rest} {p} {q} nodes is = omega (arith, ap size-Nodes is, rest_falls x rest p q)
