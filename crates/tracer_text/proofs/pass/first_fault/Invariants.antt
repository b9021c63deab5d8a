use Rattle.std.proofs.Common.{◌≡◌, ◌≤◌, drop}
use Rattle.tracer_text.specs.FirstPass.{fault_from}
use Rattle.tracer_text.proofs.pass.first_fault.Given as goal

abbrev pub invariant-loop-token : goal.invariant-loop-token
invariant-loop-token l = record {
  few_nodes : l.nodes ≤ 4096;
  shallow : l.depth ≤ 64;
  left : fault_from l.text l.nodes l.depth (drop l.token-index l.tokens) ≡ fault_from l.text 0 0 l.tokens;
}
