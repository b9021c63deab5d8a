use Rattle.word_blocks.proofs.Ends.{step-ecall, step-load_fault, step-store_fault}
use Rattle.word_blocks.proofs.laws.runs_end.Goals as goal

pub returns-clause-call : goal.returns-clause-call
returns-clause-call c = step-ecall

pub returns-clause-load : goal.returns-clause-load
returns-clause-load c start code from s op rd rs1 offset stands is = step-load_fault start code from s stands is op rd rs1 offset

pub returns-clause-store : goal.returns-clause-store
returns-clause-store c start code from s op rs1 rs2 offset stands is = step-store_fault start code from s stands is op rs1 rs2 offset
