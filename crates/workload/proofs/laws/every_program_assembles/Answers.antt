use Rattle.workload.proofs.Program.{every_program}
use Rattle.workload.proofs.laws.every_program_assembles.Goals as goal

pub returns : goal.returns
returns c = every_program
