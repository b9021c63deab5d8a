use Rattle.cli_words.proofs.Working.{same_but_for_work}
use Rattle.cli_words.proofs.laws.work_stands_apart.Goals as goal

pub returns : goal.returns
returns c = same_but_for_work
