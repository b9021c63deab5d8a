use Rattle.replay.proofs.OpeningBytes.{ArePages-opening}
use Rattle.replay.proofs.Opens.{IsOpening-pages}
use Rattle.replay.proofs.laws.programs_open.Goals as goal

pub returns : goal.returns
returns c image args loadable are bytes = IsOpening-pages image args loadable are (ArePages-opening image args loadable bytes)
