use Rattle.tracer_text.proofs.Skips.{before_end, no_end}
use Rattle.tracer_text.proofs.token.comment_len.Goals as goal

pub returns-in-Some : goal.returns-in-Some
returns-in-Some c = before_end _ _ c.in-Some.ensures

pub returns-in-None : goal.returns-in-None
returns-in-None c = no_end _ c.in-None.ensures
