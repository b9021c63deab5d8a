use Rattle.std.proofs.Common.{sym, ◌∙◌}
use Rattle.rec_format.proofs.Fields.{ok_is}
use Rattle.rec_format.proofs.RecordingLaws.{reading_again}
use Rattle.rec_format.proofs.reading.spelled_apart.Goals as goal

pub returns : goal.returns
returns c = λ bytes a b is_a is_b. ok_is a b (sym (reading_again bytes a is_a) ∙ reading_again bytes b is_b)
