use Rattle.std.proofs.Common.{subst, arith}
use Rattle.sl_base.specs.Refusals.{Tells}
use Rattle.rec_format.proofs.RecordingLaws.{is_found, reading_again}
use Rattle.rec_format.proofs.reading.read_recording.Goals as goal

pub returns-clause-found : goal.returns-clause-found
returns-clause-found c = is_found c.args.bytes.now c.whole.result (λ i. omega (arith, c.type_inv.bytes i)) c.whole.ensures

pub returns-clause-only : goal.returns-clause-only
returns-clause-only c = λ rec is. subst (Tells c.whole.result) (reading_again c.args.bytes.now rec is) c.whole.ensures
