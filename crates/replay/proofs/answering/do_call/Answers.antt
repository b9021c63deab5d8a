use Rattle.page_frames.proofs.Marking.{mark_bytes-goes_on}
use Rattle.replay.proofs.answering.do_call.Goals as goal

pub returns-then-call-ne-WRITE-clause-marks : goal.returns-then-call-ne-WRITE-clause-marks
returns-then-call-ne-WRITE-clause-marks c = rw c.copy_in.ensures (mark_bytes-goes_on c.args.f.now.pages c.args.f.now.dirty c.buffer.result c.args.bytes.now)
