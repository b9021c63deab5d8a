use Rattle.std.proofs.Common.{arith}
use Rattle.rec_format.proofs.Lengths.{length-spelling}
use Rattle.rec_format.proofs.size.recording_size.Goals as goal

pub returns : goal.returns
returns c =
    let image = rw c.as_slice.ensures at c.sized_size-image.ensures.exact in
    let args = rw c.as_slice-2.ensures at c.args_size-args.ensures.exact in
    let calls = rw c.as_slice-3.ensures at c.calls_size-calls.ensures.exact in
    let checkpoints = rw c.as_slice-4.ensures at c.checkpoints_size-checkpoints.ensures.exact in
    omega (arith, length-spelling c.args.rec.now)
