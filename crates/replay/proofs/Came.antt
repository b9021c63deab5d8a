-- What follows from what an instruction of a replay came to.
use Rattle.std.specs.Prelude.{OnOk}
use Rattle.std.proofs.Common.{Ok, Err}
use Rattle.page_frames.specs.MarkedPages.{MarkedPages}
use Rattle.rv_machine.specs.declared.machine.Machine.{Machine}
use Rattle.rv_machine.specs.Machine.{state_of}
use Rattle.sl_model.specs.State.{Fits}
use Rattle.rec_format.specs.declared.recording.Recording.{Recording}
use Rattle.replay.specs.Run.{onward}
use Rattle.replay.specs.Advance.{Advance, CameOf}
use Rattle.replay.proofs.InRun.{Fits-onward}

-- it keeps the layout
pub fits_came : (rec : Recording) (m : Machine) (f : MarkedPages) (came : Advance) (m' : Machine) (f' : MarkedPages) → Fits (state_of m f.pages) → CameOf (onward rec (state_of m f.pages)) m f came m' f'
    → OnOk came (Fits (state_of m' f'.pages))
fits_came rec m f (Ok done) m' f' fits came = Fits-onward rec (state_of m f.pages) (state_of m' f'.pages) fits came
fits_came rec m f (Err stop) m' f' fits came = tt
