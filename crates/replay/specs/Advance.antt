-- What one instruction of a replay comes to, for a machine and its memory.
use Rattle.std.specs.Prelude.{◌≡◌, ◌+◌, ◌^◌, ◌<◌, ◌≤◌, ℕ, ⊤, length, Result, Ok, Err}
use Rattle.std.specs.List.{AllByRecursion}
use Rattle.sl_base.specs.declared.refused.Refused.{Refused}
use Rattle.sl_base.specs.declared.refused.Refused.TheVariants as refused
use Rattle.call_log.specs.declared.breaks.BreakKind.{BreakKind}
use Rattle.call_log.specs.declared.entry.CallEntry.{CallEntry}
use Rattle.rec_format.specs.declared.recording.Recording.{Recording}
use Rattle.page_frames.specs.MarkedPages.{MarkedPages}
use Rattle.rv_machine.specs.declared.machine.Machine.{Machine}
use Rattle.rv_machine.specs.Machine.{state_of}
use Rattle.replay.specs.Run.{Onward, Goes, Breaks}

-- what a replay needs of the calls of a recording: few of them, each with few bytes
abbrev pub IsShort : CallEntry → Type 0
IsShort entry = length entry.bytes ≤ 65536

pub record HasCalls (rec : Recording) : Type 0 where
  pub number : length rec.calls < 2 ^ 32
  pub each : AllByRecursion IsShort rec.calls

-- what came of an instruction: nothing that is told, a divergence, or want of memory
abbrev pub Advance : Type 0
Advance = Result (Unit {0}) (Refused BreakKind)

-- there is this divergence, or memory was wanting
abbrev pub StoppedAt : Onward → Machine → MarkedPages → Refused BreakKind
    → Machine → MarkedPages → Type 0
StoppedAt next m f refused.Memory m' f' = ⊤
StoppedAt next m f (refused.Fault kind) m' f' = (next ≡ Breaks kind) × (m' ≡ m) × (f' ≡ f)

-- They came to the next state, or there is this divergence and they are as before that instruction.
abbrev pub CameOf : Onward → Machine → MarkedPages → Advance → Machine → MarkedPages → Type 0
CameOf next m f (Ok done) m' f' = next ≡ Goes (state_of m' f'.pages)
CameOf next m f (Err stop) m' f' = StoppedAt next m f stop m' f'

-- how many steps a refusal counts: none for a divergence
abbrev pub CountsAtStop : Refused BreakKind → ℕ → ℕ → Type 0
CountsAtStop refused.Memory old new = new ≤ old + 1
CountsAtStop (refused.Fault kind) old new = new ≡ old

-- at most one step was counted
abbrev pub CountsOne : Advance → ℕ → ℕ → Type 0
CountsOne (Ok done) old new = new ≤ old + 1
CountsOne (Err stop) old new = CountsAtStop stop old new
