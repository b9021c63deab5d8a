-- A program that runs over a world while it is recorded.
use Rattle.std.specs.Prelude.{◌≡◌, ◌≢◌, ℕ, ◌+◌, ◌-◌, ◌*◌, ◌^◌, ◌<◌, ◌≤◌, ◌⊎◌, true, List, [], ◌∷◌, ◌++◌, length, Option, Some, None}
use Rattle.std.specs.List.{AllByRecursion}
use Rattle.outside.specs.World.{Heard}
use Rattle.sl_base.specs.Calls.{IsAsked, is_write}
use Rattle.sl_model.specs.declared.run_state.RunState.TheVariants as status
use Rattle.sl_model.specs.State.{State, Fits}
use Rattle.sl_model.specs.Step.{Called, Trapped, step}
use Rattle.call_log.specs.declared.ask.Ask.{Ask}
use Rattle.call_log.specs.declared.entry.CallEntry.{CallEntry}
use Rattle.call_log.specs.declared.entry.End.{End}
use Rattle.call_log.specs.declared.entry.End.TheVariants as ends
use Rattle.rec_format.specs.declared.recording.Recording.{Recording}
use Rattle.rec_format.specs.Rules.{IsCallEntry}
use Rattle.rv_machine.specs.Machine.{state_of}
use Rattle.replay.specs.Calls.{ask_of}
use Rattle.replay.specs.Run.{run_from}
use Rattle.page_frames.specs.MarkedPages.{IsKept}
use Rattle.call_recorder.specs.declared.live.Live.{Live}
use Rattle.call_recorder.specs.declared.kept.Kept.{Kept}
use Rattle.call_recorder.specs.Recut.{first_states}
use Rattle.call_recorder.specs.Kept.{AreKept}
use Rattle.call_recorder.specs.Answered.{heard_of, heard_in}

-- ---- one call

-- what a program may ask, where it is not an exit
pub record IsAsk (ask : Ask) : Type 0 where
  pub outside : ask.fixed ≡ None → IsAsked ask.call
  pub room : ask.room ≤ 65536
  pub give : length ask.give ≤ 65536
  pub gives_room : ask.fixed ≡ None → is_write ask.call ≡ true → length ask.give ≡ ask.room

-- The world is asked for a result that the machine does not decide, and hears the call; for others
-- it is not asked.
abbrev pub AnswersAsk :
    {X : Type 0} → (X → Heard → X → Type 0) → Option ℕ → X → X → Ask → CallEntry → Type 0
AnswersAsk hears None was now ask entry = hears was (heard_of ask entry) now
AnswersAsk hears (Some result) was now ask entry = now ≡ was

-- ---- the run so far

abbrev pub state_in : Live → State
state_in live = state_of live.machine live.memory.pages

-- The program comes to its state in the run of every recording that has its calls so far, and goes
-- on from there; and the world answered its calls of the outside.
pub record ComesSoFar (opened : State) (heard : List Heard → Type 0) (live : Live) : Type 0 where
  pub run : (rec : Recording) (more : List CallEntry) → rec.calls ≡ live.calls ++ more
      → run_from rec opened live.machine.count ≡ Some (state_in live)
  pub world : (rec : Recording) (more : List CallEntry) → rec.calls ≡ live.calls ++ more
      → heard (heard_in rec opened live.machine.count)
  pub each : AllByRecursion IsCallEntry live.calls

-- some calls begin with others
abbrev pub Begins : List CallEntry → List CallEntry → Type 0
Begins first calls = (more : List CallEntry) × (calls ≡ first ++ more)

-- a program that may go on
pub record GoesOn (live : Live) : Type 0 where
  pub running : live.machine.status ≡ status.Running
  pub next_call : live.machine.next_call ≡ length live.calls
  pub fits : Fits (state_in live)

-- it stands before a call that would be recorded, and no more may be
pub record IsFullAt (live : Live) : Type 0 where
  pub calls : length live.calls ≡ 2 ^ 32 - 1
  pub stands : step (state_in live) ≡ Called
  pub asks : ask_of (state_in live) ≢ None

-- how a run ended: what its machine is then
abbrev pub HasEnded : Live → End → Type 0
HasEnded live (ends.Exited code) = live.machine.status ≡ status.Exited code
HasEnded live (ends.Trapped number) = (live.machine.status ≡ status.Running) × (step (state_in live) ≡ Trapped number)
HasEnded live ends.Stopped = (live.machine.status ≡ status.Running) × IsFullAt live

-- how many instructions are done at an end that comes before so many: an exit is one of them
abbrev pub EndsBefore : ℕ → Live → End → Type 0
EndsBefore upto live (ends.Exited code) = live.machine.count ≤ upto
EndsBefore upto live (ends.Trapped number) = live.machine.count < upto
EndsBefore upto live ends.Stopped = live.machine.count < upto

-- the end of a run that comes before so many instructions
pub record Ended (upto : ℕ) (live : Live) (end : End) : Type 0 where
  pub ended : HasEnded live end
  pub next_call : live.machine.next_call ≡ length live.calls
  pub before : EndsBefore upto live end

-- what came of a run up to so many instructions
abbrev pub RanTo : ℕ → Live → Option End → Type 0
RanTo upto live None = GoesOn live × (live.machine.count ≡ upto)
RanTo upto live (Some end) = Ended upto live end

-- How a run ended that goes on as far as it may: an exit may be its last instruction, and all else
-- comes before the limit, but for a stop at it.
abbrev pub StopsWithin : ℕ → Live → End → Type 0
StopsWithin limit live (ends.Exited code) =
    (live.machine.status ≡ status.Exited code) × (live.machine.count ≤ limit)
StopsWithin limit live (ends.Trapped number) =
    (live.machine.status ≡ status.Running) × (step (state_in live) ≡ Trapped number)
    × (live.machine.count < limit)
StopsWithin limit live ends.Stopped =
    (live.machine.status ≡ status.Running)
    × ((live.machine.count ≡ limit) ⊎ ((live.machine.count < limit) × IsFullAt live))

pub record HasStopped (limit : ℕ) (live : Live) (end : End) : Type 0 where
  pub stops : StopsWithin limit live end
  pub next_call : live.machine.next_call ≡ length live.calls
  pub fits : IsKept live.memory

-- the checkpoints of a run up to here: those of so many states at the multiples of a distance
pub record KeptTo (opened : State) (every : ℕ) (live : Live) (kept : Kept) (offers : ℕ) : Type 0 where
  pub are : (rec : Recording) (more : List CallEntry) → rec.calls ≡ live.calls ++ more
      → AreKept opened.pages (first_states rec opened every offers) kept live.memory
  pub from : offers * every ≤ live.machine.count
  pub upto : live.machine.count ≤ (offers + 1) * every
