-- The calls of a recorded run that the outside answered, and what it heard of them.
use Rattle.std.specs.Prelude.{ℕ, List, [], ◌∷◌, map, Option, Some, is_some, slice_get, if◌then◌else◌}
use Rattle.std.specs.List.{flat_map, range_with_len}
use Rattle.sl_base.specs.Calls.{is_write}
use Rattle.outside.specs.World.{Heard}
use Rattle.sl_model.specs.State.{State}
use Rattle.sl_model.specs.Step.{Next, Stepped, Called, Trapped, step}
use Rattle.call_log.specs.declared.ask.Ask.{Ask}
use Rattle.call_log.specs.declared.entry.CallEntry.{CallEntry}
use Rattle.rec_format.specs.declared.recording.Recording.{Recording}
use Rattle.replay.specs.Calls.{ask_of}
use Rattle.call_recorder.specs.Recut.{state_at}

-- ---- the calls that the outside answered

-- what a program asked, and how it is recorded
pub record Asked : Type 0 where
  pub ask : Ask
  pub entry : CallEntry

-- a recorded call, where the machine did not decide its result
abbrev pub outside_call : Option Ask → Option CallEntry → List Asked
outside_call (Some ask) (Some entry) =
    if is_some ask.fixed then [] else record { ask = ask; entry = entry } ∷ []
outside_call ask entry = []

abbrev pub asked_by : Recording → State → Next → List Asked
asked_by rec s Called = outside_call (ask_of s) (slice_get rec.calls s.next_call)
asked_by rec s (Stepped state) = []
asked_by rec s (Trapped number) = []

-- the call of the outside that a state stands before, if it does
unfoldable pub asked_at : Recording → State → List Asked
asked_at rec s = asked_by rec s (step s)

-- the calls of the outside among the first n instructions of a run, in order
abbrev pub asked_in : Recording → State → ℕ → List Asked
asked_in rec opened n =
    flat_map (λ count. asked_at rec (state_at rec opened count)) (range_with_len 0 n)

-- ---- what the outside heard

-- A recorded call as the outside heard it: a write gives its bytes and wants none, and all else has
-- room and brings the bytes that are recorded.
abbrev pub heard_of : Ask → CallEntry → Heard
heard_of ask entry =
    record {
      call = ask.call;
      give = ask.give;
      room = if is_write ask.call then 0 else ask.room;
      result = entry.result;
      bytes = if is_write ask.call then [] else entry.bytes;
    }

-- what it heard during the first n instructions of a run, in order
abbrev pub heard_in : Recording → State → ℕ → List Heard
heard_in rec opened n = map (λ asked. heard_of asked.ask asked.entry) (asked_in rec opened n)
