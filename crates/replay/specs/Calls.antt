-- System calls in a replay: what a program asks, and the state after an answer.
use Rattle.std.specs.Prelude.{◌≡◌, ℕ, ◌+◌, ◌-◌, ◌/◌, ◌==◌, ◌||◌, Bool, List, [], ◌∷◌, min, max, map, Option, Some, None, is_some, unwrap_or, slice_index, if◌then◌else◌}
use Rattle.sl_base.specs.declared.call.Call.{Call}
use Rattle.sl_base.specs.Calls.{read_number, write_number, getrandom_number, error_result}
use Rattle.sl_model.specs.declared.run_state.RunState.TheVariants.{Exited}
use Rattle.sl_model.specs.Pages.{bytes_at, set_bytes}
use Rattle.sl_model.specs.State.{State, register}
use Rattle.sl_model.specs.Step.{gone_to, after, put_register}
use Rattle.call_log.specs.declared.ask.Ask.{Ask}
use Rattle.call_log.specs.declared.entry.CallEntry.{CallEntry}
use Rattle.call_log.specs.Differences.{first_difference}
use Rattle.replay.specs.Opening.{round_up}
use Rattle.sl_model.specs.Mapping.{map_pages}
use Rattle.sl_model.specs.Heap.{is_break, brk_answer}

-- ---- the call at an ECALL

abbrev pub exit_number : ℕ
exit_number = 93

abbrev pub exit_group_number : ℕ
exit_group_number = 94

abbrev pub brk_number : ℕ
brk_number = 214

-- the call at an ECALL: its number stands in a7, its arguments in a0 to a5
abbrev pub call_of : State → Call
call_of s =
    let args : List ℕ = 10 ∷ 11 ∷ 12 ∷ 13 ∷ 14 ∷ 15 ∷ [] in
    record { number = register s 17; args = map (register s) args }

abbrev pub arg : Call → ℕ → ℕ
arg call i = slice_index call.args i

abbrev pub is_exit : Call → Bool
is_exit call = call.number == exit_number || call.number == exit_group_number

-- the calls that the outside answers
abbrev pub is_outside : Call → Bool
is_outside call =
    call.number == read_number || call.number == write_number
    || call.number == getrandom_number

-- where the bytes of such a call stand, and how many there are at most
abbrev pub buffer : Call → ℕ
buffer call = if call.number == getrandom_number then arg call 0 else arg call 1

abbrev pub room : Call → ℕ
room call = min (if call.number == getrandom_number then arg call 1 else arg call 2) 65536

-- ---- the break

-- the end of the mapped heap after it
abbrev pub brk_mapped_end : State → ℕ → ℕ
brk_mapped_end s address =
    if is_break s address then max s.brk_end (round_up 4096 address) else s.brk_end

-- the state after it: zeros are mapped up to the break
abbrev pub brk_done : State → ℕ → State
brk_done s address =
    let new = brk_mapped_end s address in
    record s {
      brk = brk_answer s address;
      brk_end = new;
      pages = map_pages s.pages (s.brk_end / 4096) (new / 4096 - s.brk_end / 4096);
    }

-- ---- what a program asks

-- the result that the machine decides, and None where it is the outside's
abbrev pub fixed_result : State → Call → Option ℕ
fixed_result s call =
    let is_mapped = is_some (bytes_at s.pages (buffer call) (room call)) in
    if is_outside call then (if is_mapped then None else Some (error_result 14))
    else (if call.number == brk_number then Some (brk_answer s (arg call 0))
    else Some (error_result 38))

-- the bytes that a write gives, which are mapped
abbrev pub given : State → Call → List ℕ
given s call =
    if call.number == write_number then unwrap_or (bytes_at s.pages (buffer call) (room call)) []
    else []

-- A call with the result that the machine decides, where it does. Only another one gives bytes or
-- has room for them.
abbrev pub ask_with : State → Call → Option ℕ → Ask
ask_with s call None = record { call = call; give = given s call; room = room call; fixed = None }
ask_with s call (Some result) = record { call = call; give = []; room = 0; fixed = Some result }

-- what the program asks at an ECALL: None for an exit, which is not recorded
abbrev pub ask_of : State → Option Ask
ask_of s =
    let call = call_of s in
    if is_exit call then None else Some (ask_with s call (fixed_result s call))

-- a recorded call does not differ from what was asked
abbrev pub IsAnswerTo : Option Ask → CallEntry → Type 0
IsAnswerTo None entry = ⊥
IsAnswerTo (Some ask) entry = first_difference entry ask ≡ None

-- a recorded call does not differ from what the program asks
abbrev pub IsDue : State → CallEntry → Type 0
IsDue s entry = IsAnswerTo (ask_of s) entry

-- ---- the state after a call

abbrev pub exited : State → State
exited s = record (gone_to s (after s)) { status = Exited (register s 10) }

-- the data of a read and of random bytes stand in memory
abbrev pub data_done : State → Call → List ℕ → State
data_done s call bytes =
    if call.number == write_number then s
    else record s { pages = set_bytes s.pages (buffer call) bytes }

-- what a call changes beside a0
abbrev pub call_done : State → Call → List ℕ → State
call_done s call bytes =
    if is_outside call then data_done s call bytes
    else (if call.number == brk_number then brk_done s (arg call 0) else s)

-- the state after a recorded call that does not differ
abbrev pub answered : State → CallEntry → State
answered s entry =
    let done = call_done s (call_of s) entry.bytes in
    let t = gone_to (put_register done 10 entry.result) (after s) in
    record t { next_call = s.next_call + 1 }

-- a state with a call's result in a0, behind the call, which has used one entry
abbrev pub moved_on : State → ℕ → State
moved_on s result =
    record (gone_to (put_register s 10 result) (after s)) { next_call = s.next_call + 1 }
