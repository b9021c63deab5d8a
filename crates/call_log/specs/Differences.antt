-- Where a recorded call differs from the one that a program makes.
use Rattle.std.specs.Prelude.{ℕ, ◌+◌, ◌==◌, ◌||◌, Bool, List, ◌∷◌, length, Option, Some, None, is_some, unwrap_or, nat_le, if◌then◌else◌}
use Rattle.std.specs.Option.{option_or}
use Rattle.sl_base.specs.declared.call.Call.{Call}
use Rattle.sl_base.specs.Calls.{write_number, is_error}
use Rattle.call_log.specs.declared.entry.CallEntry.{CallEntry}
use Rattle.call_log.specs.declared.ask.Ask.{Ask}
use Rattle.call_log.specs.declared.ask.CallDiff.{CallDiff}

-- a field, where it differs
abbrev pub field_diff : ℕ → ℕ → ℕ → Option CallDiff
field_diff field recorded due =
    if recorded == due then None
    else Some (record { field = field; recorded = recorded; due = due })

-- the first of some fields that differs, the first of them having this number
abbrev pub fields_diff : ℕ → List ℕ → List ℕ → Option CallDiff
fields_diff field (x ∷ xs) (y ∷ ys) =
    option_or (field_diff field x y) (fields_diff (field + 1) xs ys)
fields_diff field _ _ = None

-- the first byte of a write that differs; which one is not told
abbrev pub bytes_diff : List ℕ → List ℕ → Option CallDiff
bytes_diff (x ∷ xs) (y ∷ ys) = option_or (field_diff 9 x y) (bytes_diff xs ys)
bytes_diff _ _ = None

-- may the outside have answered so: a count of bytes that the call has, or an error
abbrev pub is_answer : ℕ → ℕ → Bool
is_answer room result = nat_le result room || is_error result

-- the result that is due: the one that the machine decides, else the recorded one where it can be,
-- and else the greatest count
abbrev pub due_result : Ask → ℕ → ℕ
due_result ask result =
    unwrap_or ask.fixed (if is_answer ask.room result then result else ask.room)

-- how many data bytes are due with a result: those of a write, and as many as were read
abbrev pub due_length : Ask → ℕ → ℕ
due_length ask result =
    if is_some ask.fixed then 0
    else (if ask.call.number == write_number then ask.room
    else (if is_error result then 0 else result))

-- the number or the first argument that differs
abbrev pub call_diff : Call → Call → Option CallDiff
call_diff recorded due =
    option_or (field_diff 0 recorded.number due.number) (fields_diff 1 recorded.args due.args)

-- the result, the length of the data or, of a write, a byte of the data that differs
abbrev pub answer_diff : CallEntry → Ask → Option CallDiff
answer_diff entry ask =
    option_or (field_diff 7 entry.result (due_result ask entry.result))
    (option_or (field_diff 8 (length entry.bytes) (due_length ask entry.result))
    (if ask.call.number == write_number then bytes_diff entry.bytes ask.give else None))

-- The least field that differs: 0 the number, 1 to 6 the arguments, 7 the result, 8 the length of
-- the data, 9 the data of a write.
abbrev pub first_difference : CallEntry → Ask → Option CallDiff
first_difference entry ask = option_or (call_diff entry.call ask.call) (answer_diff entry ask)
