-- What the outside answers to a system call, and what it hears.
use Rattle.std.specs.Prelude.{◌≡◌, ◌≢◌, ℕ, ◌≤◌, ◌⊎◌, ◌&&◌, ◌==◌, Bool, true, false, List, [], ◌∷◌, length, take, drop, min, Option, ⊤, if◌then◌else◌}
use Rattle.std.specs.List.{AllByRecursion, flat_map}
use Rattle.sl_base.specs.Calls.{read_number, write_number, getrandom_number, first_argument, error_result, is_error, is_write}
use Rattle.sl_base.specs.declared.call.Call.{Call}
use Rattle.outside.specs.declared.world.Reply.{Reply}
use Rattle.outside.specs.Faults.{Counts}
use Rattle.outside.specs.Written.{Adds}

-- error number 5: the outside failed
abbrev pub failure : ℕ
failure = error_result 5

-- error number 9: there is no such descriptor
abbrev pub no_descriptor : ℕ
no_descriptor = error_result 9

-- how many bytes a call gives or takes at most: those given for a write, and else the room to take
-- them
abbrev pub room_of : Call → ℕ → ℕ → ℕ
room_of call given room = if is_write call then given else room

-- how many of the room's bytes an answer may change: none for an error or a write, and else as many
-- as the result says
abbrev pub taken_of : Call → ℕ → ℕ
taken_of call result = if is_error result then 0 else (if is_write call then 0 else result)

-- an answer to a call: a count of bytes that the call has, or an error
abbrev pub IsAnswer : Call → ℕ → ℕ → ℕ → Type 0
IsAnswer call given room result = (result ≤ room_of call given room) ⊎ (error_result 4095 ≤ result)

-- the bytes past what the answer says are the same
abbrev pub KeepsRest : Call → ℕ → List ℕ → List ℕ → Type 0
KeepsRest call result old new = drop (taken_of call result) new ≡ drop (taken_of call result) old

-- ---- what the outside hears

-- a call that the outside was asked for, and its answer
pub record Heard : Type 0 where
  pub call : Call
  -- the bytes of a write
  pub give : List ℕ
  -- how many bytes a read, or a call for random bytes, had room for
  pub room : ℕ
  -- how many bytes were read or written, or an error
  pub result : ℕ
  -- the bytes that were read
  pub bytes : List ℕ

-- a call with these bytes and so much room, its result, and what stands in the room afterwards
abbrev pub heard_by : Call → List ℕ → ℕ → ℕ → List ℕ → Heard
heard_by call give room result after =
    record { call = call; give = give; room = room; result = result; bytes = take (taken_of call result) after }

-- An outside that was in one state is in another after these calls, in order, and after no others.
-- What a call makes of it is said by `hears`.
abbrev pub HearsAll : {X : Type 0} → (X → Heard → X → Type 0) → X → X → List Heard → Type 0
HearsAll hears was now [] = now ≡ was
HearsAll {X} hears was now (heard ∷ calls) =
    (next : X) × hears was heard next × HearsAll hears next now calls

-- ---- by replies that were given before

-- What a reply is to a call that gives so many bytes and has so much room: the result, and the bytes
-- that are read. An error stands as it is. Of a count there is no more than the call has bytes or
-- room, and of a read no more than the reply has bytes.
abbrev pub cut : Reply → Call → ℕ → ℕ → ℕ × List ℕ
cut reply call given room =
    if is_error reply.result then (reply.result, [])
    else (if is_write call then (min reply.result given, [])
    else
    (let n = min (min reply.result (length reply.bytes)) room
    in (n, take n reply.bytes)))

-- The answer is the first of the replies, cut to the call, and it leaves the list; with none left
-- the outside fails.
abbrev pub GetsReply : List Reply → Heard → List Reply → Type 0
GetsReply [] heard now = (now ≡ []) × (heard.result ≡ failure) × (heard.bytes ≡ [])
GetsReply (reply ∷ replies) heard now =
    (now ≡ replies)
    × ((heard.result, heard.bytes) ≡ cut reply heard.call (length heard.give) heard.room)

-- each call has the next reply, cut to it, and after the last one the outside failed
abbrev pub AreReplies : List Reply → List Heard → Type 0
AreReplies replies [] = ⊤
AreReplies [] (heard ∷ calls) =
    (heard.result ≡ failure) × (heard.bytes ≡ []) × AreReplies [] calls
AreReplies (reply ∷ replies) (heard ∷ calls) =
    ((heard.result, heard.bytes) ≡ cut reply heard.call (length heard.give) heard.room)
    × AreReplies replies calls

-- ---- by a process

-- The descriptor of a call, which is its first argument, is one that a program has from the start:
-- 0 to read, 1 and 2 to write. Random bytes have none.
abbrev pub HasDescriptor : Call → Type 0
HasDescriptor call =
    ((call.number ≡ read_number) × (first_argument call ≡ 0))
    ⊎ ((call.number ≡ write_number) × ((first_argument call ≡ 1) ⊎ (first_argument call ≡ 2)))
    ⊎ (call.number ≡ getrandom_number)

-- what a process has written, where its outputs tell, and how often its outside has failed
pub record ProcessWorld : Type 0 where
  pub failures : ℕ
  pub output : Option (List ℕ)
  pub errors : Option (List ℕ)

-- is it a write to this descriptor
abbrev pub writes_to : ℕ → Call → Bool
writes_to descriptor call = is_write call && (first_argument call == descriptor)

abbrev pub GainsIf : Bool → Heard → Option (List ℕ) → Option (List ℕ) → Type 0
GainsIf true heard was now = heard.result ≢ failure → Adds was now heard.give
GainsIf false heard was now = now ≡ was

-- an output gains all bytes of a write to its descriptor that did not fail, and else stays
abbrev pub GainsWrite : ℕ → Heard → Option (List ℕ) → Option (List ℕ) → Type 0
GainsWrite descriptor heard was now = GainsIf (writes_to descriptor heard.call) heard was now

-- a process writes what its program gives to descriptor 1 to its stdout, and to 2 to its stderr
pub record IsByProcess (was : ProcessWorld) (heard : Heard) (now : ProcessWorld) : Type 0 where
  pub output : GainsWrite 1 heard was.output now.output
  pub errors : GainsWrite 2 heard was.errors now.errors
  pub failures : Counts (heard.result == failure) was.failures now.failures

-- the bytes of all writes to a descriptor, in order
abbrev pub written_to : ℕ → List Heard → List ℕ
written_to descriptor calls =
    flat_map (λ heard. if writes_to descriptor heard.call then heard.give else []) calls

-- no call has failed
abbrev pub NoneFails : List Heard → Type 0
NoneFails calls = AllByRecursion (λ heard. heard.result ≢ failure) calls
