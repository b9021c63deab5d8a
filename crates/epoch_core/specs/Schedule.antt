-- Workers claim, run and post epochs. One event is one action of one worker; an event that is not
-- allowed where it comes changes nothing, nor does one of a number that no worker has.
use Rattle.std.specs.Prelude.{◌≡◌, ℕ, ◌+◌, ◌<◌, Bool, true, false, not, ◌&&◌, nat_lt, nat_le, min, if◌then◌else◌, List, [], ◌∷◌, ◌++◌, length, map, replicate, All, Option, Some, None, is_none, option_and_then, slice_get, slice_set}
use Rattle.std.specs.Option.{option_map_or}
use Rattle.std.specs.List.{flat_map}
use Rattle.epoch_core.specs.declared.event.CoreEvent.{CoreEvent}
use Rattle.epoch_core.specs.declared.event.CoreEvent.TheVariants.{Claim, Finish, Skip, Leave}
use Rattle.epoch_core.specs.declared.post.Post.{Post}
use Rattle.epoch_core.specs.declared.post.PostValue.{PostValue}
use Rattle.epoch_core.specs.declared.post.PostValue.TheVariants.{Ran, Broke, Skipped}
use Rattle.epoch_core.specs.declared.seat.Seat.{Seat}
use Rattle.epoch_core.specs.Posts.{post_of}

-- the next number, the least epoch that is known to have broken, and what each worker has
pub record CoreState : Type 0 where
  pub next : ℕ
  pub low : Option ℕ
  pub seats : List Seat

-- a worker that has claimed nothing yet
abbrev pub new_seat : Seat
new_seat = record { held = None; has_left = false; tray = [] }

-- the state with so many workers, before any event
abbrev pub start : ℕ → CoreState
start workers = record { next = 0; low = None; seats = replicate workers new_seat }

-- a worker that has not left and holds no epoch
abbrev pub is_idle : Seat → Bool
is_idle seat = not seat.has_left && is_none seat.held

-- the epoch that a worker holds
abbrev pub holds : CoreState → ℕ → Option ℕ
holds core worker = option_and_then (λ (seat : Seat). seat.held) (slice_get core.seats worker)

-- what follows at a worker's seat; for a number that no worker has, nothing
abbrev pub at_seat : (Seat → CoreState) → CoreState → ℕ → CoreState
at_seat follow core worker = option_map_or follow (slice_get core.seats worker) core

-- the state with a worker's seat replaced
abbrev pub with_seat : CoreState → ℕ → Seat → CoreState
with_seat core worker seat = record core { seats = slice_set core.seats worker seat }

-- what follows at an idle worker's seat, where the event is allowed
abbrev pub at_idle : Bool → (Seat → CoreState) → CoreState → ℕ → CoreState
at_idle allowed follow core worker =
    at_seat (λ seat. if is_idle seat && allowed then follow seat else core) core worker

-- an idle worker draws the next number, and its seat becomes this one
abbrev pub drawn : CoreState → ℕ → Seat → CoreState
drawn core worker seat = record (with_seat core worker seat) { next = core.next + 1 }

-- Claim: an idle worker holds the next number, where it is below the epochs
unfoldable pub claim : ℕ → CoreState → ℕ → CoreState
claim epochs core worker =
    at_idle (nat_lt core.next epochs)
    (λ seat. drawn core worker (record seat { held = Some core.next })) core worker

-- a post goes to the worker's tray, and the worker holds none
unfoldable pub posted : CoreState → ℕ → Post → CoreState
posted core worker post =
    at_seat
    (λ seat. with_seat core worker (record seat { held = None; tray = seat.tray ++ post ∷ [] }))
    core worker

-- the least known break, once epoch k broke too
abbrev pub lowered : Option ℕ → ℕ → Option ℕ
lowered None k = Some k
lowered (Some low) k = Some (min low k)

-- the least known break, once epoch k came to this value
abbrev pub low_after : Option ℕ → ℕ → PostValue → Option ℕ
low_after low k (Ran records parts) = low
low_after low k (Broke first) = lowered low k
low_after low k (Skipped below) = low

-- a worker has run an epoch, and its post comes
abbrev pub finished : CoreState → ℕ → Post → CoreState
finished core worker post =
    record (posted core worker post) { low = low_after core.low post.epoch post.value }

abbrev pub finish_held : List PostValue → CoreState → ℕ → Option ℕ → CoreState
finish_held values core worker None = core
finish_held values core worker (Some k) =
    option_map_or (λ value. finished core worker (post_of k value)) (slice_get values k) core

-- Finish: the post of the epoch that is held, with its value
unfoldable pub finish : List PostValue → CoreState → ℕ → CoreState
finish values core worker = finish_held values core worker (holds core worker)

abbrev pub skip_held : CoreState → ℕ → Option ℕ → Option ℕ → CoreState
skip_held core worker None low = core
skip_held core worker (Some k) None = core
skip_held core worker (Some k) (Some below) =
    if nat_lt below k then posted core worker (post_of k (Skipped below)) else core

-- Skip: the epoch that is held is not run, where a smaller one is known to have broken
unfoldable pub skip : CoreState → ℕ → CoreState
skip core worker = skip_held core worker (holds core worker) core.low

-- Leave: an idle worker has left, where the number that it draws is no epoch's
unfoldable pub leave : ℕ → CoreState → ℕ → CoreState
leave epochs core worker =
    at_idle (nat_le epochs core.next)
    (λ seat. drawn core worker (record seat { has_left = true })) core worker

-- what one event changes, where the epochs come to these values
unfoldable pub after : List PostValue → CoreState → CoreEvent → CoreState
after values core (Claim worker) = claim (length values) core worker
after values core (Finish worker) = finish values core worker
after values core (Skip worker) = skip core worker
after values core (Leave worker) = leave (length values) core worker

-- the state after a list of events
unfoldable pub run_events : List PostValue → CoreState → List CoreEvent → CoreState
run_events values core [] = core
run_events values core (event ∷ events) = run_events values (after values core event) events

-- the trays, by worker
abbrev pub trays_of : CoreState → List (List Post)
trays_of core = map (λ (seat : Seat). seat.tray) core.seats

-- all posts, those of worker 0 first
abbrev pub all_posts : List (List Post) → List Post
all_posts trays = flat_map (λ (tray : List Post). tray) trays

-- no worker holds an epoch
abbrev pub HoldsNone : CoreState → Type 0
HoldsNone core = All (λ (seat : Seat). seat.held ≡ None) core.seats

-- whatever a worker holds is an epoch
abbrev pub HoldsEpochs : ℕ → CoreState → Type 0
HoldsEpochs epochs core = (worker k : ℕ) → holds core worker ≡ Some k → k < epochs
