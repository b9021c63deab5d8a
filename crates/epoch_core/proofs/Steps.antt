-- The definitions of events, at a seat that was read from the list.
use Rattle.std.proofs.Common.{◌≡◌, ℕ, ◌+◌, ◌<◌, ◌≤◌, Bool, true, false, ◌&&◌, List, length, get_or, drop, Option, Some, None, refl, sym, ap, ◌∙◌}
use Rattle.std.specs.List.{slice_get}
use Rattle.std.specs.Option.{option_map_or}
use Rattle.std.proofs.lemmas.Bool.{and_from, and_left, and_right, cond-false}
use Rattle.std.proofs.lemmas.List.{get_or_default, drop_more, drop_all}
use Rattle.std.proofs.lemmas.Option.{slice_get_read, slice_get_past}
use Rattle.epoch_core.specs.declared.event.CoreEvent.{CoreEvent}
use Rattle.epoch_core.specs.declared.post.Post.{Post}
use Rattle.epoch_core.specs.declared.post.PostValue.{PostValue}
use Rattle.epoch_core.specs.declared.seat.Seat.{Seat}
use Rattle.epoch_core.specs.Posts.{post_of}
use Rattle.epoch_core.specs.Schedule.{CoreState, is_idle, at_idle, holds, posted, finished, finish_held, finish, skip_held, skip, after, run_events}
use Rattle.epoch_core.proofs.Sound.{some_keeps}

pub seat_read : (core : CoreState) (worker : ℕ) (seat : Seat) → worker < length core.seats → seat ≡ get_or core.seats worker seat → slice_get core.seats worker ≡ Some seat
seat_read core worker seat within is = slice_get_read core.seats (length core.seats) worker seat refl within is

-- two reads of one seat
same_seat : (core : CoreState) (worker : ℕ) (a b : Seat) → worker < length core.seats → a ≡ get_or core.seats worker a → b ≡ get_or core.seats worker b → a ≡ b
same_seat core worker a b within first second = first ∙ get_or_default core.seats worker a b within ∙ sym second

pub idle_goes : (allowed : Bool) (follow : Seat → CoreState) (core : CoreState) (worker : ℕ) (a b : Seat) → worker < length core.seats
    → a ≡ get_or core.seats worker a → b ≡ get_or core.seats worker b → true ≡ is_idle a → allowed ≡ true → at_idle allowed follow core worker ≡ follow b
idle_goes allowed follow core worker a b within first second idle may =
    let here = seat_read core worker b within second in
    let same = same_seat core worker a b within first second in
    let both : (is_idle b && allowed) ≡ true = and_from (is_idle b) allowed (sym (idle ∙ ap is_idle same)) may in
    rw (here, both) refl

stays : (allowed : Bool) (follow : Seat → CoreState) (core : CoreState) (worker : ℕ) → ((seat : Seat) → slice_get core.seats worker ≡ Some seat → (is_idle seat && allowed) ≡ false)
    → core ≡ at_idle allowed follow core worker
stays allowed follow core worker barred =
    some_keeps (λ c. core ≡ c) _ (slice_get core.seats worker) core refl
    (λ seat here. sym (cond-false (is_idle seat && allowed) (follow seat) core (barred seat here)))

pub idle_barred : (allowed : Bool) (follow : Seat → CoreState) (core : CoreState) (worker : ℕ) → allowed ≡ false → core ≡ at_idle allowed follow core worker
idle_barred allowed follow core worker not = stays allowed follow core worker (λ seat here. and_right (is_idle seat) allowed not)

pub idle_nobody : (allowed : Bool) (follow : Seat → CoreState) (core : CoreState) (worker : ℕ) → length core.seats ≤ worker → core ≡ at_idle allowed follow core worker
idle_nobody allowed follow core worker past = let none = slice_get_past core.seats worker past in rw none refl

pub idle_busy : (allowed : Bool) (follow : Seat → CoreState) (core : CoreState) (worker : ℕ) (seat : Seat) → worker < length core.seats
    → seat ≡ get_or core.seats worker seat → false ≡ is_idle seat → core ≡ at_idle allowed follow core worker
idle_busy allowed follow core worker seat within is busy =
    let here = seat_read core worker seat within is in
    let neither : (is_idle seat && allowed) ≡ false = and_left (is_idle seat) allowed (sym busy) in
    rw (here, neither) refl

pub posted_nobody : (core : CoreState) (worker : ℕ) (post : Post) → length core.seats ≤ worker → core ≡ posted core worker post
unfolding posted
posted_nobody core worker post past = let none = slice_get_past core.seats worker past in rw none refl

-- Skip and Finish, where it is known what the worker holds
pub skip_is : (core : CoreState) (worker : ℕ) (held low : Option ℕ) → holds core worker ≡ held → core.low ≡ low → skip core worker ≡ skip_held core worker held low
unfolding skip
skip_is core worker held low holding known = ap (λ h. skip_held core worker h core.low) holding ∙ ap (skip_held core worker held) known

pub finish_none : (values : List PostValue) (core : CoreState) (worker : ℕ) → holds core worker ≡ None → finish values core worker ≡ core
unfolding finish
finish_none values core worker none = ap (finish_held values core worker) none

pub finish_is : (values : List PostValue) (core : CoreState) (worker : ℕ) (post : Post) → holds core worker ≡ Some post.epoch → slice_get values post.epoch ≡ Some post.value
    → finish values core worker ≡ finished core worker post
unfolding finish
finish_is values core worker post holding own =
    ap (finish_held values core worker) holding ∙ ap (λ o. option_map_or (λ (value : PostValue). finished core worker (post_of post.epoch value)) o core) own

-- one more event of a list, and none left
pub run_events-drop_more : (values : List PostValue) (core : CoreState) (events : List CoreEvent) (i : ℕ) (d : CoreEvent) → i < length events
    → run_events values (after values core (get_or events i d)) (drop (i + 1) events) ≡ run_events values core (drop i events)
unfolding run_events
run_events-drop_more values core events i d more = sym (ap (run_events values core) (drop_more events i d more))

pub run_events-drop_all : (values : List PostValue) (core : CoreState) (events : List CoreEvent) (i : ℕ) → length events ≤ i → run_events values core (drop i events) ≡ core
unfolding run_events
run_events-drop_all values core events i all = ap (run_events values core) (drop_all i events all)
