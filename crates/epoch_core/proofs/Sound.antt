-- What holds after every list of events, and that the posts are whole in the end.
use Rattle.std.proofs.Common.{◌≡◌, ℕ, zero, suc, ◌+◌, ◌<◌, ◌≤◌, min, true, cond, not, ◌&&◌, eqb, ltb, leb, List, [], ◌∷◌, ◌++◌, length, set, get_or, replicate, Option, Some, None, is_none, ◌⊎◌, inl, inr, refl, sym, ap, subst, ◌∙◌, zero-add, arith}
use Rattle.std.specs.List.{All, Contains, flat_map, slice_get, sum_by}
use Rattle.std.specs.Option.{IfSome, option_and_then, option_map_or}
use Rattle.std.proofs.lemmas.Bool.{and_parts, ltb-true, leb-true, eq-eqb, ne_eqb, cases_eq, cases_lt, cond_both}
use Rattle.std.proofs.lemmas.List.Sums.{sum_by-cons, sum_by_push, sum_by-append, sum_by-set, get_or-le-sum_by}
use Rattle.std.proofs.lemmas.List.Elements.{All-head, All-tail, All-nil}
use Rattle.std.proofs.lemmas.List.Folds.{flat_map-map}
use Rattle.std.proofs.lemmas.Option.{slice_get_within, get_or_from_slice_get}
use Rattle.call_log.specs.declared.breaks.Break.{Break}
use Rattle.epoch_core.specs.declared.event.CoreEvent.{CoreEvent}
use Rattle.epoch_core.specs.declared.event.CoreEvent.TheVariants.{Claim, Finish, Skip, Leave}
use Rattle.epoch_core.specs.declared.post.Post.{Post}
use Rattle.epoch_core.specs.declared.post.PostValue.{PostValue}
use Rattle.epoch_core.specs.declared.post.PostValue.TheVariants.{Ran, Broke, Skipped}
use Rattle.epoch_core.specs.declared.seat.Seat.{Seat}
use Rattle.epoch_core.specs.Posts.{Posted, IsRight, BrokeAt, posts_for, post_of}
use Rattle.epoch_core.specs.Schedule.{CoreState, start, new_seat, is_idle, holds, with_seat, claim, posted, finished, finish_held, finish, skip_held, skip, leave, low_after, after, run_events, trays_of, all_posts, HoldsNone, HoldsEpochs}
use Rattle.epoch_core.proofs.Lists.{Gains, All-gains, flat_map-set_same, flat_map-set_gains}

-- 1 where the numbers are the same
abbrev hits : ℕ → ℕ → ℕ
hits j k = cond (eqb j k) 1 0

-- how often epoch k is held
abbrev held_count : ℕ → Option ℕ → ℕ
held_count k None = 0
held_count k (Some j) = hits j k

-- how often epoch k is held or was posted by one worker, and by all
abbrev seat_claims : ℕ → Seat → ℕ
seat_claims k seat = held_count k seat.held + posts_for k seat.tray

abbrev claims : ℕ → List Seat → ℕ
claims k seats = sum_by (seat_claims k) seats

abbrev tray_of : Seat → List Post
tray_of seat = seat.tray

abbrev posts_in : List Seat → List Post
posts_in seats = flat_map tray_of seats

-- Each number below both the next one and the epochs is held or posted exactly once, and no other number is. Posts are
-- of epochs and right, and the least known break is that of a post.
pub record Sound (values : List PostValue) (core : CoreState) : Type 0 where
  pub once : (k : ℕ) → k < core.next → k < length values → claims k core.seats ≡ 1
  pub unclaimed : (k : ℕ) → core.next ≤ k → claims k core.seats ≡ 0
  pub no_epoch : (k : ℕ) → length values ≤ k → claims k core.seats ≡ 0
  pub within : All (λ (post : Post). post.epoch < length values) (posts_in core.seats)
  pub right : All (IsRight values (posts_in core.seats)) (posts_in core.seats)
  pub low : IfSome core.low (BrokeAt (posts_in core.seats))

claims_none : (k n : ℕ) → claims k (replicate n new_seat) ≡ 0
claims_none k zero = refl
claims_none k (suc n) = sum_by-cons (seat_claims k) new_seat (replicate n new_seat) ∙ zero-add (claims k (replicate n new_seat)) ∙ claims_none k n

posts_none : (n : ℕ) → posts_in (replicate n new_seat) ≡ []
posts_none zero = refl
posts_none (suc n) = posts_none n

pub start_sound : (values : List PostValue) (workers : ℕ) → Sound values (start workers)
start_sound values workers =
    let none : (P : Post → Type 0) → All P (posts_in (replicate workers new_seat)) =
    λ P. subst (All P) (sym (posts_none workers)) (All-nil P) in
    record {
      once = λ k h. absurd (omega arith);
      unclaimed = λ k h. claims_none k workers;
      no_epoch = λ k h. claims_none k workers;
      within = none (λ (post : Post). post.epoch < length values);
      right = none (IsRight values (posts_in (replicate workers new_seat)));
      low = tt;
    }

-- one worker's seat is replaced
claims_set : (k : ℕ) (seats : List Seat) (worker : ℕ) (old new : Seat) → slice_get seats worker ≡ Some old
    → claims k (set seats worker new) + seat_claims k old ≡ claims k seats + seat_claims k new
claims_set k seats worker old new here =
    let e = sum_by-set (seat_claims k) seats worker new old (slice_get_within seats worker old here) in
    rw (get_or_from_slice_get seats worker old old here) at e

-- a number is held once where a worker holds it
claims_held : (k : ℕ) (seats : List Seat) (worker : ℕ) (seat : Seat) → slice_get seats worker ≡ Some seat → seat.held ≡ Some k → 1 ≤ claims k seats
claims_held k seats worker seat here held =
    let most = get_or-le-sum_by (seat_claims k) seats worker seat (slice_get_within seats worker seat here) in
    let least = rw (get_or_from_slice_get seats worker seat seat here) at most in
    let one : held_count k seat.held ≡ 1 = ap (held_count k) held ∙ ap (λ b. cond b 1 0) (eq-eqb k k refl) in
    omega (arith, least, one)

-- what was right stays right where posts are added
right_gains : (values : List PostValue) (old new : List Post) (post : Post) → Gains old new post → (p : Post) → IsRight values old p → IsRight values new p
right_gains values old new post gains p (inl own) = inl own
right_gains values old new post gains p (inr (below, is, less, (first, there))) = inr (below, is, less, (first, gains.keeps (post_of below (Broke first)) there))

broke_gains : (old new : List Post) (post : Post) → Gains old new post → (k : ℕ) → BrokeAt old k → BrokeAt new k
broke_gains old new post gains k (first, there) = (first, gains.keeps (post_of k (Broke first)) there)

-- a post says that epoch b broke
abbrev IsBreakOf : Post → ℕ → Type 0
IsBreakOf post b = (first : Break) × (post ≡ post_of b (Broke first))

low_gains : {old new : List Post} {post : Post} (low : Option ℕ) → Gains old new post → IfSome low (λ b. BrokeAt old b ⊎ IsBreakOf post b) → IfSome low (BrokeAt new)
low_gains None gains known = tt
low_gains {old} {new} {post} (Some b) gains known = elim known [
  | inl there ↦ broke_gains old new post gains b there
  | inr (first, is) ↦ (first, subst (Contains new) is gains.gained)
]

-- a worker's seat once its post is in the tray
abbrev put_away : Seat → Post → Seat
put_away seat post = record seat { held = None; tray = seat.tray ++ post ∷ [] }

claims_put : (k : ℕ) (seat : Seat) (post : Post) → seat.held ≡ Some post.epoch → seat_claims k (put_away seat post) ≡ seat_claims k seat
claims_put k seat post held =
    let more = sum_by_push (λ (p : Post). hits p.epoch k) seat.tray post in
    let one : held_count k seat.held ≡ hits post.epoch k = ap (held_count k) held in
    omega (arith, more, one)

claims_kept : (k : ℕ) (seats : List Seat) (worker : ℕ) (old new : Seat) → slice_get seats worker ≡ Some old → seat_claims k new ≡ seat_claims k old
    → claims k (set seats worker new) ≡ claims k seats
claims_kept k seats worker old new here same = omega (arith, claims_set k seats worker old new here, same)

-- what is held is an epoch
pub held_is_epoch : (values : List PostValue) (core : CoreState) (worker k : ℕ) (seat : Seat) → Sound values core → slice_get core.seats worker ≡ Some seat
    → seat.held ≡ Some k → k < length values
held_is_epoch values core worker k seat sound here held =
    let one = claims_held k core.seats worker seat here held in
    elim (cases_lt k (length values)) [ inl less ↦ less | inr past ↦ absurd (omega (arith, one, sound.no_epoch k past)) ]

-- the post of a held epoch goes to the tray
post_sound : (values : List PostValue) (core : CoreState) (worker : ℕ) (seat : Seat) (post : Post) (low : Option ℕ) → Sound values core
    → slice_get core.seats worker ≡ Some seat → seat.held ≡ Some post.epoch → IsRight values (posts_in core.seats) post
    → IfSome low (λ b. BrokeAt (posts_in core.seats) b ⊎ IsBreakOf post b)
    → Sound values (record core { low = low; seats = set core.seats worker (put_away seat post) })
post_sound values core worker seat post low sound here held right known =
    let new = posts_in (set core.seats worker (put_away seat post)) in
    let gains : Gains (posts_in core.seats) new post = flat_map-set_gains tray_of core.seats worker seat (put_away seat post) post here refl in
    let same : (k : ℕ) → claims k (set core.seats worker (put_away seat post)) ≡ claims k core.seats =
    λ k. claims_kept k core.seats worker seat (put_away seat post) here (claims_put k seat post held) in
    record {
      once = λ k drawn epoch. same k ∙ sound.once k drawn epoch;
      unclaimed = λ k h. same k ∙ sound.unclaimed k h;
      no_epoch = λ k h. same k ∙ sound.no_epoch k h;
      within = All-gains (λ (p : Post). p.epoch < length values) (posts_in core.seats) new post gains sound.within (held_is_epoch values core worker post.epoch seat sound here held);
      right = All-gains (IsRight values new) (posts_in core.seats) new post gains
          (λ k d h. right_gains values (posts_in core.seats) new post gains (get_or (posts_in core.seats) k d) (sound.right k d h))
          (right_gains values (posts_in core.seats) new post gains post right);
      low = low_gains low gains known;
    }

-- what holds of both answers to a look-up
pub some_keeps : {A B : Type 0} (P : B → Type 0) (f : A → B) (o : Option A) (d : B) → P d → ((x : A) → o ≡ Some x → P (f x)) → P (option_map_or f o d)
some_keeps P f None d none some = none
some_keeps P f (Some x) d none some = some x refl

held_keeps : (P : Option ℕ → Type 0) (core : CoreState) (worker : ℕ) → P None
    → ((seat : Seat) (k : ℕ) → slice_get core.seats worker ≡ Some seat → seat.held ≡ Some k → P (Some k)) → P (holds core worker)
held_keeps P core worker none some =
    elim (slice_get core.seats worker) as (λ o. slice_get core.seats worker ≡ o → P (option_and_then (λ (seat : Seat). seat.held) o)) [
      | None ↦ λ _. none
      | Some seat ↦ λ here. elim (seat.held) as (λ h. seat.held ≡ h → P h) [
        | None ↦ λ _. none
        | Some k ↦ λ held. some seat k here held
      ] refl
    ] refl

pub none_is_held : (held : Option ℕ) → is_none held ≡ true → held ≡ None
none_is_held None t = refl
none_is_held (Some k) t = absurd (cc)

abbrev takes : Seat → ℕ → Seat
takes seat k = record seat { held = Some k }

claimed_sound : (values : List PostValue) (core : CoreState) (worker : ℕ) (seat : Seat) → Sound values core → slice_get core.seats worker ≡ Some seat
    → seat.held ≡ None → core.next < length values
    → Sound values (record (with_seat core worker (takes seat core.next)) { next = core.next + 1 })
claimed_sound values core worker seat sound here idle below =
    let new = set core.seats worker (takes seat core.next) in
    let same : posts_in new ≡ posts_in core.seats = flat_map-set_same tray_of core.seats worker seat (takes seat core.next) here refl in
    let more : (k : ℕ) → claims k new ≡ claims k core.seats + hits core.next k = λ k.
    let none : held_count k seat.held ≡ 0 = ap (held_count k) idle in
    omega (arith, none, claims_set k core.seats worker seat (takes seat core.next) here) in
    let one : (k : ℕ) → core.next ≡ k → hits core.next k ≡ 1 = λ k e. ap (λ b. cond b 1 0) (eq-eqb core.next k e) in
    let none : (k : ℕ) → (core.next ≡ k → ⊥) → hits core.next k ≡ 0 = λ k e. ap (λ b. cond b 1 0) (ne_eqb core.next k e) in
    record {
      once = λ k drawn epoch. elim (cases_eq core.next k) [
        | inl e ↦ omega (arith, more k, one k e, sound.unclaimed k (omega arith))
        | inr e ↦ omega (arith, more k, none k e, sound.once k (omega arith) epoch)
      ];
      unclaimed = λ k h. let e : core.next ≡ k → ⊥ = λ e. omega arith in omega (arith, more k, none k e, sound.unclaimed k (omega arith));
      no_epoch = λ k h. let e : core.next ≡ k → ⊥ = λ e. omega arith in omega (arith, more k, none k e, sound.no_epoch k h);
      within = subst (All (λ (p : Post). p.epoch < length values)) (sym same) sound.within;
      right = subst (λ (ps : List Post). All (IsRight values ps) ps) (sym same) sound.right;
      low = subst (λ (ps : List Post). IfSome core.low (BrokeAt ps)) (sym same) sound.low;
    }

claim_sound : (values : List PostValue) (core : CoreState) (worker : ℕ) → Sound values core → Sound values (claim (length values) core worker)
unfolding claim
claim_sound values core worker sound = some_keeps (Sound values) _ (slice_get core.seats worker) core sound
    (λ seat here. cond_both (is_idle seat && ltb core.next (length values)) _ _ (Sound values)
    (λ both.
    let parts = and_parts (is_idle seat) (ltb core.next (length values)) both in
    let idle = and_parts (not seat.has_left) (is_none seat.held) parts.0 in
    claimed_sound values core worker seat sound here (none_is_held seat.held idle.1) (ltb-true core.next (length values) parts.1))
    (λ _. sound))

abbrev leaves : Seat → Seat
leaves seat = record seat { has_left = true }

left_sound : (values : List PostValue) (core : CoreState) (worker : ℕ) (seat : Seat) → Sound values core → slice_get core.seats worker ≡ Some seat → length values ≤ core.next
    → Sound values (record (with_seat core worker (leaves seat)) { next = core.next + 1 })
left_sound values core worker seat sound here past =
    let new = set core.seats worker (leaves seat) in
    let same : posts_in new ≡ posts_in core.seats = flat_map-set_same tray_of core.seats worker seat (leaves seat) here refl in
    let kept : (k : ℕ) → claims k new ≡ claims k core.seats = λ k. claims_kept k core.seats worker seat (leaves seat) here refl in
    record {
      once = λ k drawn epoch. kept k ∙ sound.once k (omega arith) epoch;
      unclaimed = λ k h. kept k ∙ sound.unclaimed k (omega arith);
      no_epoch = λ k h. kept k ∙ sound.no_epoch k h;
      within = subst (All (λ (p : Post). p.epoch < length values)) (sym same) sound.within;
      right = subst (λ (ps : List Post). All (IsRight values ps) ps) (sym same) sound.right;
      low = subst (λ (ps : List Post). IfSome core.low (BrokeAt ps)) (sym same) sound.low;
    }

leave_sound : (values : List PostValue) (core : CoreState) (worker : ℕ) → Sound values core → Sound values (leave (length values) core worker)
unfolding leave
leave_sound values core worker sound = some_keeps (Sound values) _ (slice_get core.seats worker) core sound
    (λ seat here. cond_both (is_idle seat && leb (length values) core.next) _ _ (Sound values)
    (λ both. left_sound values core worker seat sound here (leb-true (length values) core.next (and_parts (is_idle seat) (leb (length values) core.next) both).1))
    (λ _. sound))

pub posted_is : (core : CoreState) (worker : ℕ) (seat : Seat) (post : Post) → slice_get core.seats worker ≡ Some seat
    → posted core worker post ≡ with_seat core worker (put_away seat post)
unfolding posted
posted_is core worker seat post here = ap (λ o. option_map_or (λ (s : Seat). with_seat core worker (put_away s post)) o core) here

still_known : (posts : List Post) (post : Post) (low : Option ℕ) → IfSome low (BrokeAt posts) → IfSome low (λ b. BrokeAt posts b ⊎ IsBreakOf post b)
still_known posts post None known = tt
still_known posts post (Some b) known = inl known

low_known : (posts : List Post) (low : Option ℕ) (k : ℕ) (value : PostValue) → IfSome low (BrokeAt posts)
    → IfSome (low_after low k value) (λ b. BrokeAt posts b ⊎ IsBreakOf (post_of k value) b)
low_known posts low k (Ran records parts) known = still_known posts (post_of k (Ran records parts)) low known
low_known posts low k (Skipped below) known = still_known posts (post_of k (Skipped below)) low known
low_known posts None k (Broke first) known = inr (first, refl)
low_known posts (Some low) k (Broke first) known =
    let P : ℕ → Type 0 = λ b. BrokeAt posts b ⊎ IsBreakOf (post_of k (Broke first)) b in
    elim (cases_lt low k) [
      | inl less ↦ let e : low ≡ min low k = omega arith in subst P e (inl known)
      | inr more ↦ let e : k ≡ min low k = omega arith in subst P e (inr (first, refl))
    ]

finished_sound : (values : List PostValue) (core : CoreState) (worker : ℕ) (seat : Seat) (k : ℕ) (value : PostValue) → Sound values core
    → slice_get core.seats worker ≡ Some seat → seat.held ≡ Some k → slice_get values k ≡ Some value → Sound values (finished core worker (post_of k value))
finished_sound values core worker seat k value sound here held own =
    let low = low_after core.low k value in
    let P : CoreState → Type 0 = λ c. Sound values (record c { low = low }) in
    subst P (sym (posted_is core worker seat (post_of k value) here))
    (post_sound values core worker seat (post_of k value) low sound here held (inl own) (low_known (posts_in core.seats) core.low k value sound.low))

finish_sound : (values : List PostValue) (core : CoreState) (worker : ℕ) → Sound values core → Sound values (finish values core worker)
unfolding finish
finish_sound values core worker sound = held_keeps (λ o. Sound values (finish_held values core worker o)) core worker sound
    (λ seat k here held. some_keeps (Sound values) (λ value. finished core worker (post_of k value)) (slice_get values k) core sound
    (λ value own. finished_sound values core worker seat k value sound here held own))

skipped_sound : (values : List PostValue) (core : CoreState) (worker : ℕ) (seat : Seat) (k below : ℕ) → Sound values core
    → slice_get core.seats worker ≡ Some seat → seat.held ≡ Some k → core.low ≡ Some below → below < k → Sound values (posted core worker (post_of k (Skipped below)))
skipped_sound values core worker seat k below sound here held is less =
    let broke = subst (λ (l : Option ℕ). IfSome l (BrokeAt (posts_in core.seats))) is sound.low in
    let post = post_of k (Skipped below) in
    subst (Sound values) (sym (posted_is core worker seat post here))
    (post_sound values core worker seat post core.low sound here held (inr (below, refl, less, broke)) (still_known (posts_in core.seats) post core.low sound.low))

skip_sound : (values : List PostValue) (core : CoreState) (worker : ℕ) → Sound values core → Sound values (skip core worker)
unfolding skip
skip_sound values core worker sound = held_keeps (λ o. Sound values (skip_held core worker o core.low)) core worker sound
    (λ seat k here held. elim (core.low) as (λ l. core.low ≡ l → Sound values (skip_held core worker (Some k) l)) [
      | None ↦ λ _. sound
      | Some below ↦ λ is. cond_both (ltb below k) _ _ (Sound values)
          (λ less. skipped_sound values core worker seat k below sound here held is (ltb-true below k less))
          (λ _. sound)
    ] refl)

pub after_sound : (values : List PostValue) (core : CoreState) (event : CoreEvent) → Sound values core → Sound values (after values core event)
unfolding after
after_sound values core (Claim worker) sound = claim_sound values core worker sound
after_sound values core (Finish worker) sound = finish_sound values core worker sound
after_sound values core (Skip worker) sound = skip_sound values core worker sound
after_sound values core (Leave worker) sound = leave_sound values core worker sound

pub run_sound : (values : List PostValue) (core : CoreState) (events : List CoreEvent) → Sound values core → Sound values (run_events values core events)
unfolding run_events
run_sound values core [] sound = sound
run_sound values core (event ∷ events) sound = run_sound values (after values core event) events (after_sound values core event sound)

-- where no worker holds an epoch, the claims are the posts
claims_all : (k : ℕ) (seats : List Seat) → All (λ (seat : Seat). seat.held ≡ None) seats → claims k seats ≡ posts_for k (posts_in seats)
claims_all k [] none = refl
claims_all k (seat ∷ seats) none =
    let IsFree : Seat → Type 0 = λ s. s.held ≡ None in
    let free : held_count k seat.held ≡ 0 = ap (held_count k) (All-head IsFree seat seats none) in
    let rest = claims_all k seats (All-tail IsFree seat seats none) in
    let more = sum_by-cons (seat_claims k) seat seats in
    let posts = sum_by-append (λ (p : Post). hits p.epoch k) seat.tray (posts_in seats) in
    omega (arith, free, rest, more, posts)

pub whole : (values : List PostValue) (core : CoreState) → Sound values core → HoldsNone core → length values ≤ core.next → Posted values (all_posts (trays_of core))
whole values core sound none all =
    let same : all_posts (trays_of core) ≡ posts_in core.seats = flat_map-map (λ (tray : List Post). tray) tray_of core.seats in
    subst (Posted values) (sym same) (record {
      once = λ k epoch. sym (claims_all k core.seats none) ∙ sound.once k (omega arith) epoch;
      within = sound.within;
      right = sound.right;
    })

pub whole_after : (values : List PostValue) (workers : ℕ) (events : List CoreEvent) → HoldsNone (run_events values (start workers) events)
    → length values ≤ (run_events values (start workers) events).next → Posted values (all_posts (trays_of (run_events values (start workers) events)))
whole_after values workers events none all =
    whole values (run_events values (start workers) events) (run_sound values (start workers) events (start_sound values workers)) none all

pub holds_epochs : (values : List PostValue) (core : CoreState) → Sound values core → HoldsEpochs (length values) core
holds_epochs values core sound worker k = held_keeps (λ o. o ≡ Some k → k < length values) core worker
    (λ e. absurd (cc))
    (λ seat j here held e. held_is_epoch values core worker k seat sound here (held ∙ e))
