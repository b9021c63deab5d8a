-- The tray of all seats, once their board is closed, has each epoch's post once.
use Rattle.std.proofs.Common.{◌≡◌, ℕ, zero, suc, ◌+◌, ◌<◌, ◌≤◌, true, cond, List, [], ◌∷◌, length, map, get_or, All, Contains, Option, Some, None, refl, sym, ap, ap₂, subst, ◌∙◌, inl, inr, ⊎_elim, arith}
use Rattle.std.specs.Prelude.{Bool, ◌==◌, if◌then◌else◌}
use Rattle.std.specs.List.{AllZip, flat_map}
use Rattle.std.proofs.lemmas.Bool.{cases_lt, lt-ltb, le-ltb}
use Rattle.std.proofs.lemmas.List.Sums.{sum_by-cons}
use Rattle.std.proofs.lemmas.List.Concat.{flat_map-cons}
use Rattle.std.proofs.lemmas.List.Elements.{All-nil, All-cons, All-head, All-tail, Contains-append_cases}
use Rattle.call_log.specs.declared.breaks.Break.{Break}
use Rattle.epoch_board.specs.Rule.{times}
use Rattle.epoch_board.specs.Seats.{BoardId, SeatState}
use Rattle.epoch_core.specs.declared.post.Post.{Post}
use Rattle.epoch_core.specs.declared.post.PostValue.{PostValue}
use Rattle.epoch_core.specs.declared.post.PostValue.TheVariants.{Broke}
use Rattle.epoch_core.specs.Posts.{post_of, posts_for, BrokeAt, IsRight, Posted}
use Rattle.epoch_worker.specs.Work.{IsDueBelow, IsDue, if_broke, broken_of, HasWorked}

abbrev epoch : Post → ℕ
epoch post = post.epoch

-- ---- once, and no other

times_posts : (k : ℕ) (tray : List Post) → times k (map epoch tray) ≡ posts_for k tray
times_posts k [] = refl
times_posts k (post ∷ posts) =
    sum_by-cons (λ (x : ℕ). cond (x == k) 1 0) post.epoch (map epoch posts)
    ∙ ap (λ n. cond (post.epoch == k) 1 0 + n) (times_posts k posts)
    ∙ sym (sum_by-cons (λ (p : Post). cond (p.epoch == k) 1 0) post posts)

within : (n : ℕ) (tray : List Post) → All (λ k. k < n) (map epoch tray) → All (λ post. post.epoch < n) tray
within n [] all = All-nil (λ post. post.epoch < n)
within n (post ∷ posts) all =
    All-cons (λ post. post.epoch < n) post posts
    (All-head (λ k. k < n) post.epoch (map epoch posts) all)
    (within n posts (All-tail (λ k. k < n) post.epoch (map epoch posts) all))

-- ---- breaks that were told

only : (e k i : ℕ) → i < length (e ∷ []) → get_or (e ∷ []) i k ≡ k → e ≡ k
only e k zero lt is = is
only e k (suc i) lt is = absurd (omega arith)

broke : (k e : ℕ) (value : PostValue) → Contains (if_broke e value) k → (first : Break) × (value ≡ Broke first) × (e ≡ k)
broke k e (Broke first) there = (first, refl, only e k there.0 there.1 there.2)
broke k e other there = absurd (omega (arith, there.1))

broke_in : (k : ℕ) (tray : List Post) → Contains (flat_map broken_of tray) k → BrokeAt tray k
broke_in k [] there = absurd (omega (arith, there.1))
broke_in k (post ∷ posts) there =
    ⊎_elim
    (λ (here : Contains (broken_of post) k).
    let it = broke k post.epoch post.value here in
    (it.0, (zero, omega arith, ap₂ post_of it.2 it.1)))
    (λ (later : Contains (flat_map broken_of posts) k).
    let it = broke_in k posts later in
    (it.0, (suc it.1.0, omega (arith, it.1.1), it.1.2)))
    (Contains-append_cases (broken_of post) (flat_map broken_of posts) k (subst (λ all. Contains all k) (flat_map-cons broken_of post posts) there))

-- ---- each post is right

right_one : (values : List PostValue) (all : List Post) (low : Option ℕ) (post : Post) → ((k : ℕ) → low ≡ Some k → BrokeAt all k) → IsDue values low post → IsRight values all post
right_one values all None post read due = inl due
right_one values all (Some low) post read due =
    let Due : Bool → Type 0 = λ b. IsDueBelow values post.epoch (if b then Some low else None) post in
    ⊎_elim
    (λ (lt : low < post.epoch). inr (low, subst Due (lt-ltb low post.epoch lt) due, lt, read low refl))
    (λ (le : post.epoch ≤ low). inl (subst Due (le-ltb low post.epoch le) due))
    (cases_lt low post.epoch)

right : (values : List PostValue) (all : List Post) (seen : List (Option ℕ)) (tray : List Post) → ((k : ℕ) → Contains seen (Some k) → BrokeAt all k) → AllZip (IsDue values) seen tray → All (IsRight values all) tray
right values all [] [] read due = All-nil (IsRight values all)
right values all [] (post ∷ posts) read due = absurd due
right values all (low ∷ seen) [] read due = absurd due
right values all (low ∷ seen) (post ∷ posts) read due =
    All-cons (IsRight values all) post posts
    (right_one values all low post (λ k is. read k (zero, omega arith, is)) due.0)
    (right values all seen posts (λ k there. read k (suc there.0, omega (arith, there.1), there.2)) due.1)

-- ---- the whole

pub posted_of : (values : List PostValue) (board : BoardId) (share : ℕ) (tray : List Post) (seat : SeatState) (n : ℕ) → length values ≡ n → HasWorked values board share true tray seat
    → All (λ k. k < n) seat.claims → ((k : ℕ) → k < n → times k seat.claims ≡ 1) → ((k : ℕ) → Contains seat.seen (Some k) → Contains seat.breaks k) → Posted values tray
posted_of values board share tray seat n long worked below once read =
    let claims = worked.seated.3 in
    record {
      once = λ k lt. sym (times_posts k tray) ∙ ap (times k) (sym claims) ∙ once k (omega (arith, long, lt));
      within = within (length values) tray (subst (λ m. All (λ k. k < m) (map epoch tray)) (sym long) (subst (All (λ k. k < n)) claims below));
      right = right values tray seat.seen tray (λ k there. broke_in k tray (subst (λ breaks. Contains breaks k) worked.breaks (read k there))) worked.due;
    }
