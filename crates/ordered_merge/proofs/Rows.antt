-- Merges that were worked by hand, and posts of three epochs.
use Rattle.std.proofs.Common.{◌≡◌, ℕ, zero, suc, ◌<◌, List, [], ◌∷◌, length, Ok, Err, inl, inr, refl, subst, arith}
use Rattle.std.specs.List.{All}
use Rattle.std.proofs.lemmas.List.Elements.{All-nil, All-cons}
use Rattle.call_log.specs.declared.breaks.Break.{Break}
use Rattle.tracer_lang.specs.declared.record.Record.{Record}
use Rattle.analysers.specs.declared.kind.Kind.{Kind}
use Rattle.analysers.specs.Pieces.{parts_of, merged_of}
use Rattle.epoch_core.specs.declared.post.Post.{Post}
use Rattle.epoch_core.specs.declared.post.PostValue.{PostValue}
use Rattle.epoch_core.specs.declared.post.PostValue.TheVariants.{Ran, Broke, Skipped}
use Rattle.epoch_core.specs.Listed.{record_of}
use Rattle.epoch_core.specs.Posts.{Posted, IsRight, posts_for, post_of, HasParts}
use Rattle.ordered_merge.specs.Merged.{merged}

-- records of one epoch before those of the next
in_order : (kinds : List Kind) → merged kinds
    (Ran (record_of 5 ∷ record_of 6 ∷ []) [] ∷ Ran [] [] ∷ Ran (record_of 7 ∷ []) [] ∷ [])
    ≡ Ok (merged_of kinds (record_of 5 ∷ record_of 6 ∷ record_of 7 ∷ []))
unfolding merged
in_order kinds = refl

-- the first of two breaks, and no record of the epoch before it
first_of_two : (kinds : List Kind) (a b : Break)
    → merged kinds (Ran (record_of 5 ∷ []) [] ∷ Broke a ∷ Broke b ∷ []) ≡ Err a
unfolding merged
first_of_two kinds a b = refl

-- no epoch
nothing : (kinds : List Kind) → merged kinds [] ≡ Ok (merged_of kinds [])
unfolding merged
nothing kinds = refl

all_of_three : (P : Post → Type 0) (a b c : Post) → P a → P b → P c → All P (a ∷ b ∷ c ∷ [])
all_of_three P a b c x y z = All-cons P a (b ∷ c ∷ []) x (All-cons P b (c ∷ []) y (All-cons P c [] z (All-nil P)))

once_of_three : (posts : List Post) → posts_for 0 posts ≡ 1 → posts_for 1 posts ≡ 1 → posts_for 2 posts ≡ 1 → (k : ℕ) → k < 3 → posts_for k posts ≡ 1
once_of_three posts one two three zero h = one
once_of_three posts one two three (suc zero) h = two
once_of_three posts one two three (suc (suc zero)) h = three
once_of_three posts one two three (suc (suc (suc k))) h = absurd (omega arith)

-- three posts that name three epochs
pub posted_three : (values : List PostValue) (a b c : Post) → length values ≡ 3
    → posts_for 0 (a ∷ b ∷ c ∷ []) ≡ 1 → posts_for 1 (a ∷ b ∷ c ∷ []) ≡ 1 → posts_for 2 (a ∷ b ∷ c ∷ []) ≡ 1
    → a.epoch < 3 → b.epoch < 3 → c.epoch < 3
    → IsRight values (a ∷ b ∷ c ∷ []) a → IsRight values (a ∷ b ∷ c ∷ []) b → IsRight values (a ∷ b ∷ c ∷ []) c
    → Posted values (a ∷ b ∷ c ∷ [])
posted_three values a b c long one two three in_a in_b in_c right_a right_b right_c =
    let posts = a ∷ b ∷ c ∷ [] in
    let once : (k : ℕ) → k < 3 → posts_for k posts ≡ 1 = once_of_three posts one two three in
    record {
      once = λ k h. once k (omega (arith, long));
      within = all_of_three (λ (post : Post). post.epoch < length values) a b c (omega (arith, long)) (omega (arith, long)) (omega (arith, long));
      right = all_of_three (IsRight values posts) a b c right_a right_b right_c;
    }

pub posted_as : (values : List PostValue) (a b c x y z : Post) → a ≡ x → b ≡ y → c ≡ z → Posted values (x ∷ y ∷ z ∷ []) → Posted values (a ∷ b ∷ c ∷ [])
posted_as values a b c x y z e f g posted =
    let same : x ∷ y ∷ z ∷ [] ≡ a ∷ b ∷ c ∷ [] = cc in
    subst (Posted values) same posted

-- ---- three epochs that ran

-- what an epoch with these records comes to
abbrev pub ran : List Kind → List Record → PostValue
ran kinds records = Ran records (parts_of kinds records)

abbrev pub all_ran : List Kind → List Record → List Record → List Record → List PostValue
all_ran kinds q r s = ran kinds q ∷ ran kinds r ∷ ran kinds s ∷ []

pub all_have : (kinds : List Kind) (q r s : List Record) → All (HasParts kinds) (all_ran kinds q r s)
all_have kinds q r s =
    All-cons (HasParts kinds) (ran kinds q) (ran kinds r ∷ ran kinds s ∷ []) refl
    (All-cons (HasParts kinds) (ran kinds r) (ran kinds s ∷ []) refl
    (All-cons (HasParts kinds) (ran kinds s) [] refl (All-nil (HasParts kinds))))

pub rising : (x y z : PostValue)
    → Posted (x ∷ y ∷ z ∷ []) (post_of 0 x ∷ post_of 1 y ∷ post_of 2 z ∷ [])
rising x y z =
    posted_three (x ∷ y ∷ z ∷ []) (post_of 0 x) (post_of 1 y) (post_of 2 z) refl refl refl refl
    (omega arith) (omega arith) (omega arith) (inl refl) (inl refl) (inl refl)

pub falling : (x y z : PostValue)
    → Posted (x ∷ y ∷ z ∷ []) (post_of 2 z ∷ post_of 1 y ∷ post_of 0 x ∷ [])
falling x y z =
    posted_three (x ∷ y ∷ z ∷ []) (post_of 2 z) (post_of 1 y) (post_of 0 x) refl refl refl refl
    (omega arith) (omega arith) (omega arith) (inl refl) (inl refl) (inl refl)

pub mixed : (x y z : PostValue)
    → Posted (x ∷ y ∷ z ∷ []) (post_of 1 y ∷ post_of 2 z ∷ post_of 0 x ∷ [])
mixed x y z =
    posted_three (x ∷ y ∷ z ∷ []) (post_of 1 y) (post_of 2 z) (post_of 0 x) refl refl refl refl
    (omega arith) (omega arith) (omega arith) (inl refl) (inl refl) (inl refl)

-- ---- epochs that broke, and others that were skipped

abbrev pub second_broke : List Kind → List Record → Break → List PostValue
second_broke kinds r a = ran kinds r ∷ Broke a ∷ ran kinds [] ∷ []

abbrev pub first_broke : List Kind → Break → List PostValue
first_broke kinds a = Broke a ∷ ran kinds [] ∷ ran kinds [] ∷ []

abbrev pub two_broke : List Kind → List Record → Break → Break → List PostValue
two_broke kinds r a b = ran kinds r ∷ Broke a ∷ Broke b ∷ []

pub second_has : (kinds : List Kind) (r : List Record) (a : Break)
    → All (HasParts kinds) (second_broke kinds r a)
second_has kinds r a =
    All-cons (HasParts kinds) (ran kinds r) (Broke a ∷ ran kinds [] ∷ []) refl
    (All-cons (HasParts kinds) (Broke a) (ran kinds [] ∷ []) tt
    (All-cons (HasParts kinds) (ran kinds []) [] refl (All-nil (HasParts kinds))))

pub first_has : (kinds : List Kind) (a : Break) → All (HasParts kinds) (first_broke kinds a)
first_has kinds a =
    All-cons (HasParts kinds) (Broke a) (ran kinds [] ∷ ran kinds [] ∷ []) tt
    (All-cons (HasParts kinds) (ran kinds []) (ran kinds [] ∷ []) refl
    (All-cons (HasParts kinds) (ran kinds []) [] refl (All-nil (HasParts kinds))))

pub two_have : (kinds : List Kind) (r : List Record) (a b : Break)
    → All (HasParts kinds) (two_broke kinds r a b)
two_have kinds r a b =
    All-cons (HasParts kinds) (ran kinds r) (Broke a ∷ Broke b ∷ []) refl
    (All-cons (HasParts kinds) (Broke a) (Broke b ∷ []) tt
    (All-cons (HasParts kinds) (Broke b) [] tt (All-nil (HasParts kinds))))

pub third_skipped : (kinds : List Kind) (r : List Record) (a : Break)
    → Posted (second_broke kinds r a)
    (post_of 2 (Skipped 1) ∷ post_of 0 (ran kinds r) ∷ post_of 1 (Broke a) ∷ [])
third_skipped kinds r a =
    posted_three (second_broke kinds r a) (post_of 2 (Skipped 1)) (post_of 0 (ran kinds r))
    (post_of 1 (Broke a)) refl refl refl refl (omega arith) (omega arith) (omega arith)
    (inr (1, refl, omega arith, (a, (2, omega arith, refl)))) (inl refl) (inl refl)

pub both_skipped : (kinds : List Kind) (a : Break) → Posted (first_broke kinds a)
    (post_of 0 (Broke a) ∷ post_of 2 (Skipped 0) ∷ post_of 1 (Skipped 0) ∷ [])
both_skipped kinds a =
    posted_three (first_broke kinds a) (post_of 0 (Broke a)) (post_of 2 (Skipped 0))
    (post_of 1 (Skipped 0)) refl refl refl refl (omega arith) (omega arith) (omega arith)
    (inl refl) (inr (0, refl, omega arith, (a, (0, omega arith, refl))))
    (inr (0, refl, omega arith, (a, (0, omega arith, refl))))
