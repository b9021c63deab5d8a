-- The least epoch whose post says that it broke is the first that broke; and where no post says so, none was skipped.
use Rattle.std.proofs.Common.{◌≡◌, ◌≢◌, ◌↔◌, ℕ, zero, suc, ◌<◌, Bool, true, false, cond, eqb, List, [], ◌∷◌, length, Some, None, Ok, Err, inl, inr, refl, ap, subst, arith, ◌∙◌, sym}
use Rattle.std.specs.List.{All, Contains, count_by, filter_map, flat_map, slice_get}
use Rattle.std.proofs.lemmas.Bool.{eqb-true}
use Rattle.std.proofs.lemmas.List.Sums.{sum_by-cons}
use Rattle.std.proofs.lemmas.List.Elements.{All-contains, Contains-append_right}
use Rattle.std.proofs.lemmas.Option.{same_Some, slice_get_within}
use Rattle.call_log.specs.declared.breaks.Break.{Break}
use Rattle.analysers.specs.declared.kind.Kind.{Kind}
use Rattle.analysers.specs.declared.merged.Merged.{Merged}
use Rattle.analysers.specs.Pieces.{merged_of}
use Rattle.epoch_core.specs.declared.post.Post.{Post}
use Rattle.epoch_core.specs.declared.post.PostValue.{PostValue}
use Rattle.epoch_core.specs.declared.post.PostValue.TheVariants.{Ran, Broke, Skipped}
use Rattle.epoch_core.specs.Posts.{Posted, IsRight, post_of}
use Rattle.ordered_merge.specs.declared.least.BrokenEpoch.{BrokenEpoch}
use Rattle.ordered_merge.specs.Least.{IsLeast}
use Rattle.ordered_merge.specs.Merged.{merged, unless_broken, break_in, records_in, BreaksFirstAt, NoneBroke}

-- ---- what the merge means

no_breaks : (values : List PostValue) → NoneBroke values → filter_map break_in values ≡ []
no_breaks [] none = refl
no_breaks (Ran records parts ∷ values) none = no_breaks values (λ k first. none (suc k) first)
no_breaks (Broke first ∷ values) none = absurd (none zero first refl)
no_breaks (Skipped below ∷ values) none = no_breaks values (λ k first. none (suc k) first)

pub merged_ran : (kinds : List Kind) (values : List PostValue) → NoneBroke values → merged kinds values ≡ Ok (merged_of kinds (flat_map records_in values))
unfolding merged
merged_ran kinds values none = ap (λ breaks. unless_broken breaks (merged_of kinds (flat_map records_in values))) (no_breaks values none)

later : (value : PostValue) (values : List PostValue) (k : ℕ) (first : Break) → BreaksFirstAt (value ∷ values) (suc k) first → BreaksFirstAt values k first
later value values k first at = record { broke = at.broke; least = λ j earlier less. at.least (suc j) earlier (omega arith) }

first_break : (values : List PostValue) (k : ℕ) (first : Break) (whole : Merged) → BreaksFirstAt values k first
    → unless_broken (filter_map break_in values) whole ≡ Err first
first_break [] k first whole at = absurd (let broke = at.broke in cc)
first_break (Ran left parts ∷ values) zero first whole at = absurd (let broke = at.broke in cc)
first_break (Ran left parts ∷ values) (suc k) first whole at = first_break values k first whole (later (Ran left parts) values k first at)
first_break (Broke own ∷ values) zero first whole at = let broke = at.broke in cc
first_break (Broke own ∷ values) (suc k) first whole at = absurd (at.least zero own (omega arith) refl)
first_break (Skipped below ∷ values) zero first whole at = absurd (let broke = at.broke in cc)
first_break (Skipped below ∷ values) (suc k) first whole at = first_break values k first whole (later (Skipped below) values k first at)

pub merged_broke : (kinds : List Kind) (values : List PostValue) (k : ℕ) (first : Break) → BreaksFirstAt values k first → merged kinds values ≡ Err first
unfolding merged
merged_broke kinds values k first at = first_break values k first (merged_of kinds (flat_map records_in values)) at

-- a value that is no break, before others
none_with : (value : PostValue) (values : List PostValue) → ((b : Break) → value ≢ Broke b) → NoneBroke values → NoneBroke (value ∷ values)
none_with value values not none zero first is = not first (same_Some value (Broke first) is)
none_with value values not none (suc k) first is = none k first is

none_before : (value : PostValue) (values : List PostValue) (k : ℕ) (first : Break) → ((b : Break) → value ≢ Broke b) → BreaksFirstAt values k first
    → (j : ℕ) (earlier : Break) → j < suc k → slice_get (value ∷ values) j ≢ Some (Broke earlier)
none_before value values k first not at zero earlier less is = not earlier (same_Some value (Broke earlier) is)
none_before value values k first not at (suc j) earlier less is = at.least j earlier (omega arith) is

sooner : (value : PostValue) (values : List PostValue) (first : Break) → ((b : Break) → value ≢ Broke b) → (k : ℕ) × BreaksFirstAt values k first
    → (k : ℕ) × BreaksFirstAt (value ∷ values) k first
sooner value values first not (k, at) = (suc k, record { broke = at.broke; least = none_before value values k first not at })

break_from : (values : List PostValue) (whole : Merged) (first : Break) → unless_broken (filter_map break_in values) whole ≡ Err first
    → (k : ℕ) × BreaksFirstAt values k first
break_from [] whole first is = absurd (cc)
break_from (Ran left parts ∷ values) whole first is = sooner (Ran left parts) values first (λ b same. absurd (cc)) (break_from values whole first is)
break_from (Broke own ∷ values) whole first is = (zero, record { broke = cc; least = λ j earlier less here. absurd (omega arith) })
break_from (Skipped below ∷ values) whole first is = sooner (Skipped below) values first (λ b same. absurd (cc)) (break_from values whole first is)

whole_from : (values : List PostValue) (all whole : Merged) → unless_broken (filter_map break_in values) all ≡ Ok whole → NoneBroke values × (whole ≡ all)
whole_from [] all whole is = (λ k first here. absurd (cc), cc)
whole_from (Ran left parts ∷ values) all whole is =
    let rest = whole_from values all whole is in
    (none_with (Ran left parts) values (λ b same. absurd (cc)) rest.0, rest.1)
whole_from (Broke own ∷ values) all whole is = absurd (cc)
whole_from (Skipped below ∷ values) all whole is =
    let rest = whole_from values all whole is in
    (none_with (Skipped below) values (λ b same. absurd (cc)) rest.0, rest.1)

pub merged_broke_iff : (kinds : List Kind) (values : List PostValue) (first : Break) → (merged kinds values ≡ Err first) ↔ ((k : ℕ) × BreaksFirstAt values k first)
unfolding merged
merged_broke_iff kinds values first = (break_from values (merged_of kinds (flat_map records_in values)) first, λ at. merged_broke kinds values at.0 first at.1)

pub merged_ran_iff : (kinds : List Kind) (values : List PostValue) (whole : Merged) → (merged kinds values ≡ Ok whole) ↔ (NoneBroke values × (whole ≡ merged_of kinds (flat_map records_in values)))
unfolding merged
merged_ran_iff kinds values whole = (whole_from values (merged_of kinds (flat_map records_in values)) whole, λ h. merged_ran kinds values h.0 ∙ ap Ok (sym h.1))

-- ---- each epoch has a post

-- what is counted is in the list
counted : {X : Type 0} (p : X → Bool) (xs : List X) → 0 < count_by p xs → (x : X) × Contains xs x × (p x ≡ true)
counted {X} p [] h = absurd (omega arith)
counted {X} p (x ∷ xs) h =
    elim (p x) as (λ b. p x ≡ b → (y : X) × Contains (x ∷ xs) y × ◌≡◌ {A = Bool} (p y) true) [
      | true ↦ λ is. (x, (0, omega arith, refl), is)
      | false ↦ λ is.
          let one : ◌≡◌ {A = ℕ} (cond (p x) 1 0) 0 = ap (λ b. cond b 1 0) is in
          let rest = counted p xs (omega (arith, sum_by-cons (λ y. cond (p y) 1 0) x xs, one)) in
          (rest.0, Contains-append_right (x ∷ []) xs rest.0 rest.1, rest.2)
    ] refl

has_post : (values : List PostValue) (posts : List Post) (k : ℕ) → Posted values posts → k < length values → (value : PostValue) × Contains posts (post_of k value)
has_post values posts k posted within =
    let found = counted (λ (post : Post). eqb post.epoch k) posts (omega (arith, posted.once k within)) in
    (found.0.value, subst (λ n. Contains posts (post_of n found.0.value)) (eqb-true found.0.epoch k found.2) found.1)

-- ---- what the posts say

-- an epoch that broke below all others that did: its value is its own, since a skip names a smaller one
pub least_is_first : (values : List PostValue) (posts : List Post) (broken : BrokenEpoch) → Posted values posts → IsLeast posts (Some broken)
    → BreaksFirstAt values broken.epoch broken.first
least_is_first values posts broken posted least =
    record {
      broke = elim (All-contains (IsRight values posts) posts (post_of broken.epoch (Broke broken.first)) posted.right least.0) [
        | inl own ↦ own
        | inr skip ↦ absurd (let h = skip.1 in cc)
      ];
      least = λ j earlier less is.
          let post = has_post values posts j posted (slice_get_within values j (Broke earlier) is) in
          elim (All-contains (IsRight values posts) posts (post_of j post.0) posted.right post.1) [
            | inl own ↦
                let same : post.0 ≡ Broke earlier = cc in
                let above = least.1 j (earlier, subst (λ v. Contains posts (post_of j v)) same post.1) in
                omega arith
            | inr skip ↦ let above = least.1 skip.0 skip.3 in let below = skip.2 in omega arith
          ];
    }

-- where no post says that its epoch broke, none is skipped, and each has its epoch's value
pub all_own : (values : List PostValue) (posts : List Post) → Posted values posts → IsLeast posts None
    → All (λ (post : Post). slice_get values post.epoch ≡ Some post.value) posts
all_own values posts posted none i d within =
    elim (posted.right i d within) [
      | inl own ↦ own
      | inr skip ↦ absurd (none skip.0 skip.3)
    ]

pub none_broke : (values : List PostValue) (posts : List Post) → Posted values posts → IsLeast posts None → NoneBroke values
none_broke values posts posted none k first is =
    let post = has_post values posts k posted (slice_get_within values k (Broke first) is) in
    let own : slice_get values k ≡ Some post.0 =
    All-contains (λ (p : Post). slice_get values p.epoch ≡ Some p.value) posts (post_of k post.0) (all_own values posts posted none) post.1 in
    let same : post.0 ≡ Broke first = cc in
    none k (first, subst (λ v. Contains posts (post_of k v)) same post.1)
