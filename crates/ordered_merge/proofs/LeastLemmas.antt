-- The least epoch that broke, where one more post is read.
use Rattle.std.proofs.Common.{◌≡◌, ◌≢◌, ℕ, leb, List, [], ◌∷◌, ◌++◌, Option, Some, None, ◌⊎◌, inl, inr, ap, arith}
use Rattle.std.proofs.lemmas.Bool.{leb-true, leb-false, cond_both}
use Rattle.std.proofs.lemmas.List.Elements.{Contains-append_left, Contains-push, Contains-push_cases}
use Rattle.call_log.specs.declared.breaks.Break.{Break}
use Rattle.epoch_core.specs.declared.post.Post.{Post}
use Rattle.epoch_core.specs.declared.post.PostValue.{PostValue}
use Rattle.epoch_core.specs.declared.post.PostValue.TheVariants.{Ran, Broke, Skipped}
use Rattle.epoch_core.specs.Posts.{BrokeAt, post_of}
use Rattle.ordered_merge.specs.declared.least.BrokenEpoch.{BrokenEpoch}
use Rattle.ordered_merge.specs.Least.{IsLeast, lesser, lesser_of, lesser_at}

pub none_yet : IsLeast [] None
none_yet k (first, there) = absurd (let within = there.1 in omega arith)

-- a post that did not break changes nothing
kept : (posts : List Post) (least : Option BrokenEpoch) (post : Post) → ((first : Break) → post.value ≢ Broke first) → IsLeast posts least → IsLeast (posts ++ post ∷ []) least
kept posts least post not is =
    let back : (k : ℕ) → BrokeAt (posts ++ post ∷ []) k → BrokeAt posts k =
    λ k broke. elim (Contains-push_cases posts post (post_of k (Broke broke.0)) broke.1) [
      | inl old ↦ (broke.0, old)
      | inr same ↦ absurd (not broke.0 (ap (λ (p : Post). p.value) same))
    ] in
    elim least as (λ l. IsLeast posts l → IsLeast (posts ++ post ∷ []) l) [
      | None ↦ λ none k broke. none k (back k broke)
      | Some broken ↦ λ old. (Contains-append_left posts (post ∷ []) (post_of broken.epoch (Broke broken.first)) old.0, λ k broke. old.1 k (back k broke))
    ] is

abbrev post_at : BrokenEpoch → Post
post_at broken = post_of broken.epoch (Broke broken.first)

-- what broke, broke before or is the one that is added
one_more : (posts : List Post) (other : BrokenEpoch) (k : ℕ) → BrokeAt (posts ++ post_at other ∷ []) k → BrokeAt posts k ⊎ (other.epoch ≡ k)
one_more posts other k broke =
    elim (Contains-push_cases posts (post_at other) (post_of k (Broke broke.0)) broke.1) [
      | inl old ↦ inl (broke.0, old)
      | inr same ↦ inr (ap (λ (p : Post). p.epoch) same)
    ]

lesser_is : (posts : List Post) (least : Option BrokenEpoch) (other : BrokenEpoch) → IsLeast posts least → IsLeast (posts ++ post_at other ∷ []) (lesser_of least other)
lesser_is posts None other none = (
  Contains-push posts (post_at other),
  λ k broke. elim (one_more posts other k broke) [
    | inl old ↦ absurd (none k old)
    | inr same ↦ omega arith
  ],
)
lesser_is posts (Some broken) other least =
    cond_both (leb broken.epoch other.epoch) (Some broken) (Some other) (IsLeast (posts ++ post_at other ∷ []))
    (λ le. (
      Contains-append_left posts (post_at other ∷ []) (post_at broken) least.0,
      λ k broke. elim (one_more posts other k broke) [
        | inl old ↦ least.1 k old
        | inr same ↦ let order = leb-true broken.epoch other.epoch le in omega arith
      ],
    ))
    (λ gt. (
      Contains-push posts (post_at other),
      λ k broke. elim (one_more posts other k broke) [
        | inl old ↦ let above = least.1 k old in let order = leb-false broken.epoch other.epoch gt in omega arith
        | inr same ↦ omega arith
      ],
    ))

least_at : (posts : List Post) (least : Option BrokenEpoch) (k : ℕ) (value : PostValue) → IsLeast posts least → IsLeast (posts ++ post_of k value ∷ []) (lesser_at least k value)
least_at posts least k (Ran records parts) is = kept posts least (post_of k (Ran records parts)) (λ first same. absurd (cc)) is
least_at posts least k (Broke first) is = lesser_is posts least (record { epoch = k; first = first }) is
least_at posts least k (Skipped below) is = kept posts least (post_of k (Skipped below)) (λ first same. absurd (cc)) is

pub least_more : (posts : List Post) (least : Option BrokenEpoch) (post : Post) → IsLeast posts least → IsLeast (posts ++ post ∷ []) (lesser least post)
least_more posts least post is = least_at posts least post.epoch post.value is
