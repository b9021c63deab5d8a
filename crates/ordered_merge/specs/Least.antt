-- The least epoch that broke, by the posts.
use Rattle.std.specs.Prelude.{ℕ, ◌≤◌, nat_le, if◌then◌else◌, List, Contains, Option, Some, None}
use Rattle.epoch_core.specs.declared.post.Post.{Post}
use Rattle.epoch_core.specs.declared.post.PostValue.{PostValue}
use Rattle.epoch_core.specs.declared.post.PostValue.TheVariants.{Ran, Broke, Skipped}
use Rattle.epoch_core.specs.Posts.{post_of, BrokeAt}
use Rattle.ordered_merge.specs.declared.least.BrokenEpoch.{BrokenEpoch}

-- this is the least epoch that broke, or none did
abbrev pub IsLeast : List Post → Option BrokenEpoch → Type 0
IsLeast posts None = (k : ℕ) → ¬ (BrokeAt posts k)
IsLeast posts (Some broken) =
    Contains posts (post_of broken.epoch (Broke broken.first))
    × ((k : ℕ) → BrokeAt posts k → broken.epoch ≤ k)

-- the lesser of two epochs that broke, where there are two
abbrev pub lesser_of : Option BrokenEpoch → BrokenEpoch → Option BrokenEpoch
lesser_of None other = Some other
lesser_of (Some broken) other = if nat_le broken.epoch other.epoch then Some broken else Some other

-- the least epoch that broke, once epoch k came to this value too
abbrev pub lesser_at : Option BrokenEpoch → ℕ → PostValue → Option BrokenEpoch
lesser_at least k (Ran records parts) = least
lesser_at least k (Broke first) = lesser_of least (record { epoch = k; first = first })
lesser_at least k (Skipped below) = least

-- the same, once a post was read too
abbrev pub lesser : Option BrokenEpoch → Post → Option BrokenEpoch
lesser least post = lesser_at least post.epoch post.value
