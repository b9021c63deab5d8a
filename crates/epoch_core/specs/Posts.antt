-- Posts of epochs, and when a list of posts is whole.
use Rattle.std.specs.Prelude.{◌≡◌, ℕ, ◌<◌, ◌==◌, ◌⊎◌, ⊤, List, length, Some, All, Contains, count_by, slice_get}
use Rattle.call_log.specs.declared.breaks.Break.{Break}
use Rattle.analysers.specs.declared.kind.Kind.{Kind}
use Rattle.analysers.specs.Pieces.{parts_of}
use Rattle.epoch_core.specs.declared.post.Post.{Post}
use Rattle.epoch_core.specs.declared.post.PostValue.{PostValue}
use Rattle.epoch_core.specs.declared.post.PostValue.TheVariants.{Ran, Broke, Skipped}

-- a value that comes of the epoch itself: it ran, or it broke
abbrev pub IsOwn : PostValue → Type 0
IsOwn (Ran records parts) = ⊤
IsOwn (Broke first) = ⊤
IsOwn (Skipped below) = ⊥

-- the parts of an epoch that ran are those that its records make for these kinds
abbrev pub HasParts : List Kind → PostValue → Type 0
HasParts kinds (Ran records parts) = parts ≡ parts_of kinds records
HasParts kinds (Broke first) = ⊤
HasParts kinds (Skipped below) = ⊤

abbrev pub post_of : ℕ → PostValue → Post
post_of k value = record { epoch = k; value = value }

-- how many of the posts are of epoch k
abbrev pub posts_for : ℕ → List Post → ℕ
posts_for k posts = count_by (λ post. post.epoch == k) posts

-- a post of epoch k says that it broke
abbrev pub BrokeAt : List Post → ℕ → Type 0
BrokeAt posts k = (first : Break) × Contains posts (post_of k (Broke first))

-- the post was skipped below a smaller epoch that broke
abbrev pub IsSkip : List Post → Post → Type 0
IsSkip posts post =
    (below : ℕ) × (post.value ≡ Skipped below) × (below < post.epoch) × BrokeAt posts below

-- a post has its epoch's value, or it is a skip
abbrev pub IsRight : List PostValue → List Post → Post → Type 0
IsRight values posts post = (slice_get values post.epoch ≡ Some post.value) ⊎ IsSkip posts post

-- The posts are those of epochs with these values: each epoch has exactly one post, and no other
-- number has one; each post has its epoch's value, or was skipped below a smaller epoch whose post
-- says that it broke.
pub record Posted (values : List PostValue) (posts : List Post) : Type 0 where
  pub once : (k : ℕ) → k < length values → posts_for k posts ≡ 1
  pub within : All (λ post. post.epoch < length values) posts
  pub right : All (IsRight values posts) posts
