-- What a worker did: its tray, its seat, and how they go together.
use Rattle.std.specs.Prelude.{◌≡◌, ℕ, Bool, true, nat_lt, if◌then◌else◌, List, [], ◌∷◌, ◌++◌, map, Option, Some, None, slice_get}
use Rattle.std.specs.List.{AllZip, flat_map}
use Rattle.epoch_board.specs.Seats.{BoardId, SeatState, IsSeatOf}
use Rattle.epoch_core.specs.declared.post.Post.{Post}
use Rattle.epoch_core.specs.declared.post.PostValue.{PostValue}
use Rattle.epoch_core.specs.declared.post.PostValue.TheVariants.{Broke, Skipped}
use Rattle.epoch_worker.specs.declared.worker.Worked.{Worked}

-- the epoch that a load of the least break gave, where it is smaller than k
abbrev pub smaller : Option ℕ → ℕ → Option ℕ
smaller None k = None
smaller (Some low) k = if nat_lt low k then Some low else None

-- what is due of epoch k: skipped below that smaller epoch, or its value
abbrev pub IsDueBelow : List PostValue → ℕ → Option ℕ → Post → Type 0
IsDueBelow values k None post = slice_get values k ≡ Some post.value
IsDueBelow values k (Some below) post = post.value ≡ Skipped below

-- a post is due, where the load after its claim gave this
abbrev pub IsDue : List PostValue → Option ℕ → Post → Type 0
IsDue values low post = IsDueBelow values post.epoch (smaller low post.epoch) post

-- the epoch of a post, where it broke
abbrev pub if_broke : ℕ → PostValue → List ℕ
if_broke k (Broke first) = k ∷ []
if_broke k other = []

abbrev pub broken_of : Post → List ℕ
broken_of post = if_broke post.epoch post.value

-- What a worker made of a seat of any share and any past, with the posts that it filled a tray
-- with: the seat is one of the same board with its share as before; it claimed the epochs of the
-- posts, in order; the load of the least break after each of these claims gave what is read, in the
-- same order, and each post is due by it; and the seat said of exactly those that broke that they
-- did. All that the seat had before stands before these.
pub record HasAdded (values : List PostValue) (tray : List Post) (old new : SeatState) : Type 0
  where
    pub board : new.board ≡ old.board
    pub share : new.share ≡ old.share
    pub claims : new.claims ≡ old.claims ++ map (λ post. post.epoch) tray
    pub read : List (Option ℕ)
    pub seen : new.seen ≡ old.seen ++ read
    pub due : AllZip (IsDue values) read tray
    pub breaks : new.breaks ≡ old.breaks ++ flat_map broken_of tray

-- the same once the seat was told that no epoch is left
pub record HasFinishedFrom (values : List PostValue) (old : SeatState) (worked : Worked) : Type 0
  where
    pub added : HasAdded values worked.tray.items old worked.seat
    pub told : worked.seat.told ≡ true

-- A seat of the board with this share, told or not, that began with nothing, and the posts of its
-- workers: they are those of the epochs that it claimed, in order; each is due by the load that was
-- made after its claim; and the seat said of exactly those that broke that they did.
pub record HasWorked
    (values : List PostValue) (board : BoardId) (share : ℕ) (told : Bool)
    (tray : List Post) (seat : SeatState) : Type 0 where
  pub seated : IsSeatOf board share told (map (λ post. post.epoch) tray) seat
  pub due : AllZip (IsDue values) seat.seen tray
  pub breaks : seat.breaks ≡ flat_map broken_of tray

-- the same once the seat was told that no epoch is left
abbrev pub HasFinished : List PostValue → BoardId → ℕ → Worked → Type 0
HasFinished values board share worked =
    HasWorked values board share true worked.tray.items worked.seat
