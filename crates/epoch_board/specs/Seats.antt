-- What contracts see of a board and of a seat.
use Rattle.std.specs.Prelude.{◌≡◌, ℕ, ◌+◌, ◌-◌, max, Bool, ◌||◌, List, [], ◌∷◌, ◌++◌, Option}
use Rattle.atomic_table.specs.Seated.{TableId}

-- which board it is, how many epochs it has, and how many seats can be made of it
pub record BoardId : Type 0 where
  pub table : TableId
  pub epochs : ℕ
  pub seats : ℕ

-- A seat: the board that it is of; its share of the seats that can be made; the epochs that it
-- claimed, those of them that it said broke, and what each of its loads of the least break gave,
-- each in order; and whether it was told that no epoch is left
pub record SeatState : Type 0 where
  pub board : BoardId
  pub share : ℕ
  pub claims : List ℕ
  pub breaks : List ℕ
  pub seen : List (Option ℕ)
  pub told : Bool

-- a seat that has claimed nothing
abbrev pub new_seat : BoardId → ℕ → Bool → SeatState
new_seat board share told =
    record { board = board; share = share; claims = []; breaks = []; seen = []; told = told }

-- a seat that took in another one: it has what both had, and was told where one was
abbrev pub joined : SeatState → SeatState → SeatState
joined seat other = record {
  board = seat.board;
  share = seat.share + other.share;
  claims = seat.claims ++ other.claims;
  breaks = seat.breaks ++ other.breaks;
  seen = seat.seen ++ other.seen;
  told = seat.told || other.told;
}

-- the least number above each of these
abbrev pub above : List ℕ → ℕ
above [] = 0
above (k ∷ ks) = max (k + 1) (above ks)

-- how many epochs of the board are above all that the seat claimed
abbrev pub epochs_left : SeatState → ℕ
epochs_left seat = seat.board.epochs - above seat.claims

-- a seat of the board with this share, told or not, that has claimed these epochs
abbrev pub IsSeatOf : BoardId → ℕ → Bool → List ℕ → SeatState → Type 0
IsSeatOf board share told claims seat =
    (seat.board ≡ board) × (seat.share ≡ share) × (seat.told ≡ told) × (seat.claims ≡ claims)
