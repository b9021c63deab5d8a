-- What a seat's view becomes at each kind of step.
use Rattle.std.specs.Prelude.{ℕ, ◌+◌, ◌-◌, Bool, true, false, ◌||◌, nat_lt, if◌then◌else◌, [], ◌∷◌, ◌++◌, Option, Some, None}
use Rattle.atomic_table.specs.Seated.{TableId}
use Rattle.epoch_board.specs.Seats.{SeatState}
use Rattle.epoch_board.specs.declared.view.View.{View}

-- the view of a seat that has claimed nothing
abbrev pub new_view : ℕ → ℕ → ℕ → Bool → View
new_view epochs seats share told = record {
  epochs = epochs;
  seats = seats;
  share = share;
  claims = [];
  breaks = [];
  seen = [];
  told = told;
}

-- the view of a seat that another one took in
abbrev pub spent : View
spent = new_view 0 0 0 false

-- the seat of this view, as contracts see it
abbrev pub seat_of : TableId → View → SeatState
seat_of table v = record {
  board = record { table = table; epochs = v.epochs; seats = v.seats };
  share = v.share;
  claims = v.claims;
  breaks = v.breaks;
  seen = v.seen;
  told = v.told;
}

-- the epoch that a word names, where it is below the epochs
abbrev pub epoch_of : ℕ → ℕ → Option ℕ
epoch_of epochs word = if nat_lt word epochs then Some word else None

-- a claim: the number drawn joins the claims where it is below the epochs, else the seat was told
abbrev pub claimed : View → ℕ → View
claimed v drawn =
    if nat_lt drawn v.epochs
    then record v { claims = v.claims ++ drawn ∷ [] }
    else record v { told = true }

-- a load of the least break
abbrev pub looked : View → ℕ → View
looked v word = record v { seen = v.seen ++ epoch_of v.epochs word ∷ [] }

-- epoch k broke
abbrev pub lowered : View → ℕ → View
lowered v k = record v { breaks = v.breaks ++ k ∷ [] }

-- a split: what stays, and what the new seat has
abbrev pub kept : View → View
kept v = record v { share = v.share - 1 }

abbrev pub given : View → View
given v = new_view v.epochs v.seats 1 v.told

-- a join
abbrev pub merged : View → View → View
merged v w = record {
  epochs = v.epochs;
  seats = v.seats;
  share = v.share + w.share;
  claims = v.claims ++ w.claims;
  breaks = v.breaks ++ w.breaks;
  seen = v.seen ++ w.seen;
  told = v.told || w.told;
}
