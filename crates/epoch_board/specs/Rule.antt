-- The rule of a board: what holds between any two steps of its seats.
use Rattle.std.specs.Prelude.{◌≡◌, ℕ, ◌+◌, ◌<◌, ◌≤◌, ◌^◌, ◌==◌, ◌⊎◌, Bool, false, if◌then◌else◌, List, [], ◌∷◌, Option, Some, None, All, Contains, count_by, sum_by}
use Rattle.atomic_table.specs.Table.{State}
use Rattle.epoch_board.specs.declared.view.View.{View}
use Rattle.epoch_board.specs.declared.view.TheConstants.{NO_EPOCH}
use Rattle.epoch_board.specs.Views.{spent}

-- how often k stands in a list
abbrev pub times : ℕ → List ℕ → ℕ
times k xs = count_by (λ x. x == k) xs

-- what was read names epoch k
abbrev pub names : ℕ → Option ℕ → Bool
names k None = false
names k (Some j) = j == k

-- over all views: how often epoch k was claimed, how often it was said to have broken, and how
-- often a load gave it
abbrev pub claims_of : ℕ → List View → ℕ
claims_of k views = sum_by (λ v. times k v.claims) views

abbrev pub breaks_of : ℕ → List View → ℕ
breaks_of k views = sum_by (λ v. times k v.breaks) views

abbrev pub reads_of : ℕ → List View → ℕ
reads_of k views = sum_by (λ v. count_by (names k) v.seen) views

-- the shares of all seats, and of those that were told
abbrev pub shares_of : List View → ℕ
shares_of views = sum_by (λ v. v.share) views

abbrev pub told_share : View → ℕ
told_share v = if v.told then v.share else 0

abbrev pub told_shares_of : List View → ℕ
told_shares_of views = sum_by told_share views

-- the view of a seat that can act: it has a share, knows the board's numbers, and its breaks are
-- among its claims
pub record IsActive (epochs seats : ℕ) (v : View) : Type 0 where
  pub has_share : 0 < v.share
  pub same_epochs : v.epochs ≡ epochs
  pub same_seats : v.seats ≡ seats
  pub claimed : All (Contains v.claims) v.breaks

-- The two words are the next number and the least break. Each number below both the next number and
-- the epochs was claimed by one seat, once, and no other number was claimed. A seat was told only
-- where the next number is at least the epochs, and the next number is at most the epochs and the
-- shares of the seats that were told. The least break is at or below each epoch that was said to
-- have broken, and it is one of them or names no epoch. What was read as the least break was said
-- to have broken. The shares add up to the seats, and each seat can act or is spent.
pub record IsKept (epochs seats next low : ℕ) (views : List View) : Type 0 where
  pub small : (epochs < 2 ^ 32) × (seats < 2 ^ 32)
  pub once : (k : ℕ) → k < next → k < epochs → claims_of k views ≡ 1
  pub no_other : (k : ℕ) → (next ≤ k) ⊎ (epochs ≤ k) → claims_of k views ≡ 0
  pub told : 0 < told_shares_of views → epochs ≤ next
  pub drawn : next ≤ epochs + told_shares_of views
  pub least : (k : ℕ) → 0 < breaks_of k views → low ≤ k
  pub known : (low ≡ NO_EPOCH) ⊎ (0 < breaks_of low views)
  pub read : (k : ℕ) → 0 < reads_of k views → 0 < breaks_of k views
  pub shares : shares_of views ≡ seats
  pub seated : All (λ v. IsActive epochs seats v ⊎ (v ≡ spent)) views

-- the same of a table
pub record IsBoard {S : Type 0} (epochs seats : ℕ) (s : State S View) : Type 0 where
  pub next : ℕ
  pub low : ℕ
  pub words : s.words ≡ next ∷ low ∷ []
  pub kept : IsKept epochs seats next low s.views
