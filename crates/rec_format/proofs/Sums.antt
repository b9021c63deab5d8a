-- What is told of a list, where one more item is added.
use Rattle.std.proofs.Common.{◌≡◌, ℕ, zero, suc, ◌+◌, List, [], ◌∷◌, ◌++◌, length, get_or, Option, Some, refl, ap, ◌∙◌, arith}
use Rattle.std.proofs.lemmas.List.{append-nil}
use Rattle.std.proofs.lemmas.List.Concat.{flat_map-append}
use Rattle.std.proofs.lemmas.List.Sums.{sum_by_push, sum_by-append}
use Rattle.rec_format.specs.declared.recording.ListedPage.{ListedPage}
use Rattle.rec_format.specs.declared.recording.CheckpointData.{CheckpointData}
use Rattle.rec_format.specs.Rules.{args_size, last_or, listings}

pub args_size-push : (args : List (List ℕ)) (arg : List ℕ) → args_size (args ++ arg ∷ []) ≡ args_size args + (length arg + 1)
args_size-push args arg = sum_by_push (λ (arg : List ℕ). length arg + 1) args arg

pub last_or-push : {X : Type 0} (before : Option ℕ) (number : X → ℕ) (xs : List X) (x : X) → last_or before number (xs ++ x ∷ []) ≡ Some (number x)
last_or-push before number [] x = refl
last_or-push before number (y ∷ ys) x = last_or-push (Some (number y)) number ys x

-- the last item is the one at the highest index
pub last_or-at : {X : Type 0} (before : Option ℕ) (number : X → ℕ) (xs : List X) (k : ℕ) (x : X) → k + 1 ≡ length xs → x ≡ get_or xs k x → Some (number x) ≡ last_or before number xs
last_or-at before number [] k x len is = absurd (omega arith)
last_or-at before number (y ∷ ys) (suc k) x len is = last_or-at (Some (number y)) number ys k x (omega arith) is
last_or-at before number (y ∷ []) zero x len is = ap (λ z. Some (number z)) is
last_or-at before number (y ∷ z ∷ zs) zero x len is = absurd (omega arith)

pub listings-push : (checkpoints : List CheckpointData) (checkpoint : CheckpointData) → listings (checkpoints ++ checkpoint ∷ []) ≡ listings checkpoints ++ checkpoint.pages
listings-push checkpoints checkpoint = flat_map-append (λ (c : CheckpointData). c.pages) checkpoints (checkpoint ∷ []) ∙ ap (λ (pages : List ListedPage). listings checkpoints ++ pages) (append-nil checkpoint.pages)

pub args_size-append : (args others : List (List ℕ)) → args_size (args ++ others) ≡ args_size args + args_size others
args_size-append args others = sum_by-append (λ (arg : List ℕ). length arg + 1) args others

pub listings-append : (checkpoints others : List CheckpointData) → listings (checkpoints ++ others) ≡ listings checkpoints ++ listings others
listings-append checkpoints others = flat_map-append (λ (c : CheckpointData). c.pages) checkpoints others
