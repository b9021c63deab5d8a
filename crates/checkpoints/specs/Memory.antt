-- The pages of memory that differ from those that a checkpoint records.
use Rattle.std.specs.Prelude.{◌≡◌, ℕ, ◌*◌, ◌<◌, List, [], ◌∷◌, Option, Some, None}
use Rattle.std.specs.Prelude.{Bool, false, nat_lt, nat_le, if◌then◌else◌, IsSome}
use Rattle.std.specs.FinMap.{get, contains_key}
use Rattle.sl_model.specs.Pages.{Pages}
use Rattle.call_log.specs.declared.part.TheConstants.{PAGE}
use Rattle.call_log.specs.declared.breaks.BreakKind.{BreakKind}
use Rattle.call_log.specs.declared.breaks.BreakKind.TheVariants.{CheckpointDiffers}
use Rattle.rec_format.specs.declared.recording.Recording.{Recording}
use Rattle.rec_format.specs.declared.recording.ListedPage.{ListedPage}
use Rattle.rec_format.specs.Compared.{PartDiff, page_diff, as_checkpoint_break}

-- ---- mapped pages

-- how a page differs, where it is mapped
abbrev pub mapped_diff : Pages → Recording → ℕ → ℕ → Option (List ℕ) → Option PartDiff
mapped_diff opened rec k number (Some bytes) = page_diff opened rec k number (Some bytes)
mapped_diff opened rec k number None = None

-- the least mapped page that differs, if there is one, and how it does
abbrev pub IsFirstUnlike : Pages → Recording → ℕ → Pages → Option (ℕ × BreakKind) → Type 0
IsFirstUnlike opened rec k pages None = (q : ℕ) → mapped_diff opened rec k q (get pages q) ≡ None
IsFirstUnlike opened rec k pages (Some found) =
    (as_checkpoint_break k (mapped_diff opened rec k found.0 (get pages found.0)) ≡ Some found.1)
    × IsSome (get pages found.0)
    × ((q : ℕ) → q < found.0 → mapped_diff opened rec k q (get pages q) ≡ None)

-- what is told of a page differs from what the checkpoint records
abbrev pub IsUnlike : Pages → Recording → ℕ → Pages → Option (ℕ × BreakKind) → Type 0
IsUnlike opened rec k pages None = Unit {0}
IsUnlike opened rec k pages (Some found) =
    (as_checkpoint_break k (mapped_diff opened rec k found.0 (get pages found.0)) ≡ Some found.1)
    × IsSome (get pages found.0)

-- a page was compared: it does not differ, or what is told is of a page that is not above it
abbrev pub IsCompared : Pages → Recording → ℕ → Pages → Option (ℕ × BreakKind) → ℕ → Type 0
IsCompared opened rec k pages None q = mapped_diff opened rec k q (get pages q) ≡ None
IsCompared opened rec k pages (Some found) q =
    q < found.0 → mapped_diff opened rec k q (get pages q) ≡ None

-- whether what is told is of a page that is not above another one
abbrev pub is_passed : Option (ℕ × BreakKind) → ℕ → Bool
is_passed None page = false
is_passed (Some found) page = nat_le found.0 page

-- ---- listed pages that are not mapped

-- the lesser of two numbers, of which the first may be missing
abbrev pub lesser : Option ℕ → ℕ → ℕ
lesser None n = n
lesser (Some m) n = if nat_lt m n then m else n

-- the least listed page that is not mapped, beside one from before
abbrev pub missing_from : Pages → Option ℕ → List ListedPage → Option ℕ
missing_from pages least [] = least
missing_from pages least (page ∷ listed) =
    let next = if contains_key pages page.number then least else Some (lesser least page.number) in
    missing_from pages next listed

-- ---- the first of both

-- a listed page that is not mapped, as a break
abbrev pub missing_break : ℕ → ℕ → BreakKind
missing_break index number = CheckpointDiffers index PAGE (number * 4096) 1 0

-- what is told of a mapped page that differs and one that is not mapped, if there are such
abbrev pub told_first : ℕ → Option (ℕ × BreakKind) → Option ℕ → Option BreakKind
told_first index None None = None
told_first index None (Some missing) = Some (missing_break index missing)
told_first index (Some unlike) None = Some unlike.1
told_first index (Some unlike) (Some missing) =
    Some (if nat_lt unlike.0 missing then unlike.1 else missing_break index missing)
