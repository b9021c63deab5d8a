-- How a state differs from what a checkpoint records.
use Rattle.std.specs.Prelude.{ℕ, ◌+◌, ◌*◌, ◌^◌, ◌==◌, List, [], ◌∷◌, drop, Option, Some, None, if◌then◌else◌}
use Rattle.std.specs.List.{range_with_len}
use Rattle.std.specs.Option.{option_or}
use Rattle.std.specs.FinMap.{get}
use Rattle.sl_model.specs.Pages.{Pages}
use Rattle.sl_model.specs.State.{State}
use Rattle.call_log.specs.declared.part.TheConstants as parts
use Rattle.call_log.specs.declared.breaks.BreakKind.{BreakKind}
use Rattle.call_log.specs.declared.breaks.BreakKind.TheVariants.{CheckpointDiffers}
use Rattle.rec_format.specs.declared.recording.Recording.{Recording}
use Rattle.rec_format.specs.declared.recording.CheckpointData.{CheckpointData}
use Rattle.rec_format.specs.Recorded.{listed_to, is_listed, recorded_page}

-- a part that differs, where it is in memory, the recorded value and the replayed one
pub record PartDiff : Type 0 where
  pub part : ℕ
  pub address : ℕ
  pub recorded : ℕ
  pub replayed : ℕ

-- ---- the machine

-- a part that is no memory, where it differs
abbrev pub part_diff : ℕ → ℕ → ℕ → Option PartDiff
part_diff part recorded replayed =
    if recorded == replayed then None
    else Some (record { part = part; address = 0; recorded = recorded; replayed = replayed })

-- the first of some parts that differs, the first of them having this number
abbrev pub parts_diff : ℕ → List ℕ → List ℕ → Option PartDiff
parts_diff part (x ∷ xs) (y ∷ ys) = option_or (part_diff part x y) (parts_diff (part + 1) xs ys)
parts_diff part _ _ = None

-- the least part that differs but for memory
unfoldable pub machine_diff : CheckpointData → State → Option PartDiff
machine_diff checkpoint s =
    option_or (part_diff parts.PC checkpoint.pc s.pc)
    (option_or (parts_diff parts.FIRST_REGISTER checkpoint.x (drop 1 s.x))
    (option_or (part_diff parts.BREAK checkpoint.brk s.brk)
    (option_or (part_diff parts.HEAP_END checkpoint.brk_end s.brk_end)
    (part_diff parts.NEXT_CALL checkpoint.next_call s.next_call))))

-- ---- memory

-- a byte that differs
abbrev pub byte_diff : ℕ → ℕ → ℕ → PartDiff
byte_diff address recorded replayed =
    record { part = parts.BYTE; address = address; recorded = recorded; replayed = replayed }

-- the first byte that differs, from an address on
abbrev pub bytes_diff : ℕ → List ℕ → List ℕ → Option PartDiff
bytes_diff address (x ∷ xs) (y ∷ ys) =
    if x == y then bytes_diff (address + 1) xs ys else Some (byte_diff address x y)
bytes_diff address _ _ = None

-- a page that is listed and not mapped
abbrev pub missing_diff : ℕ → PartDiff
missing_diff number =
    record { part = parts.PAGE; address = number * 4096; recorded = 1; replayed = 0 }

-- how a page differs, where it is mapped, and where it is not
abbrev pub page_diff : Pages → Recording → ℕ → ℕ → Option (List ℕ) → Option PartDiff
page_diff opened rec k number (Some bytes) =
    bytes_diff (number * 4096) (recorded_page opened rec k number) bytes
page_diff opened rec k number None =
    if is_listed (listed_to rec k) number then Some (missing_diff number) else None

-- the first of some pages that differs
abbrev pub pages_diff : Pages → Recording → ℕ → State → List ℕ → Option PartDiff
pages_diff opened rec k s [] = None
pages_diff opened rec k s (number ∷ numbers) =
    option_or (page_diff opened rec k number (get s.pages number))
    (pages_diff opened rec k s numbers)

-- every number that a page may have
unfoldable pub PAGE_NUMBERS : List ℕ
PAGE_NUMBERS = range_with_len 0 (2 ^ 20)

-- ---- both

-- the least part of a state that differs from checkpoint k: those of the machine, and then the
-- pages by rising number
unfoldable pub checkpoint_diff : Pages → Recording → ℕ → CheckpointData → State → Option PartDiff
checkpoint_diff opened rec k checkpoint s =
    option_or (machine_diff checkpoint s) (pages_diff opened rec k s PAGE_NUMBERS)

abbrev pub as_checkpoint_break : ℕ → Option PartDiff → Option BreakKind
as_checkpoint_break k None = None
as_checkpoint_break k (Some diff) =
    Some (CheckpointDiffers k diff.part diff.address diff.recorded diff.replayed)

-- the divergence of a state from checkpoint k
abbrev pub checkpoint_break : Pages → Recording → ℕ → CheckpointData → State → Option BreakKind
checkpoint_break opened rec k checkpoint s =
    as_checkpoint_break k (checkpoint_diff opened rec k checkpoint s)
