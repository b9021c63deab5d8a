-- The rules that a recorded run meets, each of them about the value alone.
use Rattle.std.specs.Prelude.{◌≡◌, ◌≢◌, ℕ, ◌+◌, ◌-◌, ◌^◌, ◌<◌, ◌≤◌, Bool, true, false, ◌||◌, List, [], ◌∷◌, ◌++◌, length, map, reverse, Option, Some, None, nat_le, ◌==◌, if◌then◌else◌, ⊤}
use Rattle.std.specs.List.{All, AllByRecursion, flat_map, find, list_any, sum_by}
use Rattle.std.specs.Option.{option_map}
use Rattle.call_log.specs.declared.entry.CallEntry.{CallEntry}
use Rattle.call_log.specs.declared.entry.End.{End}
use Rattle.call_log.specs.declared.entry.End.TheVariants as ends
use Rattle.rec_format.specs.declared.limits.TheConstants.{HIGHEST_KIND, MOST_IMAGE_BYTES, MOST_ARGS, MOST_ARG_BYTES, MOST_CALL_BYTES, MOST_CHECKPOINTS, MOST_COUNT, MOST_PAGES, HIGHEST_PAGE, PAGE_BYTES}
use Rattle.rec_format.specs.declared.recording.ListedPage.{ListedPage}
use Rattle.rec_format.specs.declared.recording.CheckpointData.{CheckpointData}
use Rattle.rec_format.specs.declared.recording.Recording.{Recording}

-- ---- numbers

-- so many numbers of four bytes
pub record AreWords (n : ℕ) (words : List ℕ) : Type 0 where
  pub number : length words ≡ n
  pub each : AllByRecursion (λ word. word < 2 ^ 32) words

-- above the number before, where there is one
abbrev pub IsAbove : Option ℕ → ℕ → Type 0
IsAbove None n = ⊤
IsAbove (Some before) n = before < n

-- each number is above the one before it
abbrev pub Rise : Option ℕ → List ℕ → Type 0
Rise before [] = ⊤
Rise before (n ∷ ns) = IsAbove before n × Rise (Some n) ns

-- the number of the last item, or what stood before where there is no item
abbrev pub last_or : {X : Type 0} → Option ℕ → (X → ℕ) → List X → Option ℕ
last_or before number [] = before
last_or before number (x ∷ xs) = last_or (Some (number x)) number xs

-- ---- image, arguments, calls and end

-- a flat image has its address in the recording, and an ELF32 file in itself
abbrev pub highest_load_addr : ℕ → ℕ
highest_load_addr kind = if kind == 0 then 2 ^ 32 - 1 else 0

abbrev pub has_zero : List ℕ → Bool
has_zero bytes = list_any (λ b. b == 0) bytes

-- the bytes of the arguments, each with a zero byte after it
abbrev pub args_size : List (List ℕ) → ℕ
args_size args = sum_by (λ arg. length arg + 1) args

pub record AreArguments (args : List (List ℕ)) : Type 0 where
  pub number : length args ≤ MOST_ARGS
  pub zero_free : AllByRecursion (λ arg. has_zero arg ≡ false) args
  pub size : args_size args ≤ MOST_ARG_BYTES

pub record IsCallEntry (entry : CallEntry) : Type 0 where
  pub number : entry.call.number < 2 ^ 32
  pub args : AreWords 6 entry.call.args
  pub result : entry.result < 2 ^ 32
  pub bytes : length entry.bytes ≤ MOST_CALL_BYTES

-- the numbers of traps: misaligned, fetch, illegal instruction, breakpoint, load, store
abbrev pub is_trap : ℕ → Bool
is_trap n = nat_le n 3 || (n == 5 || n == 7)

abbrev pub IsEnd : End → Type 0
IsEnd (ends.Exited code) = code < 2 ^ 32
IsEnd (ends.Trapped trap) = is_trap trap ≡ true
IsEnd ends.Stopped = ⊤

-- ---- checkpoints

abbrev pub number_of : ListedPage → ℕ
number_of page = page.number

abbrev pub count_of : CheckpointData → ℕ
count_of checkpoint = checkpoint.count

pub record IsListedPage (page : ListedPage) : Type 0 where
  pub number : page.number ≤ HIGHEST_PAGE
  pub bytes : length page.bytes ≡ PAGE_BYTES

pub record IsCheckpoint (checkpoint : CheckpointData) : Type 0 where
  pub count : checkpoint.count ≤ MOST_COUNT
  pub pc : checkpoint.pc < 2 ^ 32
  pub x : AreWords 31 checkpoint.x
  pub brk : checkpoint.brk < 2 ^ 32
  pub brk_end : checkpoint.brk_end < 2 ^ 32
  pub next_call : checkpoint.next_call < 2 ^ 32
  pub number_of_pages : length checkpoint.pages ≤ MOST_PAGES
  pub each_page : AllByRecursion IsListedPage checkpoint.pages
  pub pages_rise : Rise None (map number_of checkpoint.pages)

-- the bytes of the last of these listings of a page
abbrev pub last_listed : ℕ → List ListedPage → Option (List ℕ)
last_listed number listings =
    option_map (λ page. page.bytes) (find (λ page. page.number == number) (reverse listings))

-- each page differs from its last listing before
abbrev pub AreNeeded : List ListedPage → List ListedPage → Type 0
AreNeeded earlier [] = ⊤
AreNeeded earlier (page ∷ pages) =
    (last_listed page.number earlier ≢ Some page.bytes) × AreNeeded (earlier ++ page ∷ []) pages

-- the pages that checkpoints list, in order
abbrev pub listings : List CheckpointData → List ListedPage
listings checkpoints = flat_map (λ checkpoint. checkpoint.pages) checkpoints

-- ---- bytes

-- every byte of a call's data is one; an entry in memory has no other, but in a law a number has no
-- range
abbrev pub HasBytes : CallEntry → Type 0
HasBytes entry = All (λ b. b < 256) entry.bytes

-- ---- the whole

pub record IsRecordingValue (rec : Recording) : Type 0 where
  pub kind : rec.kind ≤ HIGHEST_KIND
  pub load_addr : rec.load_addr ≤ highest_load_addr rec.kind
  pub image : length rec.image ≤ MOST_IMAGE_BYTES
  pub args : AreArguments rec.args
  pub number_of_calls : length rec.calls < 2 ^ 32
  pub each_call : AllByRecursion IsCallEntry rec.calls
  pub number_of_checkpoints : length rec.checkpoints ≤ MOST_CHECKPOINTS
  pub each_checkpoint : AllByRecursion IsCheckpoint rec.checkpoints
  pub counts_rise : Rise (Some 0) (map count_of rec.checkpoints)
  pub how_it_ends : IsEnd rec.end
  pub last : IsCheckpoint rec.last
  pub last_is_above : IsAbove (last_or None count_of rec.checkpoints) rec.last.count
  pub each_listing_is_needed : AreNeeded [] (listings rec.checkpoints ++ rec.last.pages)
