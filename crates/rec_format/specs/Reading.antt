-- Reading a recording from left to right: the value, or the first fault and its place.
use Rattle.std.specs.Prelude.{◌≡◌, ℕ, zero, suc, ◌+◌, Bool, false, List, [], ◌∷◌, ◌++◌, length, take, drop, Option, Some, None, Result, Ok, Err, nat_lt, ◌==◌, if◌then◌else◌}
use Rattle.std.specs.Int.{w32, w64, from_le_bytes}
use Rattle.std.specs.Str.{bytes_eq}
use Rattle.sl_base.specs.declared.refused.Refused.{Refused}
use Rattle.sl_base.specs.Refusals.{Fails}
use Rattle.call_log.specs.declared.entry.CallEntry.{CallEntry}
use Rattle.call_log.specs.declared.entry.End.{End}
use Rattle.call_log.specs.declared.entry.End.TheVariants as ends
use Rattle.rec_format.specs.declared.fault.RecCause.{RecCause}
use Rattle.rec_format.specs.declared.fault.RecCause.TheVariants.{Short, Magic, Version, Order, Range, PageRepeated, UnneededPage, Trailing, TooLarge}
use Rattle.rec_format.specs.declared.fault.RecFault.{RecFault}
use Rattle.rec_format.specs.declared.limits.TheConstants.{MOST_BYTES, HIGHEST_KIND, MOST_IMAGE_BYTES, MOST_ARGS, MOST_ARG_BYTES, MOST_CALL_BYTES, MOST_CHECKPOINTS, MOST_COUNT, MOST_PAGES, HIGHEST_PAGE, PAGE_BYTES}
use Rattle.rec_format.specs.declared.recording.ListedPage.{ListedPage}
use Rattle.rec_format.specs.declared.recording.CheckpointData.{CheckpointData}
use Rattle.rec_format.specs.declared.recording.Recording.{Recording}
use Rattle.rec_format.specs.Place.{Rest, start}
use Rattle.rec_format.specs.Rules.{last_or, highest_load_addr, has_zero, args_size, is_trap, number_of, count_of, last_listed, listings}
use Rattle.rec_format.specs.Spelling.{name, version}

infixl 10 ◌>>=◌
abbrev pub ◌>>=◌ : {A B : Type 0} → Result A RecFault → (A → Result B RecFault) → Result B RecFault
(Ok x) >>= f = f x
(Err e) >>= f = Err e

-- ---- what the readers of the code say

-- what a reader returned and where it then stands are what reading gives, unless memory ran out
abbrev pub Gives : {X Y : Type 0} → (X → Y) → Result X (Refused RecFault) → Rest
    → Result (Y × Rest) RecFault → Type 0
Gives view (Ok x) after read = read ≡ Ok (view x, after)
Gives view (Err e) after read = Fails e read

-- ---- fields

-- a fault of the field that begins here
abbrev pub fault : Rest → RecCause → RecFault
fault at cause = record { place = at.place; cause = cause }

-- x, unless the field that begins here breaks a rule
abbrev pub refuse : {X : Type 0} → Bool → Rest → RecCause → X → Result X RecFault
refuse is_broken at cause x = if is_broken then Err (fault at cause) else Ok x

-- a run of bytes
unfoldable pub run_at : ℕ → Rest → Result (List ℕ × Rest) RecFault
run_at len at =
    refuse (nat_lt (length at.bytes) len) at Short
    (take len at.bytes, record { place = at.place + len; bytes = drop len at.bytes })

-- these very bytes
unfoldable pub text_at : List ℕ → RecCause → Rest → Result (List ℕ × Rest) RecFault
text_at text cause at = do
  run ← run_at (length text) at
  if bytes_eq run.0 text then Ok run else Err (fault at cause)

-- a number of four bytes, and of eight
unfoldable pub word_at : Rest → Result (ℕ × Rest) RecFault
word_at at = do
  run ← run_at 4 at
  Ok (from_le_bytes w32 run.0, run.1)

unfoldable pub double_word_at : Rest → Result (ℕ × Rest) RecFault
double_word_at at = do
  run ← run_at 8 at
  Ok (from_le_bytes w64 run.0, run.1)

-- a number of four bytes that has a greatest value
unfoldable pub word_up_to : ℕ → Rest → Result (ℕ × Rest) RecFault
word_up_to most at = do
  n ← word_at at
  refuse (nat_lt most n.0) at Range n

-- at most so many bytes, after their number
unfoldable pub sized_up_to : ℕ → Rest → Result (List ℕ × Rest) RecFault
sized_up_to most at = do
  len ← word_up_to most at
  run_at len.0 len.1

-- so many more items, which may depend on those before
unfoldable pub items_at : {X : Type 0} → (List X → Rest → Result (X × Rest) RecFault)
    → ℕ → List X → Rest → Result (List X × Rest) RecFault
items_at item zero before at = Ok (before, at)
items_at item (suc n) before at = do
  next ← item before at
  items_at item n (before ++ next.0 ∷ []) next.1

abbrev pub words_at : ℕ → Rest → Result (List ℕ × Rest) RecFault
words_at n at = items_at (λ _. word_at) n [] at

-- ---- arguments, calls and end

-- an argument after some that take so many bytes
unfoldable pub arg_at : ℕ → Rest → Result (List ℕ × Rest) RecFault
arg_at used at = do
  len ← word_at at
  room ← refuse (nat_lt MOST_ARG_BYTES (used + len.0 + 1)) at Range len
  arg ← run_at room.0 room.1
  refuse (has_zero arg.0) at Range arg

unfoldable pub args_at : Rest → Result (List (List ℕ) × Rest) RecFault
args_at at = do
  number ← word_up_to MOST_ARGS at
  items_at (λ before. arg_at (args_size before)) number.0 [] number.1

unfoldable pub call_at : Rest → Result (CallEntry × Rest) RecFault
call_at at = do
  number ← word_at at
  args ← words_at 6 number.1
  result ← word_at args.1
  bytes ← sized_up_to MOST_CALL_BYTES result.1
  Ok (
    record {
      call = record { number = number.0; args = args.0 };
      result = result.0;
      bytes = bytes.0;
    },
    bytes.1,
  )

unfoldable pub calls_at : Rest → Result (List CallEntry × Rest) RecFault
calls_at at = do
  number ← word_at at
  items_at (λ _. call_at) number.0 [] number.1

-- the end of this kind and value, if there is one
abbrev pub end_of_kind : ℕ → ℕ → Option End
end_of_kind zero value = Some (ends.Exited value)
end_of_kind (suc zero) value = if is_trap value then Some (ends.Trapped value) else None
end_of_kind (suc (suc kind)) value = if value == 0 then Some ends.Stopped else None

abbrev pub known_end : Option End → Rest → Rest → Result (End × Rest) RecFault
known_end None at after = Err (fault at Range)
known_end (Some end) at after = Ok (end, after)

unfoldable pub end_at : Rest → Result (End × Rest) RecFault
end_at at = do
  kind ← word_up_to 2 at
  value ← word_at kind.1
  known_end (end_of_kind kind.0 value.0) kind.1 value.1

-- ---- checkpoints

-- a number that is to be above the one before it in its list
abbrev pub risen : Option ℕ → RecCause → Rest → ℕ × Rest → Result (ℕ × Rest) RecFault
risen None same at n = Ok n
risen (Some before) same at n =
    if nat_lt n.0 before then Err (fault at Order) else refuse (n.0 == before) at same n

unfoldable pub page_number_at : Option ℕ → Rest → Result (ℕ × Rest) RecFault
page_number_at before at = do
  number ← word_up_to HIGHEST_PAGE at
  risen before PageRepeated at number

-- these are the bytes of the listing, if there is one
abbrev pub is_listed : Option (List ℕ) → List ℕ → Bool
is_listed None bytes = false
is_listed (Some listed) bytes = bytes_eq listed bytes

-- a listed page after these listings, of which the number is the last in the same list
unfoldable pub page_at : Option ℕ → List ListedPage → Rest → Result (ListedPage × Rest) RecFault
page_at before earlier at = do
  number ← page_number_at before at
  bytes ← run_at PAGE_BYTES number.1
  refuse (is_listed (last_listed number.0 earlier) bytes.0) at UnneededPage
      (record { number = number.0; bytes = bytes.0 }, bytes.1)

unfoldable pub pages_at : List ListedPage → Rest → Result (List ListedPage × Rest) RecFault
pages_at earlier at = do
  number ← word_up_to MOST_PAGES at
  items_at (λ before. page_at (last_or None number_of before) (earlier ++ before))
      number.0 [] number.1

unfoldable pub count_at : Option ℕ → Rest → Result (ℕ × Rest) RecFault
count_at before at = do
  count ← double_word_at at
  known ← refuse (nat_lt MOST_COUNT count.0) at Range count
  risen before Order at known

unfoldable pub checkpoint_at : Option ℕ → List ListedPage → Rest
    → Result (CheckpointData × Rest) RecFault
checkpoint_at before earlier at = do
  count ← count_at before at
  pc ← word_at count.1
  x ← words_at 31 pc.1
  brk ← word_at x.1
  brk_end ← word_at brk.1
  next_call ← word_at brk_end.1
  pages ← pages_at earlier next_call.1
  Ok (
    record {
      count = count.0;
      pc = pc.0;
      x = x.0;
      brk = brk.0;
      brk_end = brk_end.0;
      next_call = next_call.0;
      pages = pages.0;
    },
    pages.1,
  )

unfoldable pub checkpoints_at : Rest → Result (List CheckpointData × Rest) RecFault
checkpoints_at at = do
  number ← word_up_to MOST_CHECKPOINTS at
  items_at (λ before. checkpoint_at (last_or (Some 0) count_of before) (listings before))
      number.0 [] number.1

-- ---- the whole

unfoldable pub recording_at : Rest → Result (Recording × Rest) RecFault
recording_at at = do
  named ← text_at name Magic at
  versioned ← text_at version Version named.1
  kind ← word_up_to HIGHEST_KIND versioned.1
  load_addr ← word_up_to (highest_load_addr kind.0) kind.1
  image ← sized_up_to MOST_IMAGE_BYTES load_addr.1
  args ← args_at image.1
  calls ← calls_at args.1
  checkpoints ← checkpoints_at calls.1
  end ← end_at checkpoints.1
  last ← checkpoint_at (last_or None count_of checkpoints.0) (listings checkpoints.0) end.1
  Ok (
    record {
      kind = kind.0;
      load_addr = load_addr.0;
      image = image.0;
      args = args.0;
      calls = calls.0;
      checkpoints = checkpoints.0;
      end = end.0;
      last = last.0;
    },
    last.1,
  )

-- the recording that the bytes spell, or their first fault
unfoldable pub reading : List ℕ → Result Recording RecFault
reading bytes =
    if nat_lt MOST_BYTES (length bytes) then Err (record { place = MOST_BYTES; cause = TooLarge })
    else do
      rec ← recording_at (start bytes)
      refuse (nat_lt 0 (length rec.1.bytes)) rec.1 Trailing rec.0
