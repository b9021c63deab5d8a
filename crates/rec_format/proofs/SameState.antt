-- A state that runs and does not differ from a checkpoint is the state that the checkpoint records.
use Rattle.std.specs.Prelude.{if◌then◌else◌, ◌*◌, ◌^◌, ◌==◌, nat_le, nat_lt, IfSome, is_some, slice_index}
use Rattle.std.specs.Option.{option_or}
use Rattle.std.specs.List.{range_with_len}
use Rattle.std.specs.Cmp.{nat_cmp_total}
use Rattle.std.specs.FinMap.{get, same_map, nat_cmp-IsAntisymmetric}
use Rattle.std.proofs.Common.{◌≡◌, ℕ, zero, suc, ◌+◌, ◌/◌, ◌%◌, ◌<◌, ◌≤◌, Bool, true, false, cond, List, [], ◌∷◌, length, drop, Option, Some, None, inl, inr, ⊎_elim, refl, sym, ap, subst, ◌∙◌, ◌⊎◌, arith, eqb-true, eq-eqb}
use Rattle.std.proofs.lemmas.Bool.{or_cases, and_parts, ltb-true, cases_eq, cases_lt}
use Rattle.sl_model.specs.declared.run_state.RunState.TheVariants.{Running}
use Rattle.sl_model.specs.Pages.{Pages, IsPage}
use Rattle.sl_model.specs.State.{State, IsOpening}
use Rattle.call_log.proofs.Options.{first_none, second_none}
use Rattle.rec_format.specs.Rules.{IsRecordingValue}
use Rattle.rec_format.specs.declared.recording.Recording.{Recording}
use Rattle.rec_format.specs.declared.recording.CheckpointData.{CheckpointData}
use Rattle.rec_format.specs.Recorded.{recorded_page, recorded_end, recorded_pages, recorded_state_of, recorded_state, recorded_count, checkpoint_at}
use Rattle.rec_format.specs.Compared.{PartDiff, part_diff, parts_diff, bytes_diff, page_diff, pages_diff, PAGE_NUMBERS, machine_diff, checkpoint_diff}
use Rattle.sl_model.proofs.Mapping.{is_among}
use Rattle.rec_format.proofs.InRun.{IsInRun, IsInRun-opened, is_mapped}
use Rattle.rec_format.proofs.Listed.{IsCheckpoint-at}
use Rattle.rec_format.proofs.RecordedStates.{get-recorded_pages, length-recorded_page}

-- ---- where nothing differs

abbrev told : ℕ → ℕ → ℕ → ℕ → Option PartDiff
told part address recorded replayed = Some (record { part = part; address = address; recorded = recorded; replayed = replayed })

same_part : (part recorded replayed : ℕ) → part_diff part recorded replayed ≡ None → recorded ≡ replayed
same_part part recorded replayed none = chosen (recorded == replayed) refl none
  where
    chosen : (b : Bool) → (recorded == replayed) ≡ b → (if b then None else told part 0 recorded replayed) ≡ None → recorded ≡ replayed
    chosen true is none = eqb-true recorded replayed is
    chosen false is none = absurd cc

same_parts : (part : ℕ) (xs ys : List ℕ) → length xs ≡ length ys → parts_diff part xs ys ≡ None → xs ≡ ys
same_parts part [] [] long none = refl
same_parts part [] (y ∷ ys) long none = absurd (omega arith)
same_parts part (x ∷ xs) [] long none = absurd (omega arith)
same_parts part (x ∷ xs) (y ∷ ys) long none =
    let here = same_part part x y (first_none (part_diff part x y) (parts_diff (part + 1) xs ys) none) in
    let rest = same_parts (part + 1) xs ys (omega arith) (second_none (part_diff part x y) (parts_diff (part + 1) xs ys) none) in
    cc

itself : (n : ℕ) → (n == n) ≡ true
itself n = eq-eqb n n refl

pub bytes_diff-same : (address : ℕ) (bytes : List ℕ) → bytes_diff address bytes bytes ≡ None
bytes_diff-same address [] = refl
bytes_diff-same address (b ∷ bs) = rw (itself b) (bytes_diff-same (address + 1) bs)

same_bytes_if : (b : Bool) (address x y : ℕ) (xs ys : List ℕ) → (x == y) ≡ b → (bytes_diff (address + 1) xs ys ≡ None → xs ≡ ys) → (if b then bytes_diff (address + 1) xs ys else told 35 address x y) ≡ None → x ∷ xs ≡ y ∷ ys
same_bytes_if true address x y xs ys is rest none =
    let here = eqb-true x y is in
    let others = rest none in
    cc
same_bytes_if false address x y xs ys is rest none = absurd cc

same_bytes : (address : ℕ) (xs ys : List ℕ) → length xs ≡ length ys → bytes_diff address xs ys ≡ None → xs ≡ ys
same_bytes address [] [] long none = refl
same_bytes address [] (y ∷ ys) long none = absurd (omega arith)
same_bytes address (x ∷ xs) [] long none = absurd (omega arith)
same_bytes address (x ∷ xs) (y ∷ ys) long none = same_bytes_if (x == y) address x y xs ys refl (λ none. same_bytes (address + 1) xs ys (omega arith) none) none

-- ---- the parts that are no memory

pub record IsSameMachine (checkpoint : CheckpointData) (s : State) : Type 0 where
  pub pc : checkpoint.pc ≡ s.pc
  pub x : parts_diff 1 checkpoint.x (drop 1 s.x) ≡ None
  pub brk : checkpoint.brk ≡ s.brk
  pub brk_end : checkpoint.brk_end ≡ s.brk_end
  pub next_call : checkpoint.next_call ≡ s.next_call

-- the parts of the machine, one by one
abbrev Diff : Type 0
Diff = Option PartDiff

none_of_five : (a b c d e : Diff) → option_or a (option_or b (option_or c (option_or d e))) ≡ None → (a ≡ None) × (b ≡ None) × (c ≡ None) × (d ≡ None) × (e ≡ None)
none_of_five a b c d e none =
    let four = second_none a (option_or b (option_or c (option_or d e))) none in
    let three = second_none b (option_or c (option_or d e)) four in
    let two = second_none c (option_or d e) three in
    (first_none a _ none, first_none b _ four, first_none c _ three, first_none d e two, second_none d e two)

pub same_machine : (checkpoint : CheckpointData) (s : State) → machine_diff checkpoint s ≡ None → IsSameMachine checkpoint s
unfolding machine_diff
same_machine checkpoint s none =
    let parts = none_of_five (part_diff 0 checkpoint.pc s.pc) (parts_diff 1 checkpoint.x (drop 1 s.x)) (part_diff 32 checkpoint.brk s.brk) (part_diff 33 checkpoint.brk_end s.brk_end) (part_diff 34 checkpoint.next_call s.next_call) none in
    record {
      pc = same_part 0 checkpoint.pc s.pc parts.0;
      x = parts.1;
      brk = same_part 32 checkpoint.brk s.brk parts.2;
      brk_end = same_part 33 checkpoint.brk_end s.brk_end parts.3;
      next_call = same_part 34 checkpoint.next_call s.next_call parts.4;
    }

-- x0 and the registers behind it
pub all_registers : (x rest : List ℕ) → length x ≡ 32 → length rest ≡ 31 → slice_index x 0 ≡ 0 → parts_diff 1 rest (drop 1 x) ≡ None → x ≡ 0 ∷ rest
all_registers [] rest long short first none = absurd (omega arith)
all_registers (y ∷ x) rest long short first none =
    let same : rest ≡ x = same_parts 1 rest x (omega arith) none in
    cc

-- ---- the pages

pages_none : (opened : Pages) (rec : Recording) (k : ℕ) (s : State) (low count number : ℕ) → pages_diff opened rec k s (range_with_len low count) ≡ None → low ≤ number → number < low + count
    → page_diff opened rec k number (get s.pages number) ≡ None
pages_none opened rec k s low zero number none from below = absurd (omega arith)
pages_none opened rec k s low (suc count) number none from below =
    let here = first_none (page_diff opened rec k low (get s.pages low)) (pages_diff opened rec k s (range_with_len (low + 1) count)) none in
    let rest = second_none (page_diff opened rec k low (get s.pages low)) (pages_diff opened rec k s (range_with_len (low + 1) count)) none in
    ⊎_elim
    (λ (same : low ≡ number). subst (λ n. page_diff opened rec k n (get s.pages n) ≡ None) same here)
    (λ (more : low < number). pages_none opened rec k s (low + 1) count number rest (omega arith) (omega arith))
    (at_or_above low number from)
  where
    at_or_above : (m n : ℕ) → m ≤ n → (m ≡ n) ⊎ (m < n)
    at_or_above m n le = ⊎_elim (λ (same : m ≡ n). inl same) (λ (apart : m ≡ n → ⊥). inr (omega arith)) (cases_eq m n)

-- every page number, written so that it does not compute
numbers_are : (count : ℕ) → count ≡ 2 ^ 20 → PAGE_NUMBERS ≡ range_with_len 0 count
unfolding PAGE_NUMBERS
numbers_are count is = ap (range_with_len 0) (sym is)

page_none : (opened : Pages) (rec : Recording) (k : ℕ) (s : State) (number : ℕ) → (count : ℕ) → count ≡ 2 ^ 20 → pages_diff opened rec k s PAGE_NUMBERS ≡ None → number < count → page_diff opened rec k number (get s.pages number) ≡ None
page_none opened rec k s number count is none below =
    pages_none opened rec k s 0 count number (subst (λ ns. pages_diff opened rec k s ns ≡ None) (numbers_are count is) none) (omega arith) (omega arith)

-- a page that does not differ is the recorded one
same_page : (opened : Pages) (rec : Recording) (k number : ℕ) (page : Option (List ℕ)) → length (recorded_page opened rec k number) ≡ 4096 → IfSome page (λ p. length p ≡ 4096) → page_diff opened rec k number page ≡ None
    → page ≡ cond (is_some page) (Some (recorded_page opened rec k number)) None
same_page opened rec k number None long whole none = refl
same_page opened rec k number (Some bytes) long whole none = ap Some (sym (same_bytes (number * 4096) (recorded_page opened rec k number) bytes (long ∙ sym whole) none))

-- pages of a program have numbers below 2 ^ 20
below_all : (opened : State) (brk_end number : ℕ) → IsOpening opened → brk_end ≤ opened.layout.heap_limit → is_mapped opened brk_end number ≡ true → number < 2 ^ 20
below_all opened brk_end number is to mapped = ⊎_elim
    (λ (stood : is_some (get opened.pages number) ≡ true). of (get opened.pages number) stood (is.state.pages number))
    (λ (heap : is_among (opened.layout.brk_start / 4096) (brk_end / 4096) number ≡ true).
    let below : number < brk_end / 4096 = ltb-true number (brk_end / 4096) (and_parts (nat_le (opened.layout.brk_start / 4096) number) (nat_lt number (brk_end / 4096)) heap).1 in
    omega (arith, is.fits.layout.below_end))
    (or_cases (is_some (get opened.pages number)) (is_among (opened.layout.brk_start / 4096) (brk_end / 4096) number) mapped)
  where
    of : (page : Option (List ℕ)) → is_some page ≡ true → IfSome page (λ p. (number < 2 ^ 20) × IsPage p) → number < 2 ^ 20
    of None some is = absurd cc
    of (Some page) some is = is.0

absent : (page : Option (List ℕ)) (other : List ℕ) (mapped : Bool) → is_some page ≡ mapped → (mapped ≡ true → ⊥) → page ≡ cond mapped (Some other) None
absent None other true is never = absurd (never refl)
absent None other false is never = refl
absent (Some page) other true is never = absurd (never refl)
absent (Some page) other false is never = absurd cc

-- each page of the state is the recorded one
each_page : (rec : Recording) (opened : State) (k : ℕ) (s : State) (number : ℕ) → IsRecordingValue rec → IsOpening opened → IsInRun opened s → pages_diff opened.pages rec k s PAGE_NUMBERS ≡ None
    → get s.pages number ≡ cond (is_mapped opened s.brk_end number) (Some (recorded_page opened.pages rec k number)) None
each_page rec opened k s number is opens runs none = with_count (2 ^ 20) refl
  where
    with_count : (count : ℕ) → count ≡ 2 ^ 20 → get s.pages number ≡ cond (is_mapped opened s.brk_end number) (Some (recorded_page opened.pages rec k number)) None
    with_count count all = ⊎_elim
        (λ (below : number < count).
        same_page opened.pages rec k number (get s.pages number) (length-recorded_page rec opened.pages k number is (IsInRun-opened opened opens).whole) (runs.whole number) (page_none opened.pages rec k s number count all none below)
        ∙ ap (λ b. cond b (Some (recorded_page opened.pages rec k number)) None) (runs.mapped number))
        (λ (past : count ≤ number). absent (get s.pages number) (recorded_page opened.pages rec k number) (is_mapped opened s.brk_end number) (runs.mapped number) (λ mapped.
        let below = below_all opened s.brk_end number opens runs.end_to mapped in
        absurd (omega arith)))
        (cases_lt number count)

same_pages : (rec : Recording) (opened : State) (k : ℕ) (s : State) → IsRecordingValue rec → IsOpening opened → IsInRun opened s → pages_diff opened.pages rec k s PAGE_NUMBERS ≡ None
    → s.pages ≡ recorded_pages rec opened k s.brk_end
same_pages rec opened k s is opens runs none = same_map nat_cmp_total nat_cmp-IsAntisymmetric s.pages (recorded_pages rec opened k s.brk_end)
    (λ number. each_page rec opened k s number is opens runs none ∙ sym (get-recorded_pages rec opened k s.brk_end number opens.fits.layout.start runs.end_from))

-- ---- the whole state

-- an end that fits is recorded as it stands
end_stays : (opened : State) (brk_end : ℕ) → brk_end % 4096 ≡ 0 → opened.layout.brk_start ≤ brk_end → brk_end ≤ opened.layout.heap_limit → recorded_end opened brk_end ≡ brk_end
end_stays opened brk_end page from to = omega arith

pub same_state : (rec : Recording) (opened : State) (k : ℕ) (s : State) → IsRecordingValue rec → IsOpening opened → IsInRun opened s → 0 < k → s.status ≡ Running → s.count ≡ recorded_count rec k
    → checkpoint_diff opened.pages rec k (checkpoint_at rec k) s ≡ None → s ≡ recorded_state rec opened k
unfolding checkpoint_diff recorded_state_of
same_state rec opened zero s is opens runs some status count none = absurd (omega arith)
same_state rec opened (suc k) s is opens runs some status count none =
    let checkpoint : CheckpointData = checkpoint_at rec (suc k) in
    let machine = same_machine checkpoint s (first_none (machine_diff checkpoint s) (pages_diff opened.pages rec (suc k) s PAGE_NUMBERS) none) in
    let memory = same_pages rec opened (suc k) s is opens runs (second_none (machine_diff checkpoint s) (pages_diff opened.pages rec (suc k) s PAGE_NUMBERS) none) in
    let end : s.brk_end ≡ recorded_end opened checkpoint.brk_end = sym (ap (recorded_end opened) machine.brk_end ∙ end_stays opened s.brk_end runs.end_page runs.end_from runs.end_to) in
    let pages : s.pages ≡ recorded_pages rec opened (suc k) (recorded_end opened checkpoint.brk_end) = memory ∙ ap (recorded_pages rec opened (suc k)) end in
    let x : s.x ≡ 0 ∷ checkpoint.x = all_registers s.x checkpoint.x runs.registers (IsCheckpoint-at rec (suc k) is).x.number runs.zero machine.x in
    let pc = sym machine.pc in
    let brk = sym machine.brk in
    let next_call = sym machine.next_call in
    λ i. record {
      pc = pc i;
      x = x i;
      pages = pages i;
      brk = brk i;
      brk_end = end i;
      next_call = next_call i;
      status = status i;
      count = count i;
      layout = runs.layout i;
    }
