-- What a recorded answer needs of a state and leaves.
use Rattle.std.specs.Prelude.{if◌then◌else◌, ◌==◌, ◌*◌, ◌&&◌, ◌||◌, is_some, IsSome, nat_le, nat_lt, not}
use Rattle.std.specs.Ordering.{nat_cmp}
use Rattle.std.specs.FinMap.{get, len, keys, empty, get-empty, len-empty}
use Rattle.std.proofs.Common.{◌≡◌, ℕ, ◌+◌, ◌-◌, ◌/◌, ◌<◌, ◌≤◌, ⊎_elim, Bool, true, false, List, length, Option, Some, None, refl, sym, ap, subst, ◌∙◌, arith, eqb-true, leb-true, le-leb, lt-ltb}
use Rattle.std.proofs.lemmas.Bool.{cases_lt, ltb-true, and_from, and_parts}
use Rattle.std.proofs.lemmas.List.Filters.{length-filter_both}
use Rattle.sl_base.specs.declared.call.Call.{Call}
use Rattle.sl_base.specs.Calls.{write_number, error_result, is_error}
use Rattle.sl_model.specs.Pages.{Pages, bytes_at}
use Rattle.sl_model.proofs.PagesLaws.{is_some-bytes_at-add}
use Rattle.sl_model.specs.Mapping.{map_pages}
use Rattle.sl_model.specs.Arithmetic.{word_add}
use Rattle.sl_model.specs.State.{State, Fits, set_register, is_outside_heap}
use Rattle.sl_model.proofs.Counted.{same_number, length-keys, length-passing, len-map_pages-below}
use Rattle.sl_model.proofs.Mapping.{is_among, is_some-map_pages}
use Rattle.sl_model.proofs.Fitting.{is_outside_heap-true}
use Rattle.call_log.specs.declared.ask.Ask.{Ask}
use Rattle.call_log.specs.declared.ask.CallDiff.{CallDiff}
use Rattle.call_log.specs.declared.entry.CallEntry.{CallEntry}
use Rattle.call_log.specs.Differences.{field_diff, call_diff, answer_diff, first_difference, due_result, due_length}
use Rattle.call_log.proofs.Options.{first_none, second_none}
use Rattle.sl_model.specs.Heap.{brk_answer, is_break}
use Rattle.replay.specs.Calls.{call_of, is_exit, is_outside, buffer, room, brk_number, brk_mapped_end, brk_done, data_done, call_done, arg, answered, moved_on, fixed_result, ask_with, IsAnswerTo, IsDue}
use Rattle.replay.proofs.InRun.{new_end}

-- ---- the place behind a call

pc-if : (b : Bool) (s t : State) (n : ℕ) → s.pc ≡ n → t.pc ≡ n → (if b then s else t).pc ≡ n
pc-if true s t n first second = first
pc-if false s t n first second = second

next-if : (b : Bool) (s t : State) (n : ℕ) → s.next_call ≡ n → t.next_call ≡ n → (if b then s else t).next_call ≡ n
next-if true s t n first second = first
next-if false s t n first second = second

pc-call : (s : State) (call : Call) (bytes : List ℕ) → (call_done s call bytes).pc ≡ s.pc
pc-call s call bytes =
    pc-if (is_outside call) (data_done s call bytes) (if call.number == brk_number then brk_done s (arg call 0) else s) s.pc
    (pc-if (call.number == write_number) s _ s.pc refl refl)
    (pc-if (call.number == brk_number) (brk_done s (arg call 0)) s s.pc refl refl)

next-call : (s : State) (call : Call) (bytes : List ℕ) → (call_done s call bytes).next_call ≡ s.next_call
next-call s call bytes =
    next-if (is_outside call) (data_done s call bytes) (if call.number == brk_number then brk_done s (arg call 0) else s) s.next_call
    (next-if (call.number == write_number) s _ s.next_call refl refl)
    (next-if (call.number == brk_number) (brk_done s (arg call 0)) s s.next_call refl refl)

-- a call is done, and then its result is put into a0
pub moved_on-done : (s : State) (entry : CallEntry) → moved_on (call_done s (call_of s) entry.bytes) entry.result ≡ answered s entry
moved_on-done s entry =
    let done : State = call_done s (call_of s) entry.bytes in
    let pc = pc-call s (call_of s) entry.bytes in
    let next = next-call s (call_of s) entry.bytes in
    λ i. record {
      pc = word_add (pc i) 4;
      x = set_register done.x 10 entry.result;
      pages = done.pages;
      brk = done.brk;
      brk_end = done.brk_end;
      next_call = next i + 1;
      status = done.status;
      count = done.count + 1;
      layout = done.layout;
    }

-- ---- the data of a recorded call that does not differ

same_field : (field recorded due : ℕ) → field_diff field recorded due ≡ None → recorded ≡ due
same_field field recorded due none = chosen (recorded == due) refl none
  where
    chosen : (b : Bool) → (recorded == due) ≡ b → if◌then◌else◌ {A = Option CallDiff} b None (Some (record { field = field; recorded = recorded; due = due })) ≡ None → recorded ≡ due
    chosen true is none = eqb-true recorded due is
    chosen false is none = absurd cc

record IsAnswered (entry : CallEntry) (ask : Ask) : Type 0 where
  result : entry.result ≡ due_result ask entry.result
  size : length entry.bytes ≡ due_length ask entry.result

is_answered : (entry : CallEntry) (ask : Ask) → first_difference entry ask ≡ None → IsAnswered entry ask
is_answered entry ask none =
    let answer = second_none (call_diff entry.call ask.call) (answer_diff entry ask) none in
    let rest = second_none (field_diff 7 entry.result (due_result ask entry.result)) _ answer in
    record {
      result = same_field 7 entry.result (due_result ask entry.result) (first_none (field_diff 7 entry.result (due_result ask entry.result)) _ answer);
      size = same_field 8 (length entry.bytes) (due_length ask entry.result) (first_none (field_diff 8 (length entry.bytes) (due_length ask entry.result)) _ rest);
    }

-- a count that was answered is one that the call has
within_room : (size result : ℕ) (fits error : Bool) → nat_le result size ≡ fits → result ≡ (if fits || error then result else size) → (if error then 0 else result) ≤ size
within_room size result fits true is due = omega arith
within_room size result true false is due = leb-true result size is
within_room size result false false is due = omega arith

module _ (s : State) (entry : CallEntry) where
  abbrev call : Call
  call = call_of s

  shorter : (m n : ℕ) → m ≤ n → is_some (bytes_at s.pages (buffer call) n) ≡ true → IsSome (bytes_at s.pages (buffer call) m)
  shorter m n le mapped =
      let sum : n ≡ m + (n - m) = omega arith in
      (and_parts (is_some (bytes_at s.pages (buffer call) m)) (is_some (bytes_at s.pages (buffer call + m) (n - m)))
      (sym (ap (λ k. is_some (bytes_at s.pages (buffer call) k)) sum ∙ is_some-bytes_at-add s.pages (buffer call) m (n - m)) ∙ mapped)).0

  none_mapped : IsSome (bytes_at s.pages (buffer call) 0)
  unfolding bytes_at
  none_mapped = refl

  by_mapped : (mapped : Bool) → is_some (bytes_at s.pages (buffer call) (room call)) ≡ mapped → (call.number == write_number) ≡ false → first_difference entry (ask_with s call (if mapped then None else Some (error_result 14))) ≡ None
      → IsSome (bytes_at s.pages (buffer call) (length entry.bytes))
  by_mapped true mapped other none =
      let is = is_answered entry (ask_with s call None) none in
      let size : length entry.bytes ≡ (if is_error entry.result then 0 else entry.result) = is.size ∙ ap (λ (b : Bool). if b then room call else (if is_error entry.result then 0 else entry.result)) other in
      let within = within_room (room call) entry.result (nat_le entry.result (room call)) (is_error entry.result) refl is.result in
      shorter (length entry.bytes) (room call) (omega arith) mapped
  by_mapped false mapped other none =
      let is = is_answered entry (ask_with s call (Some (error_result 14))) none in
      subst (λ n. IsSome (bytes_at s.pages (buffer call) n)) (sym is.size) none_mapped

  not_exit : (exits : Bool) (ask : Ask) → IsAnswerTo (if exits then None else Some ask) entry → first_difference entry ask ≡ None
  not_exit true ask due = absurd due
  not_exit false ask due = due

  -- the bytes that the outside's data take are mapped
  pub data_mapped : IsDue s entry → is_outside call ≡ true → (call.number == write_number) ≡ false → IsSome (bytes_at s.pages (buffer call) (length entry.bytes))
  data_mapped due outside other =
      let none = not_exit (is_exit call) (ask_with s call (fixed_result s call)) due in
      let mapped : Bool = is_some (bytes_at s.pages (buffer call) (room call)) in
      let fixed : fixed_result s call ≡ (if mapped then None else Some (error_result 14)) =
      ap (λ (b : Bool). if b then (if mapped then None else Some (error_result 14)) else (if call.number == brk_number then Some (brk_answer s (arg call 0)) else Some (error_result 38))) outside in
      by_mapped mapped refl other (subst (λ (o : Option ℕ). first_difference entry (ask_with s call o) ≡ None) fixed none)

-- what the machine decides for a call that moves the break
pub fixed_brk : (s : State) (call : Call) → is_outside call ≡ false → (call.number == brk_number) ≡ true → fixed_result s call ≡ Some (brk_answer s (arg call 0))
fixed_brk s call other is =
    let outside : Option ℕ = if is_some (bytes_at s.pages (buffer call) (room call)) then None else Some (error_result 14) in
    ap (λ (b : Bool). if b then outside else (if call.number == brk_number then Some (brk_answer s (arg call 0)) else Some (error_result 38))) other
    ∙ ap (λ (b : Bool). if◌then◌else◌ {A = Option ℕ} b (Some (brk_answer s (arg call 0))) (Some (error_result 38))) is

-- ---- room for the pages of a heap

both_false : (a b c : Bool) → c ≡ false → (a && c) ≡ (b && c)
both_false true true c is = refl
both_false true false c is = is
both_false false true c is = sym is
both_false false false c is = refl

not_is_false : (b : Bool) → b ≡ true → not b ≡ false
not_is_false true is = refl
not_is_false false is = absurd cc

-- a state that fits has no more pages than an image, the stack and its heap
few_fitting : (s : State) → Fits s → len s.pages ≤ 12288 + (s.brk_end - s.layout.brk_start) / 4096
few_fitting s fits =
    let all = length-filter_both (is_outside_heap s.layout) inside (λ x. refl) (keys s.pages) in
    let same = same_number inside s.pages heap each in
    let few = length-passing inside heap in
    let size = len-map_pages-below empty first count in
    omega (arith, all, length-keys s.pages, same, few, size, len-empty nat_cmp (List ℕ), fits.few)
  where
    first : ℕ
    first = s.layout.brk_start / 4096

    count : ℕ
    count = (s.brk_end - s.layout.brk_start) / 4096

    inside : ℕ → Bool
    inside page = not (is_outside_heap s.layout page)

    heap : Pages
    heap = map_pages empty first count

    in_heap : (q : ℕ) → s.layout.brk_start ≤ q * 4096 → q * 4096 < s.layout.heap_limit → is_some (get s.pages q) ≡ is_some (get heap q)
    in_heap q from to =
        let there : is_some (get heap q) ≡ is_among first (first + count) q = is_some-map_pages empty first count q ∙ ap (λ (o : Option (List ℕ)). is_some o || is_among first (first + count) q) (get-empty nat_cmp q) in
        ⊎_elim
        (λ (below : q * 4096 < s.brk_end).
        let low : first ≤ q = omega arith in
        let high : q < first + count = omega (arith, fits.layout.start, fits.mapped_end, fits.end_from) in
        (fits.heap q from to).1 below ∙ sym (there ∙ and_from (nat_le first q) (nat_lt q (first + count)) (le-leb first q low) (lt-ltb q (first + count) high)))
        (λ (past : s.brk_end ≤ q * 4096). none q there past (is_some (get s.pages q)) (is_among first (first + count) q) refl refl from to ∙ sym there)
        (cases_lt (q * 4096) s.brk_end)
      where
        none : (q : ℕ) → is_some (get heap q) ≡ is_among first (first + count) q → s.brk_end ≤ q * 4096 → (a b : Bool) → is_some (get s.pages q) ≡ a → is_among first (first + count) q ≡ b → s.layout.brk_start ≤ q * 4096 → q * 4096 < s.layout.heap_limit → is_some (get s.pages q) ≡ is_among first (first + count) q
        none q there past true b is among from to =
            let below = (fits.heap q from to).0 is in
            absurd (omega arith)
        none q there past false true is among from to =
            let high : q < first + count = ltb-true q (first + count) (and_parts (nat_le first q) (nat_lt q (first + count)) among).1 in
            absurd (omega (arith, fits.layout.start, fits.mapped_end, fits.end_from))
        none q there past false false is among from to = is ∙ sym among

    each : (q : ℕ) → (is_some (get s.pages q) && inside q) ≡ (is_some (get heap q) && inside q)
    each q = ⊎_elim
        (λ (low : q * 4096 < s.layout.brk_start). both_false (is_some (get s.pages q)) (is_some (get heap q)) (inside q) (not_is_false (is_outside_heap s.layout q) (is_outside_heap-true s.layout q (λ from to. absurd (omega arith)))))
        (λ (from : s.layout.brk_start ≤ q * 4096). ⊎_elim
        (λ (to : q * 4096 < s.layout.heap_limit). ap (λ b. b && inside q) (in_heap q from to))
        (λ (past : s.layout.heap_limit ≤ q * 4096). both_false (is_some (get s.pages q)) (is_some (get heap q)) (inside q) (not_is_false (is_outside_heap s.layout q) (is_outside_heap-true s.layout q (λ from to. absurd (omega arith)))))
        (cases_lt (q * 4096) s.layout.heap_limit))
        (cases_lt (q * 4096) s.layout.brk_start)

pub record HasRoom (s : State) (new : ℕ) : Type 0 where
  pub below : s.brk_end / 4096 + (new / 4096 - s.brk_end / 4096) ≤ 0xBFFFF
  pub few : len (map_pages s.pages (s.brk_end / 4096) (new / 4096 - s.brk_end / 4096)) ≤ 16384

-- the heap does not shrink
pub break_grows : (s : State) (address : ℕ) → Fits s → s.brk_end ≤ brk_mapped_end s address
break_grows s address fits =
    (new_end s address (is_break s address) refl fits.mapped_end fits.layout.limit fits.end_to).from

-- there is room for the pages up to a new break
pub room_for_break : (s : State) (address : ℕ) → Fits s → HasRoom s (brk_mapped_end s address)
room_for_break s address fits =
    let new : ℕ = brk_mapped_end s address in
    let end = new_end s address (is_break s address) refl fits.mapped_end fits.layout.limit fits.end_to in
    record {
      below = omega (arith, end.from, end.to, fits.layout.below_end);
      few = omega (arith, len-map_pages-below s.pages (s.brk_end / 4096) (new / 4096 - s.brk_end / 4096), few_fitting s fits, end.from, end.to, fits.layout.size, fits.layout.start, fits.mapped_end, fits.end_from);
    }
