-- What every instruction of a replay keeps, calls with it.
use Rattle.std.specs.Prelude.{if◌then◌else◌, ◌||◌, nat_le, ◌==◌, max, is_some, slice_get}
use Rattle.std.specs.FinMap.{get}
use Rattle.std.proofs.Common.{◌≡◌, ℕ, ◌+◌, ◌-◌, ◌/◌, ◌%◌, ◌≤◌, Bool, true, false, List, Option, Some, None, refl, sym, ap, subst, ◌∙◌, arith, le_refl}
use Rattle.std.proofs.lemmas.Bool.{and_parts, leb-true}
use Rattle.std.proofs.lemmas.Bool.Decides.{nat_tests}
use Rattle.sl_model.specs.declared.layout.Layout.{Layout}
use Rattle.sl_model.specs.declared.run_state.RunState.{RunState}
use Rattle.sl_model.specs.declared.run_state.RunState.TheVariants.{Running, Exited}
use Rattle.sl_model.specs.Pages.{set_bytes}
use Rattle.sl_model.proofs.PagesLaws.{is_some-set_bytes}
use Rattle.sl_model.specs.State.{State, Fits, IsOpening, register}
use Rattle.sl_model.specs.Step.{Next, Stepped, Called, Trapped, step, put_register, gone_to, after}
use Rattle.call_log.specs.declared.ask.Ask.{Ask}
use Rattle.call_log.specs.declared.ask.CallDiff.{CallDiff}
use Rattle.call_log.specs.declared.entry.CallEntry.{CallEntry}
use Rattle.call_log.specs.Differences.{first_difference}
use Rattle.rec_format.specs.declared.recording.Recording.{Recording}
use Rattle.replay.specs.Opening.{round_up}
use Rattle.sl_model.specs.Heap.{is_break}
use Rattle.replay.specs.Calls.{call_of, ask_of, exited, answered, is_outside, data_done, call_done, brk_done, brk_mapped_end, arg, buffer, brk_number}
use Rattle.replay.specs.Run.{Onward, Goes, Breaks, onward, onward_in, stepped, asked, called, matched}
use Rattle.sl_base.specs.declared.call.Call.{Call}
use Rattle.sl_base.specs.Calls.{write_number}
use Rattle.sl_model.proofs.Mapping.{is_among, get-map_pages, is_some-or_zeros, AreWhole-map_pages}
use Rattle.sl_model.proofs.WholePages.{AreWhole-set_bytes}
use Rattle.sl_model.proofs.Steps.{IsNext-register, IsNext-place, IsNext-step}
use Rattle.sl_model.proofs.Fitting.{Fits-grows, Fits-same, Fits-step}
use Rattle.sl_model.proofs.Mapping.{is_among, get-map_pages, is_some-or_zeros, AreWhole-map_pages}
use Rattle.sl_model.proofs.WholePages.{AreWhole-set_bytes}
use Rattle.rec_format.proofs.InRun.{IsInRun, IsInRun-next, HasHeap, Grows-run, heap_of, own_heap}

-- ---- calls

or_assoc : (a b c : Bool) → ((a || b) || c) ≡ (a || (b || c))
or_assoc true b c = refl
or_assoc false b c = refl

-- the heap after a break
heap_grows : (start old new number : ℕ) → start ≤ old → old ≤ new → is_among (start / 4096) (new / 4096) number ≡ (is_among (start / 4096) (old / 4096) number || is_among (old / 4096) (new / 4096) number)
heap_grows start old new number first second =
    let below : start / 4096 ≤ old / 4096 = omega arith in
    let above : old / 4096 ≤ new / 4096 = omega arith in
    pages_grow (start / 4096) (old / 4096) (new / 4096) number below above
  where
    pages_grow : (a b c n : ℕ) → a ≤ b → b ≤ c → is_among a c n ≡ (is_among a b n || is_among b c n)
    pages_grow a b c n below above = grind (arith, nat_tests)

pub record IsNewEnd (s : State) (limit new : ℕ) : Type 0 where
  pub page : new % 4096 ≡ 0
  pub from : s.brk_end ≤ new
  pub to : new ≤ limit

pub new_end : (s : State) (address : ℕ) (allowed : Bool) → is_break s address ≡ allowed → s.brk_end % 4096 ≡ 0 → s.layout.heap_limit % 4096 ≡ 0 → s.brk_end ≤ s.layout.heap_limit → IsNewEnd s s.layout.heap_limit (if allowed then max s.brk_end (round_up 4096 address) else s.brk_end)
new_end s address false is page limit below = record { page = page; from = omega arith; to = below }
new_end s address true is page limit below =
    let within : address ≤ s.layout.heap_limit = leb-true address s.layout.heap_limit (and_parts (nat_le s.layout.brk_start address) (nat_le address s.layout.heap_limit) is).1 in
    record { page = omega arith; from = omega arith; to = omega arith }

HasHeap-brk : (opened s : State) (address : ℕ) → opened.layout.heap_limit % 4096 ≡ 0 → HasHeap opened s → HasHeap opened (brk_done s address)
HasHeap-brk opened s address limit is =
    let end = new_end s address (is_break s address) refl is.end_page (rw is.layout limit) (rw is.layout is.end_to) in
    let new : ℕ = brk_mapped_end s address in
    let to : s.brk_end / 4096 + (new / 4096 - s.brk_end / 4096) ≡ new / 4096 = omega (arith, end.from) in
    record {
      layout = is.layout;
      end_page = end.page;
      end_from = omega (arith, is.end_from, end.from);
      end_to = omega (arith, ap (λ (l : Layout). l.heap_limit) is.layout, end.to);
      mapped = λ number. ap is_some (get-map_pages s.pages (s.brk_end / 4096) (new / 4096 - s.brk_end / 4096) number)
          ∙ is_some-or_zeros (get s.pages number) (is_among (s.brk_end / 4096) (s.brk_end / 4096 + (new / 4096 - s.brk_end / 4096)) number)
          ∙ ap (λ n. is_some (get s.pages number) || is_among (s.brk_end / 4096) n number) to
          ∙ ap (λ b. b || is_among (s.brk_end / 4096) (new / 4096) number) (is.mapped number)
          ∙ or_assoc (is_some (get opened.pages number)) (is_among (opened.layout.brk_start / 4096) (s.brk_end / 4096) number) (is_among (s.brk_end / 4096) (new / 4096) number)
          ∙ ap (λ b. is_some (get opened.pages number) || b) (sym (heap_grows opened.layout.brk_start s.brk_end new number is.end_from end.from));
    }

IsInRun-brk : (opened s : State) (address : ℕ) → opened.layout.heap_limit % 4096 ≡ 0 → IsInRun opened s → IsInRun opened (brk_done s address)
IsInRun-brk opened s address limit is =
    let heap = HasHeap-brk opened s address limit (heap_of opened s is) in
    let new : ℕ = brk_mapped_end s address in
    record {
      registers = is.registers;
      zero = is.zero;
      whole = AreWhole-map_pages s.pages (s.brk_end / 4096) (new / 4096 - s.brk_end / 4096) is.whole;
      layout = heap.layout;
      end_page = heap.end_page;
      end_from = heap.end_from;
      end_to = heap.end_to;
      mapped = heap.mapped;
    }

-- the bytes that a call brings
IsInRun-bytes : (opened s : State) (address : ℕ) (bytes : List ℕ) → IsInRun opened s → IsInRun opened (record s { pages = set_bytes s.pages address bytes })
IsInRun-bytes opened s address bytes is = record {
  registers = is.registers;
  zero = is.zero;
  whole = AreWhole-set_bytes s.pages address bytes is.whole;
  layout = is.layout;
  end_page = is.end_page;
  end_from = is.end_from;
  end_to = is.end_to;
  mapped = λ number. is_some-set_bytes s.pages address bytes number ∙ is.mapped number;
}

one_of : (opened : State) (b : Bool) (s t : State) → IsInRun opened s → IsInRun opened t → IsInRun opened (if b then s else t)
one_of opened true s t first second = first
one_of opened false s t first second = second

IsInRun-call : (opened s : State) (call : Call) (bytes : List ℕ) → opened.layout.heap_limit % 4096 ≡ 0 → IsInRun opened s → IsInRun opened (call_done s call bytes)
IsInRun-call opened s call bytes limit is =
    one_of opened (is_outside call) (data_done s call bytes) (if call.number == brk_number then brk_done s (arg call 0) else s)
    (one_of opened (call.number == write_number) s (record s { pages = set_bytes s.pages (buffer call) bytes }) is (IsInRun-bytes opened s (buffer call) bytes is))
    (one_of opened (call.number == brk_number) (brk_done s (arg call 0)) s (IsInRun-brk opened s (arg call 0) limit is) is)

-- neither does it matter which call is next and whether the program runs
IsInRun-next_call : (opened s : State) (n : ℕ) → IsInRun opened s → IsInRun opened (record s { next_call = n })
IsInRun-next_call opened s n is = record { registers = is.registers; zero = is.zero; whole = is.whole; layout = is.layout; end_page = is.end_page; end_from = is.end_from; end_to = is.end_to; mapped = is.mapped }

IsInRun-status : (opened s : State) (status : RunState) → IsInRun opened s → IsInRun opened (record s { status = status })
IsInRun-status opened s status is = record { registers = is.registers; zero = is.zero; whole = is.whole; layout = is.layout; end_page = is.end_page; end_from = is.end_from; end_to = is.end_to; mapped = is.mapped }

count-if : (b : Bool) (s t : State) (n : ℕ) → s.count ≡ n → t.count ≡ n → (if b then s else t).count ≡ n
count-if true s t n first second = first
count-if false s t n first second = second

count-call : (s : State) (call : Call) (bytes : List ℕ) → (call_done s call bytes).count ≡ s.count
count-call s call bytes =
    count-if (is_outside call) (data_done s call bytes) (if call.number == brk_number then brk_done s (arg call 0) else s) s.count
    (count-if (call.number == write_number) s (record s { pages = set_bytes s.pages (buffer call) bytes }) s.count refl refl)
    (count-if (call.number == brk_number) (brk_done s (arg call 0)) s s.count refl refl)

end-brk : (s : State) (address : ℕ) (allowed : Bool) → s.brk_end ≤ (if allowed then max s.brk_end (round_up 4096 address) else s.brk_end)
end-brk s address true = omega arith
end-brk s address false = omega arith

end-if : (b : Bool) (s t : State) (n : ℕ) → n ≤ s.brk_end → n ≤ t.brk_end → n ≤ (if b then s else t).brk_end
end-if true s t n first second = first
end-if false s t n first second = second

end-call : (s : State) (call : Call) (bytes : List ℕ) → s.brk_end ≤ (call_done s call bytes).brk_end
end-call s call bytes =
    end-if (is_outside call) (data_done s call bytes) (if call.number == brk_number then brk_done s (arg call 0) else s) s.brk_end
    (end-if (call.number == write_number) s (record s { pages = set_bytes s.pages (buffer call) bytes }) s.brk_end (le_refl s.brk_end) (le_refl s.brk_end))
    (end-if (call.number == brk_number) (brk_done s (arg call 0)) s s.brk_end (end-brk s (arg call 0) (is_break s (arg call 0))) (le_refl s.brk_end))

-- ---- every instruction

-- what every instruction of a run leads to
pub record GoesOn (opened s t : State) : Type 0 where
  pub in_run : IsInRun opened t
  pub count : t.count ≡ s.count + 1
  pub end_grows : s.brk_end ≤ t.brk_end

abbrev IsKept : State → State → Onward → Type 0
IsKept opened s (Goes t) = GoesOn opened s t
IsKept opened s (Breaks kind) = Unit {0}

kept_exit : (opened s : State) → IsInRun opened s → GoesOn opened s (exited s)
kept_exit opened s is = record {
  in_run = IsInRun-status opened (gone_to s (after s)) (Exited (register s 10)) (IsInRun-next opened s (gone_to s (after s)) is (IsNext-place s (after s)));
  count = refl;
  end_grows = le_refl s.brk_end;
}

kept_answer : (opened s : State) (entry : CallEntry) → opened.layout.heap_limit % 4096 ≡ 0 → IsInRun opened s → GoesOn opened s (answered s entry)
kept_answer opened s entry limit is =
    let done : State = call_done s (call_of s) entry.bytes in
    let next : State = gone_to (put_register done 10 entry.result) (after s) in
    record {
      in_run = IsInRun-next_call opened next (s.next_call + 1) (IsInRun-next opened done next (IsInRun-call opened s (call_of s) entry.bytes limit is) (IsNext-register done 10 entry.result (after s)));
      count = ap (λ n. n + 1) (count-call s (call_of s) entry.bytes);
      end_grows = end-call s (call_of s) entry.bytes;
    }

kept_matched : (opened s : State) (entry : CallEntry) (diff : Option CallDiff) → opened.layout.heap_limit % 4096 ≡ 0 → IsInRun opened s → IsKept opened s (matched s entry diff)
kept_matched opened s entry None limit is = kept_answer opened s entry limit is
kept_matched opened s entry (Some diff) limit is = tt

kept_called : (opened s : State) (ask : Ask) (entry : Option CallEntry) → opened.layout.heap_limit % 4096 ≡ 0 → IsInRun opened s → IsKept opened s (called s ask entry)
kept_called opened s ask None limit is = tt
kept_called opened s ask (Some entry) limit is = kept_matched opened s entry (first_difference entry ask) limit is

kept_asked : (rec : Recording) (opened s : State) (ask : Option Ask) → opened.layout.heap_limit % 4096 ≡ 0 → IsInRun opened s → IsKept opened s (asked rec s ask)
kept_asked rec opened s None limit is = kept_exit opened s is
kept_asked rec opened s (Some ask) limit is = kept_called opened s ask (slice_get rec.calls s.next_call) limit is

kept_step : (rec : Recording) (opened s : State) (next : Next) → opened.layout.heap_limit % 4096 ≡ 0 → IsInRun opened s → step s ≡ next → IsKept opened s (stepped rec s next)
kept_step rec opened s (Stepped t) limit is steps =
    let next = IsNext-step s t steps in
    record { in_run = IsInRun-next opened s t is next; count = next.count; end_grows = omega (arith, next.brk_end) }
kept_step rec opened s Called limit is steps = kept_asked rec opened s (ask_of s) limit is
kept_step rec opened s (Trapped number) limit is steps = tt

kept_in : (rec : Recording) (opened s : State) (status : RunState) → opened.layout.heap_limit % 4096 ≡ 0 → IsInRun opened s → IsKept opened s (onward_in rec s status)
kept_in rec opened s Running limit is = kept_step rec opened s (step s) limit is refl
kept_in rec opened s (Exited code) limit is = tt

kept : (rec : Recording) (opened s : State) → opened.layout.heap_limit % 4096 ≡ 0 → IsInRun opened s → IsKept opened s (onward rec s)
unfolding onward
kept rec opened s limit is = kept_in rec opened s s.status limit is

pub IsInRun-onward : (rec : Recording) (opened s t : State) → IsOpening opened → IsInRun opened s → onward rec s ≡ Goes t → GoesOn opened s t
IsInRun-onward rec opened s t opens is goes = subst (IsKept opened s) goes (kept rec opened s opens.fits.layout.limit is)

-- ---- states that fit

fits_if : (b : Bool) (s t : State) → Fits s → Fits t → Fits (if b then s else t)
fits_if true s t first second = first
fits_if false s t first second = second

module _ (s : State) (fits : Fits s) where
  fits_brk : (address : ℕ) → Fits (brk_done s address)
  fits_brk address = Fits-grows s (brk_done s address) fits (Grows-run s (brk_done s address) fits (HasHeap-brk s s address fits.layout.limit (own_heap s fits)) (end-brk s address (is_break s address)))

  fits_bytes : (address : ℕ) (bytes : List ℕ) → Fits (record s { pages = set_bytes s.pages address bytes })
  fits_bytes address bytes = Fits-same s (record s { pages = set_bytes s.pages address bytes }) fits refl refl (is_some-set_bytes s.pages address bytes)

  fits_call : (call : Call) (bytes : List ℕ) → Fits (call_done s call bytes)
  fits_call call bytes =
      fits_if (is_outside call) (data_done s call bytes) (if call.number == brk_number then brk_done s (arg call 0) else s)
      (fits_if (call.number == write_number) s (record s { pages = set_bytes s.pages (buffer call) bytes }) fits (fits_bytes (buffer call) bytes))
      (fits_if (call.number == brk_number) (brk_done s (arg call 0)) s (fits_brk (arg call 0)) fits)

  abbrev FitsNext : Onward → Type 0
  FitsNext (Goes t) = Fits t
  FitsNext (Breaks kind) = Unit {0}

  fits_answered : (entry : CallEntry) → Fits (answered s entry)
  fits_answered entry = Fits-same (call_done s (call_of s) entry.bytes) (answered s entry) (fits_call (call_of s) entry.bytes) refl refl (λ page. refl)

  fits_matched : (entry : CallEntry) (diff : Option CallDiff) → FitsNext (matched s entry diff)
  fits_matched entry None = fits_answered entry
  fits_matched entry (Some diff) = tt

  fits_called : (ask : Ask) (entry : Option CallEntry) → FitsNext (called s ask entry)
  fits_called ask None = tt
  fits_called ask (Some entry) = fits_matched entry (first_difference entry ask)

  fits_asked : (rec : Recording) (ask : Option Ask) → FitsNext (asked rec s ask)
  fits_asked rec None = Fits-same s (exited s) fits refl refl (λ page. refl)
  fits_asked rec (Some ask) = fits_called ask (slice_get rec.calls s.next_call)

  fits_stepped : (rec : Recording) (next : Next) → step s ≡ next → FitsNext (stepped rec s next)
  fits_stepped rec (Stepped t) steps = Fits-step s t fits steps
  fits_stepped rec Called steps = fits_asked rec (ask_of s)
  fits_stepped rec (Trapped number) steps = tt

  fits_in : (rec : Recording) (status : RunState) → FitsNext (onward_in rec s status)
  fits_in rec Running = fits_stepped rec (step s) refl
  fits_in rec (Exited code) = tt

  fits_next : (rec : Recording) → FitsNext (onward rec s)
  unfolding onward
  fits_next rec = fits_in rec s.status

-- an instruction of a replay leads from a state that fits to one that fits
pub Fits-onward : (rec : Recording) (s t : State) → Fits s → onward rec s ≡ Goes t → Fits t
Fits-onward rec s t fits goes = subst (FitsNext s fits) goes (fits_next s fits rec)
