-- What every state of a run has, from the opening state on, and every state that a checkpoint records: 32 registers with
-- x0 being 0, and as mapped pages those of the opening state and of the heap up to its end.
use Rattle.std.specs.Prelude.{◌*◌, ◌&&◌, ◌||◌, nat_le, nat_lt, is_some}
use Rattle.std.specs.FinMap.{get}
use Rattle.std.proofs.Common.{◌≡◌, ℕ, ◌/◌, ◌%◌, ◌<◌, ◌≤◌, ⊎_elim, Bool, true, false, length, refl, sym, ap, ◌∙◌, arith, le-leb, lt-ltb}
use Rattle.std.proofs.lemmas.Bool.{or_cases, or_right, and_parts, and_from, ltb-true, leb-true}
use Rattle.sl_model.proofs.PagesLaws.{AreWhole}
use Rattle.sl_model.specs.State.{State, IsState, Fits, IsOpening, register, is_outside_heap}
use Rattle.sl_model.proofs.Memory.{AreWhole-pages}
use Rattle.sl_model.proofs.Mapping.{is_among}
use Rattle.sl_model.proofs.Steps.{IsNext}
use Rattle.sl_model.proofs.Fitting.{Grows, is_outside_heap-false}

-- the pages of a program that was opened so, with this end of the mapped heap
abbrev pub is_mapped : State → ℕ → ℕ → Bool
is_mapped opened brk_end number = is_some (get opened.pages number) || is_among (opened.layout.brk_start / 4096) (brk_end / 4096) number

pub record IsInRun (opened s : State) : Type 0 where
  pub registers : length s.x ≡ 32
  pub zero : register s 0 ≡ 0
  pub whole : AreWhole s.pages
  pub layout : s.layout ≡ opened.layout
  pub end_page : s.brk_end % 4096 ≡ 0
  pub end_from : opened.layout.brk_start ≤ s.brk_end
  pub end_to : s.brk_end ≤ opened.layout.heap_limit
  pub mapped : (number : ℕ) → is_some (get s.pages number) ≡ is_mapped opened s.brk_end number

-- ---- instructions but calls

-- a state that differs so from one of the run is one of the run
pub IsInRun-next : (opened s t : State) → IsInRun opened s → IsNext s t → IsInRun opened t
IsInRun-next opened s t is next = record {
  registers = next.registers ∙ is.registers;
  zero = next.zero ∙ is.zero;
  whole = next.whole is.whole;
  layout = next.layout ∙ is.layout;
  end_page = rw next.brk_end is.end_page;
  end_from = rw next.brk_end is.end_from;
  end_to = rw next.brk_end is.end_to;
  mapped = λ number. next.mapped number ∙ is.mapped number ∙ ap (λ n. is_mapped opened n number) (sym next.brk_end);
}

-- ---- states that fit

pub among_is : (start end page : ℕ) → is_among (start / 4096) (end / 4096) page ≡ true → end % 4096 ≡ 0 → start % 4096 ≡ 0 → (start ≤ page * 4096) × (page * 4096 < end)
among_is start end page is end_page start_page =
    let parts = and_parts (nat_le (start / 4096) page) (nat_lt page (end / 4096)) is in
    let low : start / 4096 ≤ page = leb-true (start / 4096) page parts.0 in
    let high : page < end / 4096 = ltb-true page (end / 4096) parts.1 in
    (omega arith, omega arith)

is_among-from : (start end page : ℕ) → start ≤ page * 4096 → page * 4096 < end → end % 4096 ≡ 0 → is_among (start / 4096) (end / 4096) page ≡ true
is_among-from start end page from to end_page =
    let low : start / 4096 ≤ page = omega arith in
    let high : page < end / 4096 = omega arith in
    and_from (nat_le (start / 4096) page) (nat_lt page (end / 4096)) (le-leb (start / 4096) page low) (lt-ltb page (end / 4096) high)

same_outside : (a m o : Bool) → (m ≡ true → o ≡ false) → ((a || m) && o) ≡ (a && o)
same_outside true m o apart = refl
same_outside false true o apart = apart refl
same_outside false false o apart = refl

-- the part of it that tells which pages are mapped
pub record HasHeap (opened s : State) : Type 0 where
  pub layout : s.layout ≡ opened.layout
  pub end_page : s.brk_end % 4096 ≡ 0
  pub end_from : opened.layout.brk_start ≤ s.brk_end
  pub end_to : s.brk_end ≤ opened.layout.heap_limit
  pub mapped : (number : ℕ) → is_some (get s.pages number) ≡ is_mapped opened s.brk_end number

pub heap_of : (opened s : State) → IsInRun opened s → HasHeap opened s
heap_of opened s is = record { layout = is.layout; end_page = is.end_page; end_from = is.end_from; end_to = is.end_to; mapped = is.mapped }

-- what a run reaches from a state that fits
pub Grows-run : (s t : State) → Fits s → HasHeap s t → s.brk_end ≤ t.brk_end → Grows s t
Grows-run s t fits runs grew = record {
  layout = runs.layout;
  end_page = runs.end_page;
  end_from = runs.end_from;
  end_to = runs.end_to;
  outside = λ page. ap (λ b. b && is_outside_heap s.layout page) (runs.mapped page)
      ∙ same_outside (is_some (get s.pages page)) (is_among (s.layout.brk_start / 4096) (t.brk_end / 4096) page) (is_outside_heap s.layout page) (λ is.
      let place = among_is s.layout.brk_start t.brk_end page is runs.end_page fits.layout.start in
      is_outside_heap-false s.layout page place.0 (omega (arith, place.1, runs.end_to)));
  heap = λ page from to. (
    λ some. ⊎_elim
        (λ (stood : is_some (get s.pages page) ≡ true).
        let below = (fits.heap page from to).0 stood in
        omega arith)
        (λ (new : is_among (s.layout.brk_start / 4096) (t.brk_end / 4096) page ≡ true). (among_is s.layout.brk_start t.brk_end page new runs.end_page fits.layout.start).1)
        (or_cases (is_some (get s.pages page)) (is_among (s.layout.brk_start / 4096) (t.brk_end / 4096) page) (sym (runs.mapped page) ∙ some)),
    λ below. runs.mapped page ∙ or_right (is_some (get s.pages page)) (is_among (s.layout.brk_start / 4096) (t.brk_end / 4096) page) (is_among-from s.layout.brk_start t.brk_end page from below runs.end_page),
  );
}

within_itself : (a m : Bool) → (m ≡ true → a ≡ true) → a ≡ (a || m)
within_itself true m has = refl
within_itself false true has = has refl
within_itself false false has = refl

-- a state that fits has its own heap, and is one of its own run
pub own_heap : (s : State) → Fits s → HasHeap s s
own_heap s fits = record {
  layout = refl;
  end_page = fits.mapped_end;
  end_from = fits.end_from;
  end_to = fits.end_to;
  mapped = λ page. within_itself (is_some (get s.pages page)) (is_among (s.layout.brk_start / 4096) (s.brk_end / 4096) page) (λ heap.
      let place = among_is s.layout.brk_start s.brk_end page heap fits.mapped_end fits.layout.start in
      (fits.heap page place.0 (omega (arith, place.1, fits.end_to))).1 place.1);
}

own_run : (s : State) → IsState s → Fits s → IsInRun s s
own_run s is fits =
    let heap = own_heap s fits in
    record { registers = is.registers; zero = is.zero; whole = AreWhole-pages s.pages is.pages; layout = heap.layout; end_page = heap.end_page; end_from = heap.end_from; end_to = heap.end_to; mapped = heap.mapped }

pub IsInRun-opened : (opened : State) → IsOpening opened → IsInRun opened opened
IsInRun-opened opened is = own_run opened is.state is.fits
