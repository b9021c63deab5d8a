-- The opening state, and the states that go out from it.
use Rattle.std.proofs.Common.{◌≡◌, ℕ, ◌+◌, ◌-◌, ◌*◌, ◌/◌, ◌<◌, ◌≤◌, Bool, true, false, List, [], ◌∷◌, ◌++◌, length, refl, ap, ◌∙◌, sym, arith}
use Rattle.std.specs.Prelude.{is_some, ◌&&◌, not, nat_le, nat_lt, filter, All}
use Rattle.std.specs.Cmp.{nat_cmp_total, eq_by_cmp_equiv}
use Rattle.std.specs.FinMap.{get, len, keys, entries, contains_key-keys, len-entries}
use Rattle.std.proofs.lemmas.List.{append-nil, length-map}
use Rattle.std.proofs.lemmas.List.Elements.{All-head, All-tail}
use Rattle.std.proofs.lemmas.Map.Views.{All-from_any}
use Rattle.std.proofs.lemmas.Grind.{common_steps}
use Rattle.sl_model.specs.Pages.{Pages}
use Rattle.sl_model.specs.State.{State}
use Rattle.sl_model.specs.declared.run_state.RunState.TheVariants.{Running}
use Rattle.rv_machine.specs.declared.machine.Machine.{Machine}
use Rattle.rv_machine.specs.Machine.{state_of}
use Rattle.rec_format.specs.declared.recording.Recording.{Recording}
use Rattle.rec_format.specs.declared.recording.CheckpointData.{CheckpointData}
use Rattle.sl_model.specs.Mapping.{map_pages}
use Rattle.sl_model.proofs.Counted.{len-map_pages-below}
use Rattle.rec_format.specs.Recorded.{recorded_end, recorded_pages, recorded_state_of, recorded_state, put_all_listed}
use Rattle.sl_model.specs.State.{IsOpening}

-- ---- how many pages it has

filter_all : (p : ℕ → Bool) (xs : List ℕ) → All (λ x. p x ≡ true) xs → filter p xs ≡ xs
filter_all p [] all = refl
filter_all p (x ∷ xs) all = rw (All-head (λ x. p x ≡ true) x xs all) (ap (λ l. x ∷ l) (filter_all p xs (All-tail (λ x. p x ≡ true) x xs all)))

outside : (low high : Bool) → (low ≡ true → high ≡ true → ⊥) → not (low && high) ≡ true
outside true true h = absurd (h refl refl)
outside true false h = refl
outside false high h = refl

low_bound : (a b : ℕ) → nat_le a b ≡ true → a ≤ b
low_bound a b e = grind (arith, common_steps)

high_bound : (a b : ℕ) → nat_lt a b ≡ true → a < b
high_bound a b e = grind (arith, common_steps)

no_heap_page : (s : State) → IsOpening s → (q : ℕ) → is_some (get s.pages q) ≡ true → not (nat_le s.layout.brk_start (q * 4096) && nat_lt (q * 4096) s.layout.heap_limit) ≡ true
no_heap_page s is q found = outside (nat_le s.layout.brk_start (q * 4096)) (nat_lt (q * 4096) s.layout.heap_limit) (λ low high.
    let below = (is.fits.heap q (low_bound s.layout.brk_start (q * 4096) low) (high_bound (q * 4096) s.layout.heap_limit high)).0 found in
    omega (arith, low_bound s.layout.brk_start (q * 4096) low, is.no_heap, below))

-- none of its pages is a heap's
pub few_pages : (s : State) → IsOpening s → len s.pages ≤ 12288
few_pages s is =
    let outer : ℕ → Bool = λ page. not (nat_le s.layout.brk_start (page * 4096) && nat_lt (page * 4096) s.layout.heap_limit) in
    let all : All (λ page. outer page ≡ true) (keys s.pages) =
    All-from_any (eq_by_cmp_equiv nat_cmp_total) (λ page. outer page ≡ true) (keys s.pages) (λ q any. no_heap_page s is q (contains_key-keys s.pages q ∙ any)) in
    let long : length (filter outer (keys s.pages)) ≡ len s.pages = ap length (filter_all outer (keys s.pages) all) ∙ length-map (entries s.pages) (λ (e : ℕ × List ℕ). e.0) ∙ sym (len-entries s.pages) in
    omega (arith, long, is.fits.few)

-- there is room for all pages of a heap
pub room_for_heap : (s : State) (pages : Pages) (end : ℕ) → IsOpening s → pages ≡ s.pages → end ≤ s.layout.heap_limit → len (map_pages pages (s.layout.brk_start / 4096) ((end - s.layout.brk_start) / 4096)) ≤ 16384
room_for_heap s pages end is same to =
    let few = few_pages s is in
    let all = len-map_pages-below s.pages (s.layout.brk_start / 4096) ((end - s.layout.brk_start) / 4096) in
    rw same (omega (arith, few, is.fits.layout.size, all))

pub heap_below : (s : State) (end : ℕ) → IsOpening s → s.layout.brk_start ≤ end → end ≤ s.layout.heap_limit → s.layout.brk_start / 4096 + (end - s.layout.brk_start) / 4096 ≤ 0xBFFFF
heap_below s end is from to = omega (arith, is.fits.layout.below_end, is.fits.layout.start)

-- ---- its own memory

pub recorded_opening : (rec : Recording) (s : State) → IsOpening s → recorded_pages rec s 0 s.brk_end ≡ s.pages
unfolding put_all_listed map_pages
recorded_opening rec s is =
    let none : (s.brk_end - s.layout.brk_start) / 4096 ≡ 0 = omega (arith, is.no_heap) in
    ap (map_pages s.pages (s.layout.brk_start / 4096)) none

-- ---- the state of a checkpoint

pub restored : (rec : Recording) (opened : State) (k : ℕ) (checkpoint : CheckpointData) (x : List ℕ) (end : ℕ) (pages : Pages) → x ≡ checkpoint.x → end ≡ recorded_end opened checkpoint.brk_end
    → pages ≡ recorded_pages rec opened k end
    → ◌≡◌ {A = State}
    (record { pc = checkpoint.pc; x = 0 ∷ (x ++ []); pages = pages; brk = checkpoint.brk; brk_end = end; next_call = checkpoint.next_call; status = Running; count = checkpoint.count; layout = opened.layout })
    (recorded_state_of rec opened k checkpoint)
unfolding recorded_state_of
restored rec opened k checkpoint x end pages same_x same_end same_pages =
    let registers : ◌≡◌ {A = List ℕ} (0 ∷ (x ++ [])) (0 ∷ checkpoint.x) = ap (λ l. 0 ∷ l) (append-nil x ∙ same_x) in
    let memory = same_pages ∙ ap (recorded_pages rec opened k) same_end in
    λ i. record { pc = checkpoint.pc; x = registers i; pages = memory i; brk = checkpoint.brk; brk_end = same_end i; next_call = checkpoint.next_call; status = Running; count = checkpoint.count; layout = opened.layout }

-- the mapped end lies in the heap
pub end_from : (s : State) (brk_end : ℕ) → s.layout.brk_start ≤ recorded_end s brk_end
end_from s brk_end = omega arith

pub end_to : (s : State) (brk_end : ℕ) → IsOpening s → recorded_end s brk_end ≤ s.layout.heap_limit
end_to s brk_end is = omega (arith, is.fits.layout.ordered)

-- at checkpoint 0 it is the opening state
pub at_opening : (rec : Recording) (m : Machine) (opened pages : Pages) (s : State) (k : ℕ) → state_of m opened ≡ s → IsOpening (state_of m opened) → k ≡ 0 → pages ≡ recorded_pages rec s k m.brk_end → state_of m pages ≡ recorded_state rec s k
at_opening rec m opened pages s k same is none memory =
    let first : recorded_state rec s k ≡ s = ap (recorded_state rec s) none in
    let at : pages ≡ opened = memory ∙ ap (λ n. recorded_pages rec s n m.brk_end) none ∙ sym (ap (λ t. recorded_pages rec t 0 m.brk_end) same) ∙ recorded_opening rec (state_of m opened) is in
    ap (state_of m) at ∙ same ∙ sym first
