-- What fires, as the code finds it.
use Rattle.std.proofs.Common.{◌≡◌, ℕ, zero, suc, ◌+◌, ◌-◌, ◌<◌, ◌≤◌, ◌%◌, Bool, true, false, cond, List, [], ◌∷◌, ◌++◌, length, map, Some, None, refl, arith, sym, ap, ◌∙◌, append-nil}
use Rattle.std.specs.Prelude.{Option, IfSome, ◌==◌, not, nat_lt, nat_le}
use Rattle.std.specs.List.{list_any, filter, range_with_len}
use Rattle.std.proofs.lemmas.Bool.Decides.{nat_tests}
use Rattle.std.proofs.lemmas.List.Folds.{list_any_at, list_any_none}
use Rattle.std.proofs.lemmas.List.FromFn.{length-range_with_len, get_or-range_with_len}
use Rattle.std.proofs.lemmas.List.Elements.{filter-append}
use Rattle.std.proofs.lemmas.List.Filters.{length-filter_both}
use Rattle.sl_model.specs.declared.instr.Instr.{Instr}
use Rattle.sl_model.specs.declared.instr.Instr.TheVariants as instr
use Rattle.sl_model.specs.declared.instr.StoreOp.{StoreOp}
use Rattle.sl_model.specs.declared.instr.StoreOp.TheVariants.{Sb, Sh, Sw}
use Rattle.std.specs.Option.{option_and_then}
use Rattle.sl_model.specs.Pages.{load_at}
use Rattle.sl_model.specs.Words.{meaning}
use Rattle.sl_model.specs.Arithmetic.{store_width}
use Rattle.sl_model.specs.State.{State}
use Rattle.sl_model.specs.NextStore.{next_store, store_by}
use Rattle.tracer_lang.specs.declared.tree.Point.{Point}
use Rattle.tracer_lang.specs.declared.tree.Tracepoint.{Tracepoint}
use Rattle.tracer_lang.specs.Tree.{TracepointTree, tracepoint_of}
use Rattle.tracer_lang.specs.Firing.{is_among, fires_at}
use Rattle.tracepoints.specs.Chains.{point_at}

-- ---- bytes in common

among : (address len byte : ℕ) → address ≤ byte → byte < address + len
    → is_among address len byte ≡ true
among address len byte low high = grind (arith, nat_tests)

not_among_below : (address len byte : ℕ) → byte < address → is_among address len byte ≡ false
not_among_below address len byte low = grind (arith, nat_tests)

not_among_above : (address len byte : ℕ) → address + len ≤ byte → is_among address len byte ≡ false
not_among_above address len byte high = grind (arith, nat_tests)

-- the range begins in the store
begins_in : (address len at width : ℕ) → 1 ≤ len → at ≤ address → address < at + width
    → list_any (is_among address len) (range_with_len at width) ≡ true
begins_in address len at width some low high =
    let here : at + (address - at) ≡ address = omega arith in
    let long : address - at < length (range_with_len at width) =
    rw (length-range_with_len at width) (omega arith) in
    list_any_at (is_among address len) (range_with_len at width) (address - at) 0 long
    (rw (get_or-range_with_len at width (address - at) 0 (omega arith), here)
    (among address len address (omega arith) (omega arith)))

-- the store begins in the range
begins_before : (address len at width : ℕ) → 1 ≤ width → address ≤ at → at < address + len
    → list_any (is_among address len) (range_with_len at width) ≡ true
begins_before address len at width some low high =
    let here : at + 0 ≡ at = omega arith in
    let long : 0 < length (range_with_len at width) =
    rw (length-range_with_len at width) (omega arith) in
    list_any_at (is_among address len) (range_with_len at width) 0 0 long
    (rw (get_or-range_with_len at width 0 0 (omega arith), here)
    (among address len at low high))

in_common : (address len at width : ℕ) → 1 ≤ len → 1 ≤ width
    → address < at + width → at < address + len → (b : Bool) → nat_le at address ≡ b
    → list_any (is_among address len) (range_with_len at width) ≡ true
in_common address len at width some wide below above true e =
    let low : at ≤ address = grind (arith, nat_tests) in
    begins_in address len at width some low below
in_common address len at width some wide below above false e =
    let low : address ≤ at = grind (arith, nat_tests) in
    begins_before address len at width wide low above

below_range : (address len at width : ℕ) → at + width ≤ address
    → list_any (is_among address len) (range_with_len at width) ≡ false
below_range address len at width apart =
    list_any_none (is_among address len) (range_with_len at width) (λ i d within.
    let inside : i < width = rw (length-range_with_len at width) at within in
    rw (get_or-range_with_len at width i d inside)
    (not_among_below address len (at + i) (omega arith)))

above_range : (address len at width : ℕ) → address + len ≤ at
    → list_any (is_among address len) (range_with_len at width) ≡ false
above_range address len at width apart =
    list_any_none (is_among address len) (range_with_len at width) (λ i d within.
    let inside : i < width = rw (length-range_with_len at width) at within in
    rw (get_or-range_with_len at width i d inside)
    (not_among_above address len (at + i) (omega arith)))

-- the range ends behind the store's first byte
pub begins_below : (address len at width : ℕ) → 1 ≤ len → 1 ≤ width → address < at + width
    → (b : Bool) → nat_lt at (address + len) ≡ b
    → b ≡ list_any (is_among address len) (range_with_len at width)
begins_below address len at width some wide below true e =
    let above : at < address + len = grind (arith, nat_tests) in
    sym (in_common address len at width some wide below above (nat_le at address) refl)
begins_below address len at width some wide below false e =
    let apart : address + len ≤ at = grind (arith, nat_tests) in
    sym (above_range address len at width apart)

-- the range begins behind the store
pub begins_above : (address len at width : ℕ) → at + width ≤ address → (b : Bool)
    → b ≡ nat_lt address (at + width)
    → b ≡ list_any (is_among address len) (range_with_len at width)
begins_above address len at width apart true e =
    absurd (grind (arith, nat_tests))
begins_above address len at width apart false e = sym (below_range address len at width apart)

-- ---- the store at pc

wide : (op : StoreOp) → 1 ≤ store_width op
wide Sb = omega arith
wide Sh = omega arith
wide Sw = omega arith

wide_by : (s : State) (instr : Option Instr) → IfSome (store_by s instr) (λ at. 1 ≤ at.1)
wide_by s None = tt
wide_by s (Some (instr.Store op rs1 rs2 offset)) = wide op
wide_by s (Some instr) = tt

wide_at : (s : State) (word : Option ℕ)
    → IfSome (option_and_then (λ w. store_by s (meaning w)) word) (λ at. 1 ≤ at.1)
wide_at s None = tt
wide_at s (Some word) = wide_by s (meaning word)

wide_if : (s : State) (b : Bool)
    → IfSome (cond b (option_and_then (λ w. store_by s (meaning w)) (load_at s.pages s.pc 4)) None)
    (λ at. 1 ≤ at.1)
wide_if s true = wide_at s (load_at s.pages s.pc 4)
wide_if s false = tt

-- a store writes a byte at least
pub next_store-wide : (s : State) → IfSome (next_store s) (λ at. 1 ≤ at.1)
unfolding next_store
next_store-wide s = wide_if s (s.pc % 4 == 0)

-- ---- points

range_more : (a n : ℕ) → range_with_len a (suc n) ≡ range_with_len a n ++ (a + n) ∷ []
range_more a zero = let e : a + 0 ≡ a = omega arith in rw e refl
range_more a (suc n) =
    let e : a + 1 + n ≡ a + suc n = omega arith in
    ap (λ xs. a ∷ xs) (range_more (a + 1) n ∙ rw e refl)

-- the points that fire among the first ones
abbrev pub firing_below : List Point → ℕ → Option (ℕ × ℕ) → ℕ → List ℕ
firing_below points pc store n =
    filter (λ i. fires_at pc store (point_at points i)) (range_with_len 0 n)

pub firing_more : (points : List Point) (pc : ℕ) (store : Option (ℕ × ℕ)) (n : ℕ) (b : Bool)
    → fires_at pc store (point_at points n) ≡ b
    → firing_below points pc store (n + 1)
    ≡ firing_below points pc store n ++ cond b (n ∷ []) []
firing_more points pc store n b e =
    let p : ℕ → Bool = λ i. fires_at pc store (point_at points i) in
    let next : 0 + n ≡ n = omega arith in
    let longer : n + 1 ≡ suc n = omega arith in
    ap (λ m. filter p (range_with_len 0 m)) longer
    ∙ ap (filter p) (range_more 0 n)
    ∙ filter-append p (range_with_len 0 n) ((0 + n) ∷ [])
    ∙ rw (next, e) refl

-- points that do not fire are passed over
pub firing_skip : (points : List Point) (pc : ℕ) (store : Option (ℕ × ℕ)) (n d : ℕ)
    → ((i : ℕ) → n ≤ i → i < n + d → fires_at pc store (point_at points i) ≡ false)
    → firing_below points pc store (n + d) ≡ firing_below points pc store n
firing_skip points pc store n zero quiet =
    let e : n + 0 ≡ n = omega arith in
    ap (firing_below points pc store) e
firing_skip points pc store n (suc d) quiet =
    let e : n + suc d ≡ n + d + 1 = omega arith in
    ap (firing_below points pc store) e
    ∙ firing_more points pc store (n + d) false (quiet (n + d) (omega arith) (omega arith))
    ∙ append-nil _
    ∙ firing_skip points pc store n d (λ i low high. quiet i low (omega (arith, high)))

-- no more fire than there are
pub length-firing_below : (points : List Point) (pc : ℕ) (store : Option (ℕ × ℕ)) (n : ℕ)
    → length (firing_below points pc store n) ≤ n
length-firing_below points pc store n =
    let p : ℕ → Bool = λ i. fires_at pc store (point_at points i) in
    omega (
      arith,
      length-filter_both p (λ i. not (p i)) (λ i. refl) (range_with_len 0 n),
      length-range_with_len 0 n,
    )

-- ---- the points of a script

pub points_of-trees : (ts : List Tracepoint)
    → map (λ (t : TracepointTree). t.point) (map tracepoint_of ts)
    ≡ map (λ (t : Tracepoint). t.point) ts
points_of-trees [] = refl
points_of-trees (t ∷ ts) = ap (λ ps. t.point ∷ ps) (points_of-trees ts)
