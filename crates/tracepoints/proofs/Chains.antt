-- Chains of points.
use Rattle.std.proofs.Common.{◌≡◌, ◌≢◌, ℕ, suc, ◌+◌, ◌-◌, ◌<◌, ◌≤◌, List, length, replicate}
use Rattle.std.proofs.Common.{Bool, true, false, cond, Some, None, refl, ap, ◌∙◌, sym, arith}
use Rattle.std.proofs.Common.{eqb, ◌⊎◌, inl, inr, ⊎_elim, slice_set}
use Rattle.std.specs.Prelude.{Option, slice_index_or}
use Rattle.std.proofs.lemmas.Bool.{cases_eq}
use Rattle.std.proofs.lemmas.Bool.Decides.{eqb_tells}
use Rattle.std.proofs.lemmas.List.{get_or-set_same, get_or-set_other, get_or-replicate, length-replicate}
use Rattle.std.proofs.Math.ListN.{length-set}
use Rattle.tracer_lang.specs.declared.tree.Point.{Point}
use Rattle.tracepoints.specs.Chains.{chain_of, point_at, is_on, soonest, first_of, AreChains}
use Rattle.tracepoints.proofs.Soonest.{IsQuiet, soonest-found, soonest-skip}

-- ---- the first point of a chain

-- the point of a number, or the first one behind it
pub first_of-step : (points : List Point) (i chain : ℕ) → i < length points
    → first_of points i chain
    ≡ cond (is_on points chain i) (Some i) (first_of points (i + 1) chain)
first_of-step points i chain within =
    let more : length points - i ≡ suc (length points - (i + 1)) = omega arith in
    rw more refl

-- no point is left
pub first_of-end : (points : List Point) (n chain : ℕ) → length points ≤ n
    → first_of points n chain ≡ None
first_of-end points n chain past =
    let none : length points - n ≡ 0 = omega arith in
    rw none refl

-- points of other chains are passed over
pub first_of-skip : (points : List Point) (n i chain : ℕ) → n ≤ i → i ≤ length points
    → IsQuiet (is_on points chain) n i → first_of points n chain ≡ first_of points i chain
first_of-skip points n i chain low within quiet =
    let behind : n + (i - n) ≡ i = omega arith in
    let all : length points - n ≡ i - n + (length points - i) = omega arith in
    ap (soonest (is_on points chain) n) all
    ∙ soonest-skip (is_on points chain) n (i - n) (length points - i) (λ j from to.
    quiet j from (omega (arith, to)))
    ∙ ap (λ m. soonest (is_on points chain) m (length points - i)) behind

-- ---- making them

-- before the first point is put onto its chain
pub AreChains-none : (points : List Point) (n : ℕ) (heads next : List (Option ℕ))
    → length points ≤ n → heads ≡ replicate 4097 None → next ≡ replicate 64 None
    → AreChains points n heads next
AreChains-none points n heads next past none empty = record {
  begins = λ chain within.
      rw none (get_or-replicate 4097 chain None None (omega arith)
      ∙ sym (first_of-end points n chain past));
  linked = λ i low within. absurd (omega (arith, low));
  chains = ap length none ∙ length-replicate {A = Option ℕ} 4097 None;
  places = ap length empty ∙ length-replicate {A = Option ℕ} 64 None;
}

begins_by : (heads : List (Option ℕ)) (points : List Point) (i chain of : ℕ) (o : Option ℕ)
    → of < length heads → slice_index_or heads chain None ≡ o
    → slice_index_or (slice_set heads of (Some i)) chain None ≡ cond (eqb of chain) (Some i) o
begins_by heads points i chain of o within before = ⊎_elim
    (λ (here : (eqb of chain ≡ true) × (of ≡ chain)).
    rw (here.0, ← here.1) (get_or-set_same heads of (Some i) None within))
    (λ (apart : (eqb of chain ≡ false) × (of ≢ chain)).
    rw apart.0 (get_or-set_other heads of chain (Some i) None (λ e. apart.1 (sym e)) ∙ before))
    (eqb_tells of chain)

-- a point comes before those of its chain
pub AreChains-more : (points : List Point) (i : ℕ) (heads next : List (Option ℕ))
    → i < length points → length points ≤ 64 → chain_of (point_at points i) ≤ 4096
    → AreChains points (i + 1) heads next
    → (let chain = chain_of (point_at points i) in
    AreChains points i (slice_set heads chain (Some i))
    (slice_set next i (slice_index_or heads chain None)))
AreChains-more points i heads next within few low chains =
    let of = chain_of (point_at points i) in
    let many = chains.chains in
    let room = chains.places in
    record {
      begins = λ chain inside.
          begins_by heads points i chain of (first_of points (i + 1) chain) (omega arith)
          (chains.begins chain inside)
          ∙ sym (first_of-step points i chain within);
      linked = λ j from to. ⊎_elim
          (λ (here : j ≡ i).
          rw here (get_or-set_same next i (slice_index_or heads of None) None (omega arith)
          ∙ chains.begins of low))
          (λ (apart : j ≡ i → ⊥).
          get_or-set_other next i j (slice_index_or heads of None) None apart
          ∙ chains.linked j (omega (arith, from, apart)) to)
          (cases_eq j i);
      chains = length-set heads of (Some i) ∙ many;
      places = length-set next i (slice_index_or heads of None) ∙ room;
    }

-- ---- following them

on_by : (points : List Point) (i chain : ℕ) (at : Option ℕ) (b : Bool)
    → is_on points chain i ≡ b → at ≡ cond b (Some i) (first_of points (i + 1) chain)
    → ((b ≡ true) × (at ≡ Some i) × (chain_of (point_at points i) ≡ chain))
    ⊎ ((b ≡ false) × (at ≡ first_of points (i + 1) chain))
on_by points i chain at true on is = ⊎_elim
    (λ (here : (is_on points chain i ≡ true) × (chain_of (point_at points i) ≡ chain)).
    inl (refl, is, here.1))
    (λ (apart : (is_on points chain i ≡ false) × (chain_of (point_at points i) ≢ chain)).
    absurd cc)
    (eqb_tells (chain_of (point_at points i)) chain)
on_by points i chain at false on is = inr (refl, is)

not_behind : (points : List Point) (i chain : ℕ) → first_of points (i + 1) chain ≡ Some i → ⊥
not_behind points i chain found =
    omega (arith, (soonest-found _ (i + 1) (length points - (i + 1)) i found).low)

-- a chain that has come to a point goes on to the next one that the point leads to
pub past_here : (points : List Point) (heads next : List (Option ℕ)) (i chain : ℕ) (at : Option ℕ)
    → AreChains points 0 heads next → i < length points → at ≡ first_of points i chain
    → at ≡ Some i → slice_index_or next i None ≡ first_of points (i + 1) chain
past_here points heads next i chain at chains within stands here = ⊎_elim
    (λ (on : (is_on points chain i ≡ true) × (at ≡ Some i)
    × (chain_of (point_at points i) ≡ chain)).
    chains.linked i (omega arith) within ∙ ap (first_of points (i + 1)) on.2)
    (λ (off : (is_on points chain i ≡ false) × (at ≡ first_of points (i + 1) chain)).
    absurd (not_behind points i chain (sym off.1 ∙ here)))
    (on_by points i chain at (is_on points chain i) refl
    (stands ∙ first_of-step points i chain within))

-- another chain stands behind the point already
pub past_other : (points : List Point) (i chain : ℕ) (at : Option ℕ) → i < length points
    → at ≡ first_of points i chain → (at ≡ Some i → ⊥) → at ≡ first_of points (i + 1) chain
past_other points i chain at within stands apart = ⊎_elim
    (λ (on : (is_on points chain i ≡ true) × (at ≡ Some i)
    × (chain_of (point_at points i) ≡ chain)).
    absurd (apart on.1))
    (λ (off : (is_on points chain i ≡ false) × (at ≡ first_of points (i + 1) chain)). off.1)
    (on_by points i chain at (is_on points chain i) refl
    (stands ∙ first_of-step points i chain within))
