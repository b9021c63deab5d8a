-- Even places are a cutting.
use Rattle.std.proofs.Common.{◌≡◌, ℕ, ◌+◌, ◌*◌, ◌/◌, ◌-◌, ◌<◌, ◌≤◌, List, length, get_or, Some, sym, ap, subst, ◌∙◌, zero-add, arith}
use Rattle.std.specs.List.{slice_get}
use Rattle.std.proofs.Math.Nat.{div-mul-le_self, mul-div_cancel_left}
use Rattle.std.proofs.lemmas.Nat.{le-div}
use Rattle.std.proofs.lemmas.List.FromFn.{length-map-range_with_len, get_or-map-range_with_len}
use Rattle.std.proofs.lemmas.Option.{get_or_from_slice_get, slice_get-get_or}
use Rattle.epoch_cut.specs.Places.{IsCutting, last_place, even_place, even_places}

-- where there are no more epochs than segments, each share is larger than the one before
rises : (segments epochs k : ℕ) → 1 ≤ epochs → epochs ≤ segments → even_place segments epochs k < even_place segments epochs (k + 1)
rises segments epochs k some few =
    let below = div-mul-le_self (k * segments) epochs in
    let more = le-div (k * segments / epochs + 1) ((k + 1) * segments) epochs (omega arith) (omega arith) in
    omega arith

pub even_is_cutting : (segments epochs : ℕ) → 1 ≤ epochs → epochs ≤ segments → IsCutting segments (even_places segments epochs)
even_is_cutting segments epochs some few =
    let f = even_place segments epochs in
    let places = even_places segments epochs in
    let number : length places ≡ epochs + 1 = length-map-range_with_len f 0 (epochs + 1) in
    let here : (i : ℕ) → i < epochs + 1 → get_or places i 0 ≡ f i = λ i lt. get_or-map-range_with_len f 0 (epochs + 1) i i 0 lt (zero-add i) in
    let at : (i : ℕ) → i < epochs + 1 → slice_get places i ≡ Some (f i) = λ i lt. slice_get-get_or places i 0 (omega (arith, number)) ∙ ap Some (here i lt) in
    let none : f 0 ≡ 0 = omega arith in
    let end : length places - 1 ≡ epochs = omega (arith, number) in
    record {
      first = at 0 (omega arith) ∙ ap Some none;
      last = ap (slice_get places) end ∙ at epochs (omega arith) ∙ ap Some (mul-div_cancel_left segments {n = epochs} (omega arith));
      rising = λ k lt. omega (arith, here k (omega (arith, number)), here (k + 1) (omega (arith, number)), rises segments epochs k some few);
    }

-- a cutting ends at its last place
pub cuts_to_last : (segments : ℕ) (places : List ℕ) → IsCutting segments places → IsCutting (last_place places) places
cuts_to_last segments places is =
    let same : last_place places ≡ segments = get_or_from_slice_get places (length places - 1) segments 0 is.last in
    subst (λ (n : ℕ). IsCutting n places) (sym same) is
