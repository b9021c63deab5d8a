-- Reading items one after the other, as a loop does.
use Rattle.std.proofs.Common.{◌≡◌, ℕ, suc, ◌-◌, ◌+◌, ◌≤◌, ◌<◌, List, [], ◌∷◌, ◌++◌, Result, Ok, Err, refl, sym, ◌∙◌, arith}
use Rattle.sl_base.specs.declared.refused.Refused.{Refused}
use Rattle.sl_base.specs.declared.refused.Refused.TheVariants as refused
use Rattle.rec_format.specs.declared.fault.RecFault.{RecFault}
use Rattle.rec_format.specs.Place.{Rest}
use Rattle.sl_base.specs.Refusals.{Fails}
use Rattle.rec_format.specs.Reading.{items_at}

module _ {X : Type 0} (item : List X → Rest → Result (X × Rest) RecFault) (count i : ℕ) (before : List X) (at : Rest) (total : Result (List X × Rest) RecFault) (so_far : items_at item (count - i) before at ≡ total) where
  -- one more item
  pub more : (x : X) (after : Rest) → i < count → item before at ≡ Ok (x, after) → items_at item (count - (i + 1)) (before ++ x ∷ []) after ≡ total
  unfolding items_at
  more x after lt h =
      let k : count - i ≡ suc (count - (i + 1)) = omega arith in
      let one : items_at item (count - i) before at ≡ items_at item (count - (i + 1)) (before ++ x ∷ []) after = rw (k, h) refl in
      sym one ∙ so_far

  -- an item with a fault
  pub stops : (e : Refused RecFault) → i < count → Fails e (item before at) → Fails e total
  unfolding items_at
  stops refused.Memory lt h = tt
  stops (refused.Fault f) lt h =
      let k : count - i ≡ suc (count - (i + 1)) = omega arith in
      let one : items_at item (count - i) before at ≡ Err f = rw (k, h) refl in
      sym so_far ∙ one

  -- no further item
  pub ends : count ≤ i → total ≡ Ok (before, at)
  unfolding items_at
  ends le =
      let k : count - i ≡ 0 = omega arith in
      let one : items_at item (count - i) before at ≡ Ok (before, at) = rw k refl in
      sym so_far ∙ one
