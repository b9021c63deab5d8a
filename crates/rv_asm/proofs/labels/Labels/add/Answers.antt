use Rattle.std.proofs.Common.{◌≡◌, ◌++◌, ◌∷◌, [], List, ℕ, sym, ap, subst, ◌∙◌, rules, ◌<◌, ◌^◌}
use Rattle.std.specs.Prelude.{Option, is_ok}
use Rattle.std.proofs.lemmas.Bool.{cond-true}
use Rattle.std.specs.Borrow.{Bor}
use Rattle.std.specs.BTreeMap.{BTreeMap}
use Rattle.rv_asm.specs.declared.place.Label.{Label}
use Rattle.rv_asm.specs.declared.place.Spot.{Spot}
use Rattle.rv_asm.specs.Labels.{AreKept}
use Rattle.rv_asm.proofs.LabelLaws.{known, fresh}
use Rattle.rv_asm.proofs.labels.Labels.add.Goals as goal
use Rattle.rv_asm.proofs.labels.Labels.add.Goals.{then-contains_key, else-contains_key+in_ok-insert}

same : (spots spots' : BTreeMap (Bor (List ℕ)) Spot) (doubled doubled' : Option ℕ) (items items' : List Label) → spots' ≡ spots → doubled' ≡ doubled → items' ≡ items
    → AreKept spots doubled items → AreKept spots' doubled' items'
same spots spots' doubled doubled' items items' a b c kept =
    subst (λ (s : BTreeMap (Bor (List ℕ)) Spot). AreKept s doubled' items') (sym a)
    (subst (λ (d : Option ℕ). AreKept spots d items') (sym b) (subst (λ (ls : List Label). AreKept spots doubled ls) (sym c) kept))

pub invariant_of-self-2 : goal.invariant_of-self-2
invariant_of-self-2 c =
    let label : Label = record { name = c.args.name.now; spot = c.args.spot; line = c.args.line } in
    elim c.if-contains_key.branch [
      | then-contains_key w ↦ same _ _ _ _ (c.self.inside.all.items ++ label ∷ []) _ (ap (λ i. i.spots) w.self-inside-is) (ap (λ i. i.doubled) w.self-inside-is) (c.push.ensures.items ∙ cond-true (is_ok c.push.result) _ _ (ap is_ok c.unwrap.ensures)
          ∙ ap (λ (ls : List Label). ls ++ record { name = c.from_vec.result; spot = c.args.spot; line = c.args.line } ∷ []) (ap (λ i. i.all.items) w.self-inside-is ∙ c.in_ok-reserve.ensures.items)
          ∙ ap (λ (n : List ℕ). c.self.inside.all.items ++ record { name = n; spot = c.args.spot; line = c.args.line } ∷ []) (c.from_vec.ensures ∙ c.in_ok-from_slice.ensures.items))
          (known c.self.inside.spots c.self.inside.doubled c.self.inside.all.items label w.or-self-inside.result c.self.invariant c.requires (sym c.contains_key.ensures ∙ w.if-contains_key.true) w.or-self-inside.ensures)
      | else-contains_key+in_ok-insert w ↦ same _ _ _ _ (c.self.inside.all.items ++ label ∷ []) _ (ap (λ i. i.spots) w.self-inside-is) (ap (λ i. i.doubled) w.self-inside-is) (c.push.ensures.items ∙ cond-true (is_ok c.push.result) _ _ (ap is_ok c.unwrap.ensures)
          ∙ ap (λ (ls : List Label). ls ++ record { name = c.from_vec.result; spot = c.args.spot; line = c.args.line } ∷ []) (ap (λ i. i.all.items) w.self-inside-is ∙ c.in_ok-reserve.ensures.items)
          ∙ ap (λ (n : List ℕ). c.self.inside.all.items ++ record { name = n; spot = c.args.spot; line = c.args.line } ∷ []) (c.from_vec.ensures ∙ c.in_ok-from_slice.ensures.items))
          (fresh c.self.inside.spots w.insert.new.self c.self.inside.doubled c.self.inside.all.items label c.self.invariant c.requires (sym c.contains_key.ensures ∙ w.if-contains_key.false) w.in_ok-insert.ensures.updates)
    ]
