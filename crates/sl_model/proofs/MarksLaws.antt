-- What follows from the definition of marks that go on.
use Rattle.std.proofs.Common.{◌≡◌, ℕ, ◌++◌, List, Bool, inl, inr, ⊎_elim, refl, sym, ap, ◌∙◌, [], append_assoc, append-nil}
use Rattle.std.specs.Prelude.{Contains}
use Rattle.std.specs.FinMap.{get}
use Rattle.std.proofs.lemmas.List.Elements.{Contains-append_left}
use Rattle.sl_model.specs.Pages.{Pages}
use Rattle.sl_model.specs.Marks.{MarksGoOn}

-- where nothing changed
pub MarksGoOn-same : (is_marking : Bool) (pages : Pages) (marked : List ℕ) → MarksGoOn is_marking pages marked pages marked
MarksGoOn-same is_marking pages marked = record { keeps = ([], sym (append-nil marked)); marks = λ marking page below. inl refl }

-- one change after the other
pub MarksGoOn-then : (is_marking : Bool) (first : Pages) (marked₁ : List ℕ) (second : Pages) (marked₂ : List ℕ) (third : Pages) (marked₃ : List ℕ)
    → MarksGoOn is_marking first marked₁ second marked₂ → MarksGoOn is_marking second marked₂ third marked₃ → MarksGoOn is_marking first marked₁ third marked₃
MarksGoOn-then is_marking first marked₁ second marked₂ third marked₃ one two = record {
  keeps = (one.keeps.0 ++ two.keeps.0, two.keeps.1 ∙ ap (λ ps. ps ++ two.keeps.0) one.keeps.1 ∙ append_assoc marked₁ one.keeps.0 two.keeps.0);
  marks = λ marking page below. ⊎_elim
      (λ (same : get third page ≡ get second page). ⊎_elim
      (λ (still : get second page ≡ get first page). inl (same ∙ still))
      (λ (was : Contains marked₂ page). inr (rw two.keeps.1 (Contains-append_left marked₂ two.keeps.0 page was)))
      (one.marks marking page below))
      (λ (now : Contains marked₃ page). inr now)
      (two.marks marking page below);
}
