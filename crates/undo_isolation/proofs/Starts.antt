-- Where the tracers of sound code start.
use Rattle.std.specs.Prelude.{Option, IfSome, nat_eq, if◌then◌else◌}
use Rattle.std.specs.FinMap.{get}
use Rattle.std.specs.Option.{option_and_then, option_map}
use Rattle.std.proofs.Common.{◌≡◌, ℕ, zero, suc, ◌+◌, ◌*◌, ◌/◌, ◌%◌, ◌^◌, ◌<◌, ◌≤◌, Bool, true, false, List, Some, None, refl, ap, ◌∙◌, subst, arith, ⊎_elim}
use Rattle.std.proofs.lemmas.Bool.{cases_lt}
use Rattle.sl_model.specs.Pages.{Pages, IsPage, ArePages, byte_at, load_at}
use Rattle.sl_model.specs.State.{State}
use Rattle.sl_model.specs.Step.{Trapped, step, execute_fetched}
use Rattle.sl_model.specs.Runs.{steps, ends_at, EndsAfter}
use Rattle.sl_model.proofs.PagesLaws.{load_at-suc}
use Rattle.tracer_code.specs.Runs.{RunsTo, IsDone}

-- no byte at or above 2^32 is mapped
unmapped : (pages : Pages) (address : ℕ) → ArePages pages → 2 ^ 32 ≤ address → byte_at pages address ≡ None
unfolding byte_at
unmapped pages address are above = of (get pages (address / 4096)) refl (are (address / 4096))
  where
    of : (o : Option (List ℕ)) → get pages (address / 4096) ≡ o → IfSome o (λ page. (address / 4096 < 2 ^ 20) × IsPage page) → byte_at pages address ≡ None
    of None found is = rw found refl
    of (Some page) found is = absurd (let below = is.0 in omega arith)

-- there the machine traps, and its run has no end
trapped : (s : State) → ArePages s.pages → 2 ^ 32 ≤ s.pc → (number : ℕ) × (step s ≡ Trapped number) × (ends_at (Trapped number) ≡ false)
unfolding step
trapped s are above = of (nat_eq (s.pc % 4) 0)
  where
    none : load_at s.pages s.pc 4 ≡ None
    none = load_at-suc s.pages s.pc 3 ∙ ap (λ b. option_and_then (λ x. option_map (λ n. x + 256 * n) (load_at s.pages (s.pc + 1) 3)) b) (unmapped s.pages s.pc are above)

    of : (b : Bool) → (number : ℕ) × ((if b then execute_fetched s (load_at s.pages s.pc 4) else Trapped 0) ≡ Trapped number) × (ends_at (Trapped number) ≡ false)
    of true = (1, rw none refl, refl)
    of false = (0, refl, refl)

-- A run that ends, and does each instruction before, starts at a word.
pub RunsTo-at_word : (words : List ℕ) (s start : State) (count : ℕ) → ArePages start.pages → RunsTo words s start count → start.pc < 2 ^ 32
unfolding steps
RunsTo-at_word words s start count are run = ⊎_elim
    (λ (below : start.pc < 2 ^ 32). below)
    (λ (above : 2 ^ 32 ≤ start.pc). absurd (of count run.ends run.done (trapped start are above)))
    (cases_lt start.pc (2 ^ 32))
  where
    of : (n : ℕ) → EndsAfter n start → ((k : ℕ) → k < n → IsDone (step (steps k start))) → ((number : ℕ) × (step start ≡ Trapped number) × (ends_at (Trapped number) ≡ false)) → ⊥
    of zero ends done traps =
        let over : ends_at (step start) ≡ true = ends.end in
        let open_ : ends_at (step start) ≡ false = ap ends_at traps.1 ∙ traps.2 in
        cc
    of (suc n) ends done traps = subst IsDone traps.1 (done 0 (omega arith))
