-- The machine follows what a block does, instruction by instruction.
use Rattle.std.specs.Prelude.{IfSome, take}
use Rattle.std.specs.Option.{option_and_then}
use Rattle.std.proofs.Common.{◌≡◌, ℕ, zero, suc, ◌<◌, ◌≤◌, List, [], ◌∷◌, length, Option, Some, None, refl, ap, sym, subst, arith}
use Rattle.sl_model.specs.declared.instr.Instr.{Instr}
use Rattle.sl_model.specs.State.{State}
use Rattle.sl_model.specs.Step.{step}
use Rattle.sl_model.specs.Runs.{next_state, steps}
use Rattle.word_blocks.specs.Code.{CodeStands, HasBlock}
use Rattle.word_blocks.specs.Configuration.{Configuration, does, exec, IsAt}
use Rattle.word_blocks.proofs.Instructions.{step-does, does-place}

-- the code stands in the memory before each instruction of a block
abbrev pub StandsBefore : ℕ → List Instr → List Instr → Configuration → Type 0
StandsBefore start code block c = (k : ℕ) → k < length block → IfSome (exec start (take k block) c) (λ d. CodeStands start code d.pages)

pub exec-steps : (start : ℕ) (code block : List Instr) (c : Configuration) (s : State) → HasBlock code c.place block → StandsBefore start code block c → IsAt start c s
    → (k : ℕ) → k ≤ length block → IfSome (exec start (take k block) c) (λ d. IsAt start d (steps k s))
unfolding exec steps
exec-steps start code block c s has stands is zero within = is
exec-steps start code [] c s has stands is (suc k) within = absurd (omega arith)
exec-steps start code (instr ∷ rest) c s has stands is (suc k) within =
    of (does start instr c) refl (λ d t placed later there. exec-steps start code rest d t placed later there k (omega arith))
  where
    Further : Type 0
    Further = (d : Configuration) (t : State) → HasBlock code d.place rest → StandsBefore start code rest d → IsAt start d t → IfSome (exec start (take k rest) d) (λ e. IsAt start e (steps k t))

    of : (o : Option Configuration) → does start instr c ≡ o → Further → IfSome (option_and_then (exec start (take k rest)) o) (λ d. IsAt start d (steps k (next_state s (step s))))
    of None done further = tt
    of (Some d) done further =
        let led = step-does start code instr c d s (stands 0 (omega arith)) has.0 is done in
        let later : StandsBefore start code rest d = λ j below. subst (λ o. IfSome (option_and_then (exec start (take j rest)) o) (λ e. CodeStands start code e.pages)) done (stands (suc j) (omega arith)) in
        let placed : HasBlock code d.place rest = rw (does-place start instr c d done) has.1 in
        let there : led.0 ≡ next_state s (step s) = sym (ap (next_state s) led.1) in
        subst (λ t. IfSome (exec start (take k rest) d) (λ e. IsAt start e (steps k t))) there (further d led.0 placed later led.2)
