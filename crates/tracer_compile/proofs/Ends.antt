-- Ends by a call.
use Rattle.std.proofs.Common.{◌≡◌, ℕ, ◌+◌, ◌<◌, ◌≤◌, [], ◌∷◌, refl, ◌∙◌, sym, subst, arith}
use Rattle.sl_model.specs.declared.bank.TheConstants.{CODE_START}
use Rattle.sl_model.specs.declared.instr.Instr.TheVariants.{Ecall}
use Rattle.sl_model.specs.Pages.{Pages}
use Rattle.sl_model.specs.Arithmetic.{word_add}
use Rattle.tracer_lang.specs.declared.record.TracerEnd.{TracerEnd}
use Rattle.tracer_lang.specs.declared.record.TracerEnd.TheVariants.{Done, OverBudget, TooDeep, LoadFault, StoreFault, TooManyStores, TooManyWords, Barred, User}
use Rattle.tracer_lang.specs.Meaning.{Now, Ended}
use Rattle.tracer_code.specs.Outcomes.{end_number, end_value}
use Rattle.word_blocks.specs.Code.{HasBlock}
use Rattle.word_blocks.specs.Configuration.{Registers, at_place}
use Rattle.word_blocks.specs.Ways.{Leads}
use Rattle.word_blocks.proofs.Blocks.{Leads-block}
use Rattle.word_blocks.proofs.Ends.{step-ecall}
use Rattle.word_blocks.proofs.Ways.{Leads-stay}
use Rattle.tracer_compile.specs.declared.roles.Role.TheVariants.{Zero, Value, Detail}
use Rattle.tracer_compile.specs.Blocks.{add_number, end_with, end_without, stop_block}
use Rattle.tracer_compile.proofs.Relation.{World, Holds, promise, code_stands, Body, Matches, Reaches, Ends, holds_value, tells_nothing, Runs}
use Rattle.tracer_compile.proofs.Running.{Leads-known}
use Rattle.tracer_compile.proofs.Values.{number_added}

number_small : (end : TracerEnd) → end_number end < 9
number_small Done = omega arith
number_small OverBudget = omega arith
number_small TooDeep = omega arith
number_small (LoadFault address) = omega arith
number_small (StoreFault address) = omega arith
number_small TooManyStores = omega arith
number_small TooManyWords = omega arith
number_small (Barred code) = omega arith
number_small (User value) = omega arith

module _ (w : World) (b : Body) where
  -- x10 and x11 tell an outcome, and the run ends by a call
  pub Ends-called : (end : TracerEnd) (now : Now) (place : ℕ) (x : Registers) (m : Pages) → HasBlock w.code place (Ecall ∷ []) → Holds w m → Matches now m → x 10 ≡ end_number end → x 11 ≡ end_value end → Ends w end now (at_place place x m)
  Ends-called end now place x m has holds matches number value = record {
    number_told = number;
    value_told = value;
    words = matches.words;
    stores = matches.stores;
    holds = holds;
    ends = λ t is. rw (step-ecall CODE_START w.code (at_place place x m) t (code_stands w m holds) is has.0) (refl, tt);
  }

  -- the end, where x11 tells the outcome's value
  pub Leads-end_with : (end : TracerEnd) (number place limit after : ℕ) (told : ℕ → Registers → Type 0) (end_place top : ℕ) (now : Now) (x : Registers) (m before : Pages) (most : ℕ) → number ≡ end_number end → HasBlock w.code place (end_with number) → Holds w m → Matches now m → x 11 ≡ end_value end → 2 ≤ limit
      → Leads (promise w) limit (at_place place x m) (Reaches w b told end_place top after before most (Ended end now))
  unfolding end_with
  Leads-end_with end number place limit after told end_place top now x m before most is has holds matches value enough =
      let small : end_number end < 9 = number_small end in
      Leads-block (promise w) (add_number Value Zero number ∷ []) place limit x m (λ y n. (n ≡ m) × (y 10 ≡ number) × (y 11 ≡ x 11)) _ holds (has.0, tt) (omega (arith, enough)) (refl, number_added number (omega arith), refl)
      (λ left y n counted holds' reached. Leads-stay (promise w) left (at_place (place + 1) y n) _
      (Ends-called end now (place + 1) y n has.1 holds' (subst (Matches now) (sym reached.0) matches) (reached.1 ∙ is) (reached.2 ∙ value)))

  -- the end of an outcome without a value
  pub Leads-end_without : (end : TracerEnd) (number place limit after : ℕ) (told : ℕ → Registers → Type 0) (end_place top : ℕ) (now : Now) (x : Registers) (m before : Pages) (most : ℕ) → number ≡ end_number end → end_value end ≡ 0 → HasBlock w.code place (end_without number) → Holds w m → Matches now m → 3 ≤ limit
      → Leads (promise w) limit (at_place place x m) (Reaches w b told end_place top after before most (Ended end now))
  unfolding end_without
  Leads-end_without end number place limit after told end_place top now x m before most is none has holds matches enough =
      Leads-block (promise w) (add_number Detail Zero 0 ∷ []) place limit x m (λ y n. (n ≡ m) × (y 11 ≡ 0)) _ holds (has.0, tt) (omega (arith, enough)) (refl, refl)
      (λ left y n counted holds' reached. Leads-end_with end number (place + 1) left after told end_place top now y n before most is has.1 holds' (subst (Matches now) (sym reached.0) matches) (reached.1 ∙ sym none) (omega arith))

  -- the tracer stops with its value
  pub stop-runs : (depth value : ℕ) → Runs w b (holds_value value) tells_nothing depth stop_block (Ended (User value))
  unfolding stop_block end_with
  stop-runs depth value place top limit after now x m has given room roles stands enough =
      Leads-known w limit (at_place place x m) _ (λ small are.
      let copied : word_add (x 10) 0 ≡ value = omega (arith, given, small 10) in
      Leads-block (promise w) (add_number Detail Value 0 ∷ []) place limit x m (λ y n. (n ≡ m) × (y 11 ≡ value)) _ stands.holds (has.0, tt) (omega (arith, enough)) (refl, copied)
      (λ left y n counted holds' reached. Leads-end_with (User value) _ (place + 1) left after tells_nothing (place + 3) top now y n m now.units refl has.1 holds' (subst (Matches now) (sym reached.0) stands.matches) reached.1 (omega (arith, enough, counted))))
