-- A unit of the budget is taken, or the tracer is over its budget.
use Rattle.std.specs.Prelude.{◌==◌}
use Rattle.std.proofs.Common.{◌≡◌, ℕ, zero, suc, ◌+◌, ◌-◌, ◌%◌, ◌^◌, ◌<◌, ◌≤◌, false, [], ◌∷◌, length, refl, ap, ◌∙◌, sym, subst, arith}
use Rattle.std.proofs.lemmas.Bool.Decides.{nat_tests}
use Rattle.sl_model.specs.declared.instr.BranchOp.TheVariants.{Bne}
use Rattle.sl_model.specs.Arithmetic.{word_add, immediate_word}
use Rattle.sl_model.specs.Pages.{Pages}
use Rattle.tracer_lang.specs.declared.record.TracerEnd.TheVariants.{OverBudget}
use Rattle.tracer_lang.specs.Meaning.{Now, Outcome, Ended, with_unit}
use Rattle.tracer_code.specs.declared.outcomes.TheConstants.{OVER_BUDGET}
use Rattle.word_blocks.specs.Code.{HasBlock}
use Rattle.word_blocks.specs.Configuration.{Registers, at_place}
use Rattle.word_blocks.specs.Ways.{Leads}
use Rattle.word_blocks.proofs.Blocks.{Leads-block}
use Rattle.word_blocks.proofs.Jumps.{Leads-taken, Leads-passed}
use Rattle.tracer_compile.specs.declared.roles.Role.TheVariants.{Units}
use Rattle.tracer_compile.specs.Blocks.{take_number, end_with, end_without, unit_block}
use Rattle.tracer_compile.proofs.Relation.{World, promise, Body, Roles, Stands, Reaches}
use Rattle.tracer_compile.proofs.Running.{Leads-known, HasBlock-inside}
use Rattle.tracer_compile.proofs.Choices.{is_taken-none, is_taken-some}
use Rattle.tracer_compile.proofs.Ends.{Leads-end_without}

-- a number that is taken away
pub number_taken : (held left n : ℕ) → held ≡ left + n → held < 2 ^ 32 → n < 2 ^ 11 → word_add held (immediate_word ((2 ^ 12 - n % 2 ^ 12) % 2 ^ 12)) ≡ left
number_taken held left n is fits small = grind (arith, nat_tests)

-- a unit is there, or not
pub with_unit-none : (follow : Now → Outcome) (now : Now) → now.units ≡ 0 → with_unit follow now ≡ Ended OverBudget now
with_unit-none follow now is = rw is refl

some_unit : (n units : ℕ) → n ≡ suc units → (n == 0) ≡ false
some_unit n units is = grind (arith, nat_tests)

pub with_unit-some : (follow : Now → Outcome) (now : Now) (units : ℕ) → now.units ≡ suc units → with_unit follow now ≡ follow (record now { units = units })
with_unit-some follow now units is =
    let less : now.units - 1 ≡ units = omega arith in
    rw (some_unit now.units units is) (ap (λ n. follow (record now { units = n })) less)

module _ (w : World) (b : Body) where
  -- memory knows nothing of units
  pub Stands-units : (now : Now) (units : ℕ) (m : Pages) → Stands w b now m → Stands w b (record now { units = units }) m
  Stands-units now units m stands = record {
    holds = stands.holds;
    body = stands.body;
    matches = record {
      words = stands.matches.words;
      stores = stands.matches.stores;
      program = stands.matches.program;
      are = stands.matches.are;
      below = stands.matches.below;
    };
    count = stands.count;
    locals = stands.locals;
    place = stands.place;
    caller = stands.caller;
  }

  -- What follows a unit is paid with what it is worth.
  pub Leads-unit : (told : ℕ → Registers → Type 0) (end top high after place limit : ℕ) (now : Now) (x : Registers) (m before : Pages) (follow : Now → Outcome) → HasBlock w.code place unit_block → Roles b high now x → Stands w b now m → 5 ≤ limit
      → ((units left : ℕ) (y : Registers) → now.units ≡ suc units → y 10 ≡ x 10 → Roles b high (record now { units = units }) y → left + 2 ≡ limit
      → Leads (promise w) left (at_place (place + 5) y m) (Reaches w b told end top after before now.units (follow (record now { units = units }))))
      → Leads (promise w) limit (at_place place x m) (Reaches w b told end top after before now.units (with_unit follow now))
  unfolding unit_block end_without end_with
  Leads-unit told end top high after place limit now x m before follow has roles stands enough further =
      Leads-known w limit (at_place place x m) _ (λ small are. of now.units refl (small 9))
    where
      Goal : Outcome → Type 0
      Goal o = Leads (promise w) limit (at_place place x m) (Reaches w b told end top after before now.units o)

      inside : place + 5 ≤ length w.code
      inside = HasBlock-inside w.code place unit_block has (omega arith)

      of : (units : ℕ) → now.units ≡ units → x 9 < 2 ^ 32 → Goal (with_unit follow now)
      of zero is word =
          subst Goal (sym (with_unit-none follow now is))
          (Leads-passed (promise w) place limit x m _ stands.holds (omega (arith, enough)) Bne 9 0 4 has.0 (omega arith) (omega (arith, inside)) (is_taken-none (x 9) (roles.units_is ∙ is))
          (λ left counted. Leads-end_without w b OverBudget OVER_BUDGET (place + 1) left after told end top now x m before now.units refl refl (has.1.0, (has.1.1.0, (has.1.1.1.0, tt))) stands.holds stands.matches (omega (arith, enough))))
      of (suc units) is word =
          let there : place + 1 + 1 + 1 + 1 ≡ place + 4 = omega arith in
          let five : place + 4 + 1 ≡ place + 5 = omega arith in
          let left_over : word_add (x 9) (immediate_word ((2 ^ 12 - 1 % 2 ^ 12) % 2 ^ 12)) ≡ units = number_taken (x 9) units 1 (omega (arith, roles.units_is)) word (omega arith) in
          subst Goal (sym (with_unit-some follow now units is))
          (Leads-taken (promise w) place limit x m _ stands.holds (omega (arith, enough)) Bne 9 0 4 has.0 (omega arith) (omega (arith, inside)) (is_taken-some (x 9) units (roles.units_is ∙ is))
          (λ left counted. Leads-block (promise w) (take_number Units Units 1 ∷ []) (place + 4) left x m (λ y n. (n ≡ m) × (y 10 ≡ x 10) × Roles b high (record now { units = units }) y) _ stands.holds (subst (λ q. HasBlock w.code q (take_number Units Units 1 ∷ [])) there has.1.1.1.1) (omega (arith, enough, counted))
          (refl, refl, record { top_is = roles.top_is; frame_is = roles.frame_is; units_is = left_over; calls_is = roles.calls_is; break_is = roles.break_is })
          (λ rest y n less holds reached.
          subst (λ q. Leads (promise w) rest (at_place q y n) (Reaches w b told end top after before now.units (follow (record now { units = units })))) (sym five)
          (subst (λ q. Leads (promise w) rest (at_place (place + 5) y q) (Reaches w b told end top after before now.units (follow (record now { units = units })))) (sym reached.0)
          (further units rest y is reached.1 reached.2 (omega (arith, counted, less)))))))
