-- Loops: each turn is paid from the unit that it takes.
use Rattle.std.proofs.Common.{◌≡◌, ℕ, zero, suc, ◌+◌, ◌≤◌, List, ◌++◌, [], ◌∷◌, length, Some, refl, ap, ◌∙◌, sym, subst, arith, length-append}
use Rattle.std.specs.Prelude.{slice_get}
use Rattle.sl_model.specs.declared.instr.BranchOp.TheVariants.{Bne}
use Rattle.sl_model.specs.declared.instr.Instr.{Instr}
use Rattle.sl_model.specs.Pages.{Pages}
use Rattle.tracer_lang.specs.declared.record.TracerEnd.TheVariants.{OverBudget}
use Rattle.tracer_lang.specs.Meaning.{Now, Outcome, Goes, Ended, then_do, choose, with_unit, turns}
use Rattle.word_blocks.specs.Code.{HasBlock}
use Rattle.word_blocks.specs.Configuration.{Registers, write, at_place}
use Rattle.word_blocks.specs.Ways.{Leads}
use Rattle.word_blocks.proofs.CodeLaws.{HasBlock-parts}
use Rattle.word_blocks.proofs.Jumps.{Leads-taken, Leads-passed}
use Rattle.word_blocks.proofs.Ways.{Leads-map}
use Rattle.tracer_compile.specs.declared.roles.Role.TheVariants.{Zero, Value}
use Rattle.tracer_compile.specs.Blocks.{skip_if, jump_on, jump_back, unit_block, end_with, end_without}
use Rattle.tracer_compile.specs.Code.{while_code}
use Rattle.tracer_compile.proofs.Relation.{World, worth, promise, Body, Room, Roles, Stands, Reaches, any, holds_value, tells_nothing, Runs}
use Rattle.tracer_compile.proofs.Standing.{Kept-none}
use Rattle.tracer_compile.proofs.Running.{Roles-kept, Reaches-since, Leads-next, worth-suc, HasBlock-inside}
use Rattle.tracer_compile.proofs.Choices.{is_taken-none, is_taken-some, Leads-jump_on, Leads-jump_back, Leads-arrived}
use Rattle.tracer_compile.proofs.Units.{with_unit-none, Stands-units, Leads-unit}

-- ---- where the parts of a loop stand

record Loop (w : World) (condition body : List Instr) (place size : ℕ) : Type 0 where
  condition_here : HasBlock w.code place condition
  skip_here : slice_get w.code (place + length condition) ≡ Some (skip_if Bne Value Zero 2)
  jump_here : HasBlock w.code (place + length condition + 1) (jump_on (length body + 7) ∷ [])
  unit_here : HasBlock w.code (place + length condition + 2) unit_block
  body_here : HasBlock w.code (place + length condition + 2 + 5) body
  back_here : HasBlock w.code (place + (length condition + length body + 7)) (jump_back (length condition + length body + 7) ∷ [])
  size_is : size ≡ length condition + length body + 8
  inside : place + size ≤ length w.code

loop_parts : (w : World) (condition body : List Instr) (place : ℕ) → HasBlock w.code place (while_code condition body) → Loop w condition body place (length (while_code condition body))
unfolding while_code unit_block end_without end_with
loop_parts w condition body place has =
    let turn : List Instr = unit_block ++ body in
    let turns_back : List Instr = turn ++ jump_back (length condition + 2 + length turn) ∷ [] in
    let after_condition : List Instr = skip_if Bne Value Zero 2 ∷ jump_on (length turn + 2) ∷ turns_back in
    let whole : List Instr = condition ++ after_condition in
    let parts = HasBlock-parts w.code place condition after_condition has in
    let turn_size : length turn ≡ 5 + length body = length-append unit_block body in
    let turn_words : length turn + 2 ≡ length body + 7 = omega (arith, turn_size) in
    let back_words : length condition + 2 + length turn ≡ length condition + length body + 7 = omega (arith, turn_size) in
    let back_size : length turns_back ≡ length turn + 1 = length-append turn (jump_back (length condition + 2 + length turn) ∷ []) in
    let size : length whole ≡ length condition + length body + 8 = omega (arith, length-append condition after_condition, back_size, turn_size) in
    let two : place + length condition + 1 + 1 ≡ place + length condition + 2 = omega arith in
    let later = HasBlock-parts w.code (place + length condition + 2) turn (jump_back (length condition + 2 + length turn) ∷ []) (subst (λ q. HasBlock w.code q turns_back) two parts.1.1.1) in
    let inner = HasBlock-parts w.code (place + length condition + 2) unit_block body later.0 in
    let back : place + length condition + 2 + length turn ≡ place + (length condition + length body + 7) = omega (arith, turn_size) in
    record {
      condition_here = parts.0;
      skip_here = parts.1.0;
      jump_here = (parts.1.1.0 ∙ ap (λ k. Some (jump_on k)) turn_words, tt);
      unit_here = inner.0;
      body_here = inner.1;
      back_here = subst (λ q. HasBlock w.code q (jump_back (length condition + length body + 7) ∷ [])) back (later.1.0 ∙ ap (λ k. Some (jump_back k)) back_words, tt);
      size_is = size;
      inside = HasBlock-inside w.code place whole has (omega (arith, size));
    }

-- with no unit left a turn ends the tracer
choose-none : (value : ℕ) (follow : Now → Outcome) (now : Now) → now.units ≡ 0 → choose value (with_unit follow) (Goes 0) now ≡ choose value (Ended OverBudget) (Goes 0) now
choose-none zero follow now none = refl
choose-none (suc value) follow now none = with_unit-none follow now none

module _ (w : World) (b : Body) (depth : ℕ) (condition body : List Instr) (f g : Now → Outcome) (condition_runs : Runs w b any holds_value depth condition f) (body_runs : Runs w b any tells_nothing depth body g) where
  -- after the condition, where the turns behind it are known
  after_condition : (place top after limit : ℕ) (now : Now) (x : Registers) (m : Pages) (follow : Now → Outcome) (size : ℕ) → Loop w condition body place size → Room b top depth → Roles b top now x → Stands w b now m → length body + 8 + worth w now.units + after ≤ limit
      → ((units left : ℕ) (y : Registers) → now.units ≡ suc units → Roles b top (record now { units = units }) y → left + 3 ≡ limit → Leads (promise w) left (at_place (place + length condition + 2 + 5) y m) (Reaches w b tells_nothing (place + size) top after m now.units (follow (record now { units = units }))))
      → (value : ℕ) → x 10 ≡ value → Leads (promise w) limit (at_place (place + length condition) x m) (Reaches w b tells_nothing (place + size) top after m now.units (choose value (with_unit follow) (Goes 0) now))
  after_condition place top after limit now x m follow size loop room roles stands enough further zero is =
      let end : place + length condition + 1 + (length body + 7) ≡ place + size = omega (arith, loop.size_is) in
      Leads-passed (promise w) (place + length condition) limit x m _ stands.holds (omega (arith, enough)) Bne 10 0 2 loop.skip_here (omega arith) (omega (arith, loop.size_is, loop.inside)) (is_taken-none (x 10) is)
      (λ left counted. Leads-jump_on w left x m _ stands.holds (omega (arith, enough, counted)) (place + length condition + 1) (length body + 7) loop.jump_here (omega (arith, end, loop.inside))
      (λ rest v less. subst (λ q. Leads (promise w) rest (at_place q (write x 0 v) m) (Reaches w b tells_nothing (place + size) top after m now.units (Goes 0 now))) (sym end)
      (Leads-arrived w b (place + size) top after rest now (write x 0 v) m (Roles-kept b top now x (write x 0 v) roles (refl, refl, refl, refl, refl)) stands (omega (arith, enough, counted, less)) 0)))
  after_condition place top after limit now x m follow size loop room roles stands enough further (suc value) is =
      Leads-taken (promise w) (place + length condition) limit x m _ stands.holds (omega (arith, enough)) Bne 10 0 2 loop.skip_here (omega arith) (omega (arith, loop.size_is, loop.inside)) (is_taken-some (x 10) value is)
      (λ left counted. Leads-unit w b tells_nothing (place + size) top top after (place + length condition + 2) left now x m m follow loop.unit_here roles stands (omega (arith, enough, counted))
      (λ units rest y some same roles' less. further units rest y some roles' (omega (arith, counted, less))))

  loop-from : (n place top limit after : ℕ) (now : Now) (x : Registers) (m : Pages) (size : ℕ) → Loop w condition body place size → Room b top depth → Roles b top now x → Stands w b now m → now.units ≤ n → size + worth w now.units + after ≤ limit
      → Leads (promise w) limit (at_place place x m) (Reaches w b tells_nothing (place + size) top after m now.units (turns f g n now))
  unfolding turns
  loop-from zero place top limit after now x m size loop room roles stands few enough =
      Leads-next w b holds_value tells_nothing (place + length condition) (place + size) top top (length body + 8 + after) after limit m now.units (at_place place x m) (f now) (λ c. choose c (Ended OverBudget) (Goes 0)) (omega (arith, room.behind)) (omega arith) (omega arith)
      (condition_runs place top limit (length body + 8 + after) now x m loop.condition_here tt room roles stands (omega (arith, enough, loop.size_is)))
      (λ value then left y n tells roles' stands' kept less steps.
      let none : then.units ≡ 0 = omega (arith, less, few) in
      subst (λ o. Leads (promise w) left (at_place (place + length condition) y n) (Reaches w b tells_nothing (place + size) top after n then.units o)) (choose-none value (Goes 0) then none)
      (after_condition place top after left then y n (Goes 0) size loop room roles' stands' (omega (arith, steps)) (λ units rest z some roles'' spent. absurd (omega (arith, some, none))) value tells))
  loop-from (suc count) place top limit after now x m size loop room roles stands few enough =
      Leads-next w b holds_value tells_nothing (place + length condition) (place + size) top top (length body + 8 + after) after limit m now.units (at_place place x m) (f now)
      (λ c. choose c (with_unit (λ t. then_do (g t) (λ _. turns f g count))) (Goes 0)) (omega (arith, room.behind)) (omega arith) (omega arith)
      (condition_runs place top limit (length body + 8 + after) now x m loop.condition_here tt room roles stands (omega (arith, enough, loop.size_is)))
      (λ value then left y n tells roles' stands' kept less steps.
      after_condition place top after left then y n (λ t. then_do (g t) (λ _. turns f g count)) size loop room roles' stands' (omega (arith, steps))
      (λ units rest z some roles'' spent.
      let inside : Now = record then { units = units } in
      let paid : worth w then.units ≡ length w.code + worth w units = ap (worth w) some ∙ worth-suc w units in
      let follow : Outcome = then_do (g inside) (λ _. turns f g count) in
      let start : ℕ = place + length condition + 2 + 5 in
      Leads-map (promise w) rest (at_place start z n) (Reaches w b tells_nothing (place + size) top after n units follow) (Reaches w b tells_nothing (place + size) top after n then.units follow)
      (Leads-next w b tells_nothing tells_nothing (start + length body) (place + size) top top (size + 1 + after) after rest n units (at_place start z n) (g inside) (λ _. turns f g count) (omega (arith, room.behind)) (omega arith) (omega arith)
      (body_runs start top rest (size + 1 + after) inside z n loop.body_here tt room roles'' (Stands-units w b then units n stands') (omega (arith, steps, spent, paid, loop.inside)))
      (λ value' last left' u o tells' roles3 stands3 kept' less' steps'.
      let back : place + (length condition + length body + 7) ≡ start + length body = omega arith in
      subst (λ q. Leads (promise w) left' (at_place q u o) (Reaches w b tells_nothing (place + size) top after o last.units (turns f g count last))) back
      (Leads-jump_back w left' u o _ stands3.holds (omega (arith, steps')) place (length condition + length body + 7) loop.back_here (omega (arith, loop.inside, loop.size_is))
      (λ less_left v counted. loop-from count place top less_left after last (write u 0 v) o size loop room (Roles-kept b top last u (write u 0 v) roles3 (refl, refl, refl, refl, refl)) stands3 (omega (arith, less', some, less, few)) (omega (arith, steps', counted))))))
      (λ less_left e. Reaches-since w b tells_nothing (place + size) top after n n then.units units follow less_left e (omega (arith, room.behind)) (Kept-none b top n) (omega (arith, some))))
      value tells)

  -- a loop, with as many turns as there are units
  pub while-runs : Runs w b any tells_nothing depth (while_code condition body) (λ now. turns f g now.units now)
  while-runs place top limit after now x m has is_given room roles stands enough =
      loop-from now.units place top limit after now x m (length (while_code condition body)) (loop_parts w condition body place has) room roles stands (omega arith) enough
