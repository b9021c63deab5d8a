-- Choices: jumps over parts of the code, and what follows them.
use Rattle.std.proofs.Common.{◌≡◌, ℕ, zero, suc, ◌+◌, ◌-◌, ◌*◌, ◌%◌, ◌^◌, ◌<◌, ◌≤◌, true, false, List, ◌++◌, [], ◌∷◌, length, Some, refl, ap, ◌∙◌, subst, arith, length-append}
use Rattle.std.proofs.lemmas.Bool.Decides.{nat_tests}
use Rattle.sl_model.specs.declared.instr.BranchOp.TheVariants.{Bne}
use Rattle.sl_model.specs.declared.instr.Instr.{Instr}
use Rattle.sl_model.specs.declared.instr.Instr.TheVariants.{Jal}
use Rattle.sl_model.specs.Arithmetic.{is_taken}
use Rattle.sl_model.specs.Pages.{Pages}
use Rattle.tracer_lang.specs.Meaning.{Now, Outcome, Goes, Returned, Ended, then_do, choose}
use Rattle.word_blocks.specs.Code.{HasBlock}
use Rattle.word_blocks.specs.Configuration.{Registers, Configuration, write, at_place}
use Rattle.word_blocks.specs.Jumps.{jump_between}
use Rattle.word_blocks.specs.Ways.{Leads}
use Rattle.word_blocks.proofs.CodeLaws.{HasBlock-parts}
use Rattle.word_blocks.proofs.Jumps.{Leads-jal, Leads-taken, Leads-passed}
use Rattle.word_blocks.proofs.Ways.{Leads-stay}
use Rattle.tracer_compile.specs.declared.roles.Role.TheVariants.{Zero, Value}
use Rattle.tracer_compile.specs.Blocks.{skip_if, jump_on, jump_back}
use Rattle.tracer_compile.proofs.Relation.{World, Holds, worth, promise, Body, Room, Roles, Stands, Reaches, any, holds_value, tells_nothing, Runs}
use Rattle.tracer_compile.proofs.Standing.{Kept-none}
use Rattle.tracer_compile.proofs.Running.{Roles-kept, Leads-next, HasBlock-inside}

-- ---- jumps

pub jump_on-between : (place words : ℕ) → 2 * words % 2 ^ 20 ≡ jump_between place (place + words)
jump_on-between place words = omega arith

pub jump_back-between : (place words : ℕ) → words ≤ 2 ^ 18 → (2 ^ 20 - 2 * words % 2 ^ 20) % 2 ^ 20 ≡ jump_between (place + words) place
jump_back-between place words near = omega arith

-- whether a value is not 0
pub is_taken-none : (n : ℕ) → n ≡ 0 → is_taken Bne n 0 ≡ false
is_taken-none n is = rw is refl

pub is_taken-some : (n less : ℕ) → n ≡ suc less → is_taken Bne n 0 ≡ true
is_taken-some n less is = grind (arith, nat_tests)

module _ (w : World) (limit : ℕ) (x : Registers) (m : Pages) (goal : ℕ → Configuration → Type 0) (holds : Holds w m) (enough : 1 ≤ limit) where
  pub Leads-jump_on : (place words : ℕ) → HasBlock w.code place (jump_on words ∷ []) → place + words ≤ length w.code
      → ((left v : ℕ) → left + 1 ≡ limit → Leads (promise w) left (at_place (place + words) (write x 0 v) m) goal) → Leads (promise w) limit (at_place place x m) goal
  Leads-jump_on place words has inside further =
      let few : length w.code < 2 ^ 18 = w.few_words in
      Leads-jal (promise w) place limit x m goal holds enough 0 (place + words) (has.0 ∙ ap (λ k. Some (Jal 0 k)) (jump_on-between place words)) inside (omega arith) (omega arith)
      (λ left counted. further left _ counted)

  pub Leads-jump_back : (place words : ℕ) → HasBlock w.code (place + words) (jump_back words ∷ []) → place + words ≤ length w.code
      → ((left v : ℕ) → left + 1 ≡ limit → Leads (promise w) left (at_place place (write x 0 v) m) goal) → Leads (promise w) limit (at_place (place + words) x m) goal
  Leads-jump_back place words has inside further =
      let few : length w.code < 2 ^ 18 = w.few_words in
      Leads-jal (promise w) (place + words) limit x m goal holds enough 0 place (has.0 ∙ ap (λ k. Some (Jal 0 k)) (jump_back-between place words (omega arith))) (omega arith) (omega arith) (omega arith)
      (λ left counted. further left _ counted)

-- ---- where parts come to

pub then_do-Goes : (o : Outcome) → then_do o Goes ≡ o
then_do-Goes (Goes value now) = refl
then_do-Goes (Returned value now) = refl
then_do-Goes (Ended end now) = refl

module _ (w : World) (b : Body) where
  -- At a place, with nothing more to do.
  pub Leads-arrived : (place top after limit : ℕ) (now : Now) (x : Registers) (m : Pages) → Roles b top now x → Stands w b now m → worth w now.units + after ≤ limit
      → (value : ℕ) → Leads (promise w) limit (at_place place x m) (Reaches w b tells_nothing place top after m now.units (Goes value now))
  Leads-arrived place top after limit now x m roles stands enough value = Leads-stay (promise w) limit (at_place place x m) _ (record {
    place_is = refl;
    roles = roles;
    stands = stands;
    tells = tt;
    kept = Kept-none b top m;
    units = omega arith;
    steps = enough;
  })

  -- A part, and a jump over what stands behind it.
  pub Leads-over : (depth : ℕ) (block : List Instr) (f : Now → Outcome) (words place top limit after : ℕ) (now : Now) (x : Registers) (m : Pages) → Runs w b any tells_nothing depth block f
      → HasBlock w.code place block → HasBlock w.code (place + length block) (jump_on words ∷ []) → place + length block + words ≤ length w.code → Room b top depth → Roles b top now x → Stands w b now m → length block + worth w now.units + (1 + after) ≤ limit
      → Leads (promise w) limit (at_place place x m) (Reaches w b tells_nothing (place + length block + words) top after m now.units (f now))
  Leads-over depth block f words place top limit after now x m runs has then_jump inside room roles stands enough =
      let end : ℕ = place + length block + words in
      subst (λ o. Leads (promise w) limit (at_place place x m) (Reaches w b tells_nothing end top after m now.units o)) (then_do-Goes (f now))
      (Leads-next w b tells_nothing tells_nothing (place + length block) end top top (1 + after) after limit m now.units (at_place place x m) (f now) Goes (omega (arith, room.behind)) (omega arith) (omega arith)
      (runs place top limit (1 + after) now x m has tt room roles stands enough)
      (λ value then left y n tells roles' stands' kept less steps.
      Leads-jump_on w left y n _ stands'.holds (omega (arith, steps)) (place + length block) words then_jump inside
      (λ rest v counted. Leads-arrived end top after rest then (write y 0 v) n (Roles-kept b top then y (write y 0 v) roles' (refl, refl, refl, refl, refl)) stands' (omega (arith, steps, counted)) value)))

  -- the first where x10 is not 0, else the second
  pub choice-runs : (depth value : ℕ) (first second : List Instr) (f g : Now → Outcome) → Runs w b any tells_nothing depth first f → Runs w b any tells_nothing depth second g
      → Runs w b (holds_value value) tells_nothing depth (skip_if Bne Value Zero 2 ∷ jump_on (length first + 2) ∷ (first ++ jump_on (length second + 1) ∷ second)) (choose value f g)
  choice-runs depth zero first second f g one other place top limit after now x m has given room roles stands enough =
      let block : List Instr = skip_if Bne Value Zero 2 ∷ jump_on (length first + 2) ∷ (first ++ jump_on (length second + 1) ∷ second) in
      let parts = HasBlock-parts w.code (place + 1 + 1) first (jump_on (length second + 1) ∷ second) has.1.1 in
      let lengths : length block ≡ length first + length second + 3 = omega (arith, length-append first (jump_on (length second + 1) ∷ second)) in
      let inside : place + length block ≤ length w.code = HasBlock-inside w.code place block has (omega arith) in
      let goal : ℕ → Configuration → Type 0 = Reaches w b tells_nothing (place + length block) top after m now.units (g now) in
      let start : place + 1 + 1 + length first + 1 ≡ place + 1 + (length first + 2) = omega arith in
      let end : place + 1 + (length first + 2) + length second ≡ place + length block = omega (arith, lengths) in
      Leads-passed (promise w) place limit x m goal stands.holds (omega (arith, enough)) Bne 10 0 2 has.0 (omega arith) (omega (arith, lengths, inside)) (is_taken-none (x 10) given)
      (λ left counted. Leads-jump_on w left x m goal stands.holds (omega (arith, enough, counted, lengths)) (place + 1) (length first + 2) (has.1.0, tt) (omega (arith, inside, lengths))
      (λ rest v less. subst (λ q. Leads (promise w) rest (at_place (place + 1 + (length first + 2)) (write x 0 v) m) (Reaches w b tells_nothing q top after m now.units (g now))) end
      (other (place + 1 + (length first + 2)) top rest after now (write x 0 v) m (subst (λ q. HasBlock w.code q second) start parts.1.1) tt room
      (Roles-kept b top now x (write x 0 v) roles (refl, refl, refl, refl, refl)) stands (omega (arith, enough, counted, less, lengths)))))
  choice-runs depth (suc value) first second f g one other place top limit after now x m has given room roles stands enough =
      let block : List Instr = skip_if Bne Value Zero 2 ∷ jump_on (length first + 2) ∷ (first ++ jump_on (length second + 1) ∷ second) in
      let there : place + 1 + 1 ≡ place + 2 = omega arith in
      let rest : List Instr = first ++ jump_on (length second + 1) ∷ second in
      let parts = HasBlock-parts w.code (place + 2) first (jump_on (length second + 1) ∷ second) (subst (λ q. HasBlock w.code q rest) there has.1.1) in
      let lengths : length block ≡ length first + length second + 3 = omega (arith, length-append first (jump_on (length second + 1) ∷ second)) in
      let inside : place + length block ≤ length w.code = HasBlock-inside w.code place block has (omega arith) in
      let end : place + 2 + length first + (length second + 1) ≡ place + length block = omega (arith, lengths) in
      Leads-taken (promise w) place limit x m (Reaches w b tells_nothing (place + length block) top after m now.units (f now)) stands.holds (omega (arith, enough)) Bne 10 0 2 has.0 (omega arith) (omega (arith, lengths, inside)) (is_taken-some (x 10) value given)
      (λ left counted. subst (λ q. Leads (promise w) left (at_place (place + 2) x m) (Reaches w b tells_nothing q top after m now.units (f now))) end
      (Leads-over depth first f (length second + 1) (place + 2) top left after now x m one parts.0 (parts.1.0, tt) (omega (arith, inside, lengths)) room roles stands (omega (arith, enough, counted, lengths))))
