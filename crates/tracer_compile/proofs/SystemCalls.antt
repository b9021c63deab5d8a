-- The break of a tracer's own, and system calls that are barred.
use Rattle.std.specs.Prelude.{Bool, nat_lt, nat_le, ◌==◌, not, slice_get, slice_index_or, ◌⊎◌}
use Rattle.std.proofs.Common.{◌≡◌, ℕ, ◌+◌, ◌-◌, ◌*◌, ◌<◌, ◌≤◌, inl, inr, true, false, ◌++◌, [], ◌∷◌, length, Some, refl, ap, ◌∙◌, sym, subst, arith}
use Rattle.std.proofs.lemmas.Bool.{cases_lt, eqb-true}
use Rattle.std.proofs.lemmas.Bool.Decides.{nat_tests}
use Rattle.std.proofs.lemmas.List.{get_or-append_right}
use Rattle.sl_model.specs.declared.bank.TheConstants.{FRAMES_START}
use Rattle.sl_model.specs.declared.instr.BranchOp.TheVariants.{Beq, Bltu, Bgeu}
use Rattle.sl_model.specs.Arithmetic.{word_add}
use Rattle.sl_model.specs.Bank.{copied_words}
use Rattle.sl_model.specs.Pages.{Pages, load_at}
use Rattle.sl_model.specs.State.{State}
use Rattle.tracer_lang.specs.declared.record.TracerEnd.TheVariants.{Barred}
use Rattle.tracer_lang.specs.Meaning.{Now, Outcome, Goes, Ended, break_meaning, system_call_meaning, without_memory}
use Rattle.tracer_code.specs.declared.outcomes.TheConstants.{BARRED}
use Rattle.word_blocks.specs.Code.{HasBlock}
use Rattle.word_blocks.specs.Configuration.{Registers, Configuration, at_place}
use Rattle.word_blocks.specs.Ways.{Leads}
use Rattle.word_blocks.proofs.Blocks.{Leads-block}
use Rattle.word_blocks.proofs.CodeLaws.{HasBlock-parts, HasBlock-get}
use Rattle.word_blocks.proofs.Jumps.{Leads-taken, Leads-passed}
use Rattle.tracer_compile.specs.declared.roles.Role.TheVariants.{Zero, First, Second, Third, Fourth, Value, Break}
use Rattle.tracer_compile.specs.Blocks.{add_number, high_number, load_word, end_with, break_call, barred_block, break_block}
use Rattle.tracer_compile.proofs.Relation.{World, promise, Body, Roles, Stands, Reaches, holds_value, Runs}
use Rattle.tracer_compile.proofs.Standing.{Kept-none}
use Rattle.tracer_compile.proofs.Running.{Roles-kept, Leads-known, Leads-straight, HasBlock-inside}
use Rattle.tracer_compile.proofs.Ends.{Leads-end_with}
use Rattle.tracer_compile.proofs.Loads.{less, not_less}

-- ---- what the break's meaning comes to

at_most : (a b : ℕ) → a ≤ b → nat_le a b ≡ true
at_most a b is = grind (arith, nat_tests)

not_at_most : (a b : ℕ) → b < a → nat_le a b ≡ false
not_at_most a b is = grind (arith, nat_tests)

-- below the heap, and beyond its limit, the break stays
break-low : (s : State) (address : ℕ) (now : Now) → address < s.layout.brk_start → break_meaning s address now ≡ Goes now.brk now
break-low s address now low = rw (not_at_most s.layout.brk_start address low) refl

break-high : (s : State) (address : ℕ) (now : Now) → s.layout.brk_start ≤ address → s.layout.heap_limit < address → break_meaning s address now ≡ Goes now.brk now
break-high s address now from high = rw (at_most s.layout.brk_start address from, not_at_most address s.layout.heap_limit high) refl

-- between them it is moved, but not beyond the mapped end
break-moved : (s : State) (address : ℕ) (now : Now) → s.layout.brk_start ≤ address → address ≤ s.layout.heap_limit → address ≤ s.brk_end → break_meaning s address now ≡ Goes address (record now { brk = address })
break-moved s address now from to mapped = rw (at_most s.layout.brk_start address from, at_most address s.layout.heap_limit to, not_less s.brk_end address mapped) refl

break-barred : (s : State) (address : ℕ) (now : Now) → s.layout.brk_start ≤ address → address ≤ s.layout.heap_limit → s.brk_end < address → break_meaning s address now ≡ Ended (Barred 214) now
break-barred s address now from to past = rw (at_most s.layout.brk_start address from, at_most address s.layout.heap_limit to, less s.brk_end address past) refl

-- the bounds of the heap and the break, among the copied words
pub bound_copied : (w : World) (index : ℕ) → 32 ≤ index → slice_index_or (copied_words w.s) index 0 ≡ slice_index_or (w.s.pc ∷ w.s.layout.brk_start ∷ w.s.layout.heap_limit ∷ w.s.brk ∷ w.s.brk_end ∷ []) (index - 32) 0
bound_copied w index from =
    let count : length w.s.x ≡ 32 = w.observed.state.registers in
    get_or-append_right w.s.x (w.s.pc ∷ w.s.layout.brk_start ∷ w.s.layout.heap_limit ∷ w.s.brk ∷ w.s.brk_end ∷ []) 32 index 0 count from

module _ (w : World) (b : Body) where
  -- memory knows nothing of the break
  Stands-break : (now : Now) (brk : ℕ) (m : Pages) → Stands w b now m → Stands w b (record now { brk = brk }) m
  Stands-break now brk m stands = record {
    holds = stands.holds;
    body = stands.body;
    matches = record {
      words = stands.matches.words;
      stores = stands.matches.stores;
      program = stands.matches.program;
      are = stands.matches.are;
      below = stands.matches.below;
    };
    count = stands.count;
    locals = stands.locals;
    place = stands.place;
    caller = stands.caller;
  }

  -- the break call, and the end for all others
  pub system_call-runs : (depth c v : ℕ) → Runs w b (λ x. (x 11 ≡ c) × (x 10 ≡ v)) holds_value depth (barred_block ++ break_block) (system_call_meaning (without_memory w.s) c v)
  unfolding barred_block break_block end_with
  system_call-runs depth c v place top limit after now x m has given room roles stands enough =
      Leads-block (promise w) (add_number First Zero break_call ∷ []) place limit x m (λ y n. (n ≡ m) × Roles b top now y × (y 5 ≡ 214) × (y 11 ≡ c) × (y 10 ≡ v)) (goal (system_call_meaning (without_memory w.s) c v now)) stands.holds (has.0, tt) (omega (arith, enough))
      (refl, Roles-kept b top now x _ roles (refl, refl, refl, refl, refl), refl, given.0, given.1)
      (λ left y n counted holds reached. rw reached.0 (called (c == 214) refl left y counted reached.1 reached.2 reached.3 reached.4))
    where
      s : State
      s = without_memory w.s

      goal : Outcome → ℕ → Configuration → Type 0
      goal outcome = Reaches w b holds_value (place + 15) top after m now.units outcome

      inside : place + 15 ≤ length w.code
      inside = HasBlock-inside w.code place (barred_block ++ break_block) has (omega arith)

      -- what stands in the copied words
      copy : (index : ℕ) → 32 ≤ index → index < 37 → load_at m (FRAMES_START + 4 * index) 4 ≡ Some (slice_index_or (w.s.pc ∷ w.s.layout.brk_start ∷ w.s.layout.heap_limit ∷ w.s.brk ∷ w.s.brk_end ∷ []) (index - 32) 0)
      copy index from below = stands.holds.copies index below ∙ ap Some (bound_copied w index from)

      -- the break stays
      stays : (left : ℕ) (y : Registers) → limit ≤ left + 14 → Roles b top now y → Leads (promise w) left (at_place (place + 14) y m) (goal (Goes now.brk now))
      stays left y counted roles' =
          Leads-known w left (at_place (place + 14) y m) (goal (Goes now.brk now)) (λ small are.
          let value : word_add (y 19) 0 ≡ now.brk = omega (arith, roles'.break_is, small 19) in
          Leads-straight w b holds_value (add_number Value Break 0 ∷ []) (place + 14) (place + 15) top after now.brk left y m m now.units now (omega arith) stands.holds (HasBlock-get w.code place (barred_block ++ break_block) 14 _ has refl, tt) (omega arith) (omega (arith, enough, counted))
          (Roles-kept b top now y _ roles' (refl, refl, refl, refl, refl), stands, value, Kept-none b top m))

      -- the break is moved
      moved : (left : ℕ) (y : Registers) → left + 9 ≡ limit → Roles b top now y → y 10 ≡ v → Leads (promise w) left (at_place (place + 13) y m) (goal (Goes v (record now { brk = v })))
      moved left y counted roles' value =
          Leads-known w left (at_place (place + 13) y m) (goal (Goes v (record now { brk = v }))) (λ small are.
          let copied : word_add (y 10) 0 ≡ v = omega (arith, value, small 10) in
          let again : word_add (word_add (y 10) 0) 0 ≡ v = omega (arith, value, small 10) in
          let there : place + 14 ≡ place + 13 + 1 = omega arith in
          let next : Now = record now { brk = v } in
          Leads-straight w b holds_value (add_number Break Value 0 ∷ add_number Value Break 0 ∷ []) (place + 13) (place + 15) top after v left y m m now.units next (omega arith) stands.holds
          (HasBlock-get w.code place (barred_block ++ break_block) 13 _ has refl, (ap (slice_get w.code) (sym there) ∙ HasBlock-get w.code place (barred_block ++ break_block) 14 _ has refl, tt)) (omega arith) (omega (arith, enough, counted))
          (record { top_is = roles'.top_is; frame_is = roles'.frame_is; units_is = roles'.units_is; calls_is = roles'.calls_is; break_is = copied }, Stands-break now v m stands, again, Kept-none b top m))

      -- within the heap's range
      within : (left : ℕ) (y : Registers) → left + 8 ≡ limit → Roles b top now y → y 28 ≡ s.brk_end → y 10 ≡ v → y 11 ≡ 214 → s.layout.brk_start ≤ v → v ≤ s.layout.heap_limit → (s.brk_end < v) ⊎ (v ≤ s.brk_end) → Leads (promise w) left (at_place (place + 10) y m) (goal (break_meaning s v now))
      within left y counted roles' mapped value number from to (inl past) =
          let passed : not (nat_lt (y 28) (y 10)) ≡ false = ap not (less (y 28) (y 10) (omega (arith, mapped, value, past))) in
          let there : place + 10 + 1 ≡ place + 11 = omega arith in
          let twelfth : place + 11 + 1 ≡ place + 12 = omega arith in
          let call : HasBlock w.code (place + 11) (end_with BARRED) = (HasBlock-get w.code place (barred_block ++ break_block) 11 _ has refl, (ap (slice_get w.code) twelfth ∙ HasBlock-get w.code place (barred_block ++ break_block) 12 _ has refl, tt)) in
          subst (λ o. Leads (promise w) left (at_place (place + 10) y m) (goal o)) (sym (break-barred s v now from to past))
          (Leads-passed (promise w) (place + 10) left y m (goal (Ended (Barred 214) now)) stands.holds (omega (arith, enough, counted)) Bgeu 28 10 3 (HasBlock-get w.code place (barred_block ++ break_block) 10 _ has refl) (omega arith) (omega (arith, inside)) passed
          (λ rest one. subst (λ q. Leads (promise w) rest (at_place q y m) (goal (Ended (Barred 214) now))) (sym there)
          (Leads-end_with w b (Barred 214) BARRED (place + 11) rest after holds_value (place + 15) top now y m m now.units refl call stands.holds stands.matches number (omega (arith, enough, counted, one)))))
      within left y counted roles' mapped value number from to (inr fits) =
          let taken : not (nat_lt (y 28) (y 10)) ≡ true = ap not (not_less (y 28) (y 10) (omega (arith, mapped, value, fits))) in
          let there : place + 10 + 3 ≡ place + 13 = omega arith in
          subst (λ o. Leads (promise w) left (at_place (place + 10) y m) (goal o)) (sym (break-moved s v now from to fits))
          (Leads-taken (promise w) (place + 10) left y m (goal (Goes v (record now { brk = v }))) stands.holds (omega (arith, enough, counted)) Bgeu 28 10 3 (HasBlock-get w.code place (barred_block ++ break_block) 10 _ has refl) (omega arith) (omega (arith, inside)) taken
          (λ rest one. subst (λ q. Leads (promise w) rest (at_place q y m) (goal (Goes v (record now { brk = v })))) (sym there) (moved rest y (omega (arith, counted, one)) roles' value)))

      limited : (left : ℕ) (y : Registers) → left + 7 ≡ limit → Roles b top now y → y 7 ≡ s.layout.heap_limit → y 28 ≡ s.brk_end → y 10 ≡ v → y 11 ≡ 214 → s.layout.brk_start ≤ v → (s.layout.heap_limit < v) ⊎ (v ≤ s.layout.heap_limit) → Leads (promise w) left (at_place (place + 9) y m) (goal (break_meaning s v now))
      limited left y counted roles' high mapped value number from (inl past) =
          let taken : nat_lt (y 7) (y 10) ≡ true = less (y 7) (y 10) (omega (arith, high, value, past)) in
          let there : place + 9 + 5 ≡ place + 14 = omega arith in
          subst (λ o. Leads (promise w) left (at_place (place + 9) y m) (goal o)) (sym (break-high s v now from past))
          (Leads-taken (promise w) (place + 9) left y m (goal (Goes now.brk now)) stands.holds (omega (arith, enough, counted)) Bltu 7 10 5 (HasBlock-get w.code place (barred_block ++ break_block) 9 _ has refl) (omega arith) (omega (arith, inside)) taken
          (λ rest one. subst (λ q. Leads (promise w) rest (at_place q y m) (goal (Goes now.brk now))) (sym there) (stays rest y (omega (arith, counted, one)) roles')))
      limited left y counted roles' high mapped value number from (inr fits) =
          let passed : nat_lt (y 7) (y 10) ≡ false = not_less (y 7) (y 10) (omega (arith, high, value, fits)) in
          let there : place + 9 + 1 ≡ place + 10 = omega arith in
          Leads-passed (promise w) (place + 9) left y m (goal (break_meaning s v now)) stands.holds (omega (arith, enough, counted)) Bltu 7 10 5 (HasBlock-get w.code place (barred_block ++ break_block) 9 _ has refl) (omega arith) (omega (arith, inside)) passed
          (λ rest one. subst (λ q. Leads (promise w) rest (at_place q y m) (goal (break_meaning s v now))) (sym there) (within rest y (omega (arith, counted, one)) roles' mapped value number from fits (cases_lt s.brk_end v)))

      started : (left : ℕ) (y : Registers) → left + 6 ≡ limit → Roles b top now y → y 6 ≡ s.layout.brk_start → y 7 ≡ s.layout.heap_limit → y 28 ≡ s.brk_end → y 10 ≡ v → y 11 ≡ 214 → (v < s.layout.brk_start) ⊎ (s.layout.brk_start ≤ v) → Leads (promise w) left (at_place (place + 8) y m) (goal (break_meaning s v now))
      started left y counted roles' start high mapped value number (inl below) =
          let taken : nat_lt (y 10) (y 6) ≡ true = less (y 10) (y 6) (omega (arith, start, value, below)) in
          let there : place + 8 + 6 ≡ place + 14 = omega arith in
          subst (λ o. Leads (promise w) left (at_place (place + 8) y m) (goal o)) (sym (break-low s v now below))
          (Leads-taken (promise w) (place + 8) left y m (goal (Goes now.brk now)) stands.holds (omega (arith, enough, counted)) Bltu 10 6 6 (HasBlock-get w.code place (barred_block ++ break_block) 8 _ has refl) (omega arith) (omega (arith, inside)) taken
          (λ rest one. subst (λ q. Leads (promise w) rest (at_place q y m) (goal (Goes now.brk now))) (sym there) (stays rest y (omega (arith, counted, one)) roles')))
      started left y counted roles' start high mapped value number (inr from) =
          let passed : nat_lt (y 10) (y 6) ≡ false = not_less (y 10) (y 6) (omega (arith, start, value, from)) in
          let there : place + 8 + 1 ≡ place + 9 = omega arith in
          Leads-passed (promise w) (place + 8) left y m (goal (break_meaning s v now)) stands.holds (omega (arith, enough, counted)) Bltu 10 6 6 (HasBlock-get w.code place (barred_block ++ break_block) 8 _ has refl) (omega arith) (omega (arith, inside)) passed
          (λ rest one. subst (λ q. Leads (promise w) rest (at_place q y m) (goal (break_meaning s v now))) (sym there) (limited rest y (omega (arith, counted, one)) roles' high mapped value number from (cases_lt s.layout.heap_limit v)))

      called : (t : Bool) → (c == 214) ≡ t → (left : ℕ) (y : Registers) → left + 1 ≡ limit → Roles b top now y → y 5 ≡ 214 → y 11 ≡ c → y 10 ≡ v → Leads (promise w) left (at_place (place + 1) y m) (goal (system_call_meaning (without_memory w.s) c v now))
      called true is left y counted roles' call number value =
          let same : c ≡ 214 = eqb-true c 214 is in
          let taken : (y 11 == y 5) ≡ true = rw (number, call) is in
          let there : place + 1 + 3 ≡ place + 4 = omega arith in
          let eighth : place + 4 + 4 ≡ place + 8 = omega arith in
          let has_break : HasBlock w.code (place + 4) break_block = (HasBlock-parts w.code place barred_block break_block has).1 in
          rw is (
          Leads-taken (promise w) (place + 1) left y m (goal (break_meaning s v now)) stands.holds (omega (arith, enough, counted)) Beq 11 5 3 (HasBlock-get w.code place (barred_block ++ break_block) 1 _ has refl) (omega arith) (omega (arith, inside)) taken
          (λ rest one. subst (λ q. Leads (promise w) rest (at_place q y m) (goal (break_meaning s v now))) (sym there)
          (Leads-block (promise w) (high_number First FRAMES_START ∷ load_word Second First 132 ∷ load_word Third First 136 ∷ load_word Fourth First 144 ∷ []) (place + 4) rest y m
          (λ z n. (n ≡ m) × Roles b top now z × (z 6 ≡ s.layout.brk_start) × (z 7 ≡ s.layout.heap_limit) × (z 28 ≡ s.brk_end) × (z 10 ≡ v) × (z 11 ≡ 214)) (goal (break_meaning s v now)) stands.holds (has_break.0, (has_break.1.0, (has_break.1.1.0, (has_break.1.1.1.0, tt)))) (omega (arith, enough, counted, one)) (
            FRAMES_START + 132,
            refl,
            s.layout.brk_start,
            copy 33 (omega arith) (omega arith),
            (
              FRAMES_START + 136,
              refl,
              s.layout.heap_limit,
              copy 34 (omega arith) (omega arith),
              (
                FRAMES_START + 144,
                refl,
                s.brk_end,
                copy 36 (omega arith) (omega arith),
                (refl, Roles-kept b top now y _ roles' (refl, refl, refl, refl, refl), refl, refl, refl, value, number ∙ same),
              ),
            ),
          )
          (λ less_left z n fewer holds reached. rw (reached.0, eighth) (started less_left z (omega (arith, counted, one, fewer)) reached.1 reached.2 reached.3 reached.4 reached.5 reached.6 (cases_lt v s.layout.brk_start))))))
      called false is left y counted roles' call number value =
          let passed : (y 11 == y 5) ≡ false = rw (number, call) is in
          let there : place + 1 + 1 ≡ place + 2 = omega arith in
          let third : place + 2 + 1 ≡ place + 3 = omega arith in
          let ends : HasBlock w.code (place + 2) (end_with BARRED) = (HasBlock-get w.code place (barred_block ++ break_block) 2 _ has refl, (ap (slice_get w.code) third ∙ HasBlock-get w.code place (barred_block ++ break_block) 3 _ has refl, tt)) in
          rw is (
          Leads-passed (promise w) (place + 1) left y m (goal (Ended (Barred c) now)) stands.holds (omega (arith, enough, counted)) Beq 11 5 3 (HasBlock-get w.code place (barred_block ++ break_block) 1 _ has refl) (omega arith) (omega (arith, inside)) passed
          (λ rest one. subst (λ q. Leads (promise w) rest (at_place q y m) (goal (Ended (Barred c) now))) (sym there)
          (Leads-end_with w b (Barred c) BARRED (place + 2) rest after holds_value (place + 15) top now y m m now.units refl ends stands.holds stands.matches number (omega (arith, enough, counted, one)))))
