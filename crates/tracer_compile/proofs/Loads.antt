-- Loads of the program's memory. An address beyond it is a fault, and below its end the load itself
-- traps where a byte is not mapped.
use Rattle.std.specs.Prelude.{Option, is_some, nat_lt, slice_get, ◌⊎◌}
use Rattle.std.specs.FinMap.{get}
use Rattle.std.proofs.Common.{◌≡◌, ℕ, ◌+◌, ◌/◌, ◌%◌, ◌^◌, ◌<◌, ◌≤◌, inl, inr, ⊎_elim, true, false, List, ◌++◌, [], ◌∷◌, length, Some, None, refl, ap, ◌∙◌, sym, subst, arith}
use Rattle.std.proofs.lemmas.Bool.{cases_lt}
use Rattle.std.proofs.lemmas.Bool.Decides.{nat_tests}
use Rattle.sl_model.specs.declared.bank.TheConstants.{CODE_START}
use Rattle.sl_model.specs.declared.instr.BranchOp.TheVariants.{Bltu}
use Rattle.sl_model.specs.declared.instr.Instr.{Instr}
use Rattle.sl_model.specs.declared.instr.Instr.TheVariants.{Load, Ecall}
use Rattle.sl_model.specs.declared.instr.LoadOp.{LoadOp}
use Rattle.sl_model.specs.declared.instr.LoadOp.TheVariants.{Lb, Lh, Lw, Lbu, Lhu}
use Rattle.sl_model.specs.declared.layout.TheConstants.{MEMORY_END, PROGRAM_PAGES}
use Rattle.sl_model.specs.Arithmetic.{word_add, load_width, load_value}
use Rattle.sl_model.specs.Pages.{Pages, load_at}
use Rattle.sl_model.specs.State.{State, register}
use Rattle.sl_model.specs.Step.{address as step_address}
use Rattle.sl_model.proofs.PagesLaws.{load_at-none}
use Rattle.tracer_lang.specs.declared.record.TracerEnd.{TracerEnd}
use Rattle.tracer_lang.specs.declared.record.TracerEnd.TheVariants.{LoadFault}
use Rattle.tracer_lang.specs.Meaning.{Now, Outcome, Ended, loaded, load_meaning}
use Rattle.tracer_code.specs.declared.outcomes.TheConstants.{LOAD_FAULT, STORE_FAULT}
use Rattle.tracer_code.specs.Outcomes.{end_number, end_value}
use Rattle.tracer_code.specs.Runs.{access_by, next_access, TellsFault}
use Rattle.word_blocks.specs.Code.{CodeStands, HasBlock}
use Rattle.word_blocks.specs.Configuration.{Registers, Configuration, at_place, IsAt}
use Rattle.word_blocks.specs.Ways.{Leads}
use Rattle.word_blocks.proofs.Blocks.{Leads-block}
use Rattle.word_blocks.proofs.Bytes.{SameBytes-part, load_at-same}
use Rattle.word_blocks.proofs.CodeLaws.{HasBlock-parts, HasBlock-get}
use Rattle.word_blocks.proofs.Ends.{step-load_fault}
use Rattle.word_blocks.proofs.Jumps.{Leads-taken, Leads-passed}
use Rattle.word_blocks.proofs.Ways.{Leads-stay}
use Rattle.tracer_compile.specs.declared.roles.Role.TheVariants.{Zero, Value, Detail, First}
use Rattle.tracer_compile.specs.Blocks.{add_number, high_number, load_at_role, guard_block, load_block}
use Rattle.tracer_compile.proofs.Relation.{World, Holds, promise, code_stands, Body, Roles, Matches, Reaches, Ends, holds_value, Runs}
use Rattle.tracer_compile.proofs.Standing.{Kept-none}
use Rattle.tracer_compile.proofs.Running.{Roles-kept, Leads-known, Leads-straight, HasBlock-inside}
use Rattle.tracer_compile.proofs.Values.{number_added}
use Rattle.tracer_compile.proofs.Ends.{Ends-called}

-- ---- the program's memory

pub load_width-some : (op : LoadOp) → (0 < load_width op) × (load_width op ≤ 4)
load_width-some Lb = (omega arith, omega arith)
load_width-some Lh = (omega arith, omega arith)
load_width-some Lw = (omega arith, omega arith)
load_width-some Lbu = (omega arith, omega arith)
load_width-some Lhu = (omega arith, omega arith)

-- beyond the program's memory nothing is mapped
pub load_at-beyond : (now : Now) (m : Pages) (at width : ℕ) → Matches now m → MEMORY_END ≤ at → 0 < width → load_at now.pages at width ≡ None
load_at-beyond now m at width matches beyond some = load_at-none now.pages at width (none (get now.pages (at / 4096)) refl) some
  where
    none : (o : Option (List ℕ)) → get now.pages (at / 4096) ≡ o → get now.pages (at / 4096) ≡ None
    none None found = found
    none (Some page) found =
        let below : at / 4096 < PROGRAM_PAGES = matches.below (at / 4096) (ap is_some found) in
        absurd (omega arith)

-- below its end a load gives what it gives on the copy
pub load_at-program : (now : Now) (m : Pages) (at width : ℕ) → Matches now m → at < MEMORY_END → width ≤ 4 → load_at m at width ≡ load_at now.pages at width
load_at-program now m at width matches below few =
    load_at-same m now.pages at width (SameBytes-part 0 (MEMORY_END + 4) at width m now.pages matches.program (omega arith) (omega arith))

-- ---- ends by a trap

-- the access that comes next is that of the instruction at the place
pub next_access-at : (start : ℕ) (code : List Instr) (instr : Instr) (c : Configuration) (s : State) → CodeStands start code c.pages → slice_get code c.place ≡ Some instr → IsAt start c s
    → next_access s ≡ access_by s (Some instr)
unfolding next_access
next_access-at start code instr c s stands here is =
    let found = stands.words c.place instr here in
    let aligned : s.pc % 4 ≡ 0 = omega (arith, is.place, stands.aligned) in
    let fetched : load_at s.pages s.pc 4 ≡ Some found.0 = rw (is.pages, is.place) found.1 in
    rw (aligned, fetched, found.2) refl

-- x10 and x11 tell a fault, and the load at the address in x11 traps
pub Ends-trapped : (w : World) (end : TracerEnd) (now : Now) (op : LoadOp) (rd place : ℕ) (x : Registers) (m : Pages) → slice_get w.code place ≡ Some (Load op rd 11 0) → Holds w m → Matches now m
    → (end_number end ≡ LOAD_FAULT) ⊎ (end_number end ≡ STORE_FAULT) → x 10 ≡ end_number end → x 11 ≡ end_value end → end_value end < MEMORY_END → load_at m (end_value end) (load_width op) ≡ None
    → Ends w end now (at_place place x m)
Ends-trapped w end now op rd place x m here holds matches fault number value below none =
    let at : word_add (x 11) 0 ≡ end_value end = omega (arith, value, below) in
    record {
      number_told = number;
      value_told = value;
      words = matches.words;
      stores = matches.stores;
      holds = holds;
      ends = λ t is.
          let stands : CodeStands CODE_START w.code m = code_stands w m holds in
          let number_here : register t 10 ≡ end_number end = is.registers 10 ∙ number in
          let value_here : register t 11 ≡ end_value end = is.registers 11 ∙ value in
          let there : step_address t 11 0 ≡ register t 11 = omega (arith, value_here, below) in
          let tells : TellsFault t = record {
            number = ⊎_elim (λ (is_load : end_number end ≡ LOAD_FAULT). inl (number_here ∙ is_load)) (λ (is_store : end_number end ≡ STORE_FAULT). inr (number_here ∙ is_store)) fault;
            address = next_access-at CODE_START w.code (Load op rd 11 0) (at_place place x m) t stands here is ∙ ap Some there;
            of_program = omega (arith, value_here, below);
          } in
          rw (step-load_fault CODE_START w.code (at_place place x m) t stands is op rd 11 0 here (ap (λ a. load_at m a (load_width op)) at ∙ none)) (refl, tells);
    }

-- ---- the guard

pub less : (a b : ℕ) → a < b → nat_lt a b ≡ true
less a b is = grind (arith, nat_tests)

pub not_less : (a b : ℕ) → b ≤ a → nat_lt a b ≡ false
not_less a b is = grind (arith, nat_tests)

module _ (w : World) (b : Body) where
  -- The end with a fault where the address is beyond the program's memory, and else the next words
  -- with the fault told.
  pub Leads-guard : (end : TracerEnd) (fault place limit after : ℕ) (told : ℕ → Registers → Type 0) (end_place top high : ℕ) (now : Now) (x : Registers) (m before : Pages) (most : ℕ) (outcome : Outcome)
      → fault ≡ end_number end → fault < 2 ^ 11 → x 11 ≡ end_value end → HasBlock w.code place (guard_block fault) → Roles b high now x → Holds w m → Matches now m → 4 ≤ limit
      → (MEMORY_END ≤ end_value end → outcome ≡ Ended end now)
      → (end_value end < MEMORY_END → (left : ℕ) (y : Registers) → left + 3 ≡ limit → Roles b high now y → y 10 ≡ fault → y 11 ≡ x 11 → y 6 ≡ x 6
      → Leads (promise w) left (at_place (place + 4) y m) (Reaches w b told end_place top after before most outcome))
      → Leads (promise w) limit (at_place place x m) (Reaches w b told end_place top after before most outcome)
  unfolding guard_block
  Leads-guard end fault place limit after told end_place top high now x m before most outcome is small value has roles holds matches enough beyond further =
      Leads-block (promise w) (add_number Value Zero fault ∷ high_number First MEMORY_END ∷ []) place limit x m
      (λ y n. (n ≡ m) × Roles b high now y × (y 10 ≡ fault) × (y 11 ≡ x 11) × (y 6 ≡ x 6) × (y 5 ≡ MEMORY_END)) _ holds (has.0, (has.1.0, tt)) (omega (arith, enough))
      (refl, Roles-kept b high now x _ roles (refl, refl, refl, refl, refl), number_added fault small, refl, refl, refl)
      (λ left y n counted holds' reached. rw reached.0 (of left y counted reached.1 reached.2 reached.3 reached.4 reached.5 (cases_lt (end_value end) MEMORY_END)))
    where
      goal : ℕ → Configuration → Type 0
      goal = Reaches w b told end_place top after before most outcome

      of : (left : ℕ) (y : Registers) → left + 2 ≡ limit → Roles b high now y → y 10 ≡ fault → y 11 ≡ x 11 → y 6 ≡ x 6 → y 5 ≡ MEMORY_END → (end_value end < MEMORY_END) ⊎ (MEMORY_END ≤ end_value end)
          → Leads (promise w) left (at_place (place + 2) y m) goal
      of left y counted roles' number same kept bound (inl below) =
          let inside : place + 4 ≤ length w.code = HasBlock-inside w.code place (guard_block fault) has (omega arith) in
          let there : place + 2 + 2 ≡ place + 4 = omega arith in
          let taken : nat_lt (y 11) (y 5) ≡ true = less (y 11) (y 5) (omega (arith, same, value, bound, below)) in
          Leads-taken (promise w) (place + 2) left y m goal holds (omega (arith, enough, counted)) Bltu 11 5 2 (HasBlock-get w.code place (guard_block fault) 2 _ has refl) (omega arith) (omega (arith, inside)) taken
          (λ rest one. subst (λ q. Leads (promise w) rest (at_place q y m) goal) (sym there) (further below rest y (omega (arith, one, counted)) roles' number same kept))
      of left y counted roles' number same kept bound (inr above) =
          let inside : place + 4 ≤ length w.code = HasBlock-inside w.code place (guard_block fault) has (omega arith) in
          let there : place + 3 ≡ place + 2 + 1 = omega arith in
          let passed : nat_lt (y 11) (y 5) ≡ false = not_less (y 11) (y 5) (omega (arith, same, value, bound, above)) in
          let call : slice_get w.code (place + 2 + 1) ≡ Some Ecall = subst (λ q. slice_get w.code q ≡ Some Ecall) there (HasBlock-get w.code place (guard_block fault) 3 Ecall has refl) in
          Leads-passed (promise w) (place + 2) left y m goal holds (omega (arith, enough, counted)) Bltu 11 5 2 (HasBlock-get w.code place (guard_block fault) 2 _ has refl) (omega arith) (omega (arith, inside)) passed
          (λ rest one. Leads-stay (promise w) rest (at_place (place + 2 + 1) y m) goal
          (subst (λ o. Reaches w b told end_place top after before most o rest (at_place (place + 2 + 1) y m)) (sym (beyond above))
          (Ends-called w b end now (place + 2 + 1) y m (call, tt) holds matches (number ∙ is) (same ∙ value))))

  -- the value at an address
  pub load-runs : (depth : ℕ) (op : LoadOp) (at : ℕ) → Runs w b (holds_value at) holds_value depth (load_block op) (load_meaning op at)
  unfolding load_block guard_block
  load-runs depth op at place top limit after now x m has given room roles stands enough =
      Leads-known w limit (at_place place x m) _ (λ small are.
      let copied : word_add (x 10) 0 ≡ at = omega (arith, given, small 10) in
      Leads-block (promise w) (add_number Detail Value 0 ∷ []) place limit x m (λ y n. (n ≡ m) × Roles b top now y × (y 11 ≡ at)) goal stands.holds (has.0, tt) (omega (arith, enough))
      (refl, Roles-kept b top now x _ roles (refl, refl, refl, refl, refl), copied)
      (λ left y n counted holds reached. rw reached.0 (guarded left y counted reached.1 reached.2)))
    where
      goal : ℕ → Configuration → Type 0
      goal = Reaches w b holds_value (place + 6) top after m now.units (load_meaning op at now)

      width : ℕ
      width = load_width op

      here : slice_get w.code (place + 1 + 4) ≡ Some (Load op 10 11 0)
      here = HasBlock-get w.code (place + 1) (guard_block LOAD_FAULT ++ load_at_role op Value Detail ∷ []) 4 (Load op 10 11 0) has.1 refl

      fetched : (o : Option ℕ) → load_at now.pages at width ≡ o → at < MEMORY_END → (left : ℕ) (y : Registers) → left + 4 ≡ limit → Roles b top now y → y 10 ≡ LOAD_FAULT → y 11 ≡ at
          → Leads (promise w) left (at_place (place + 1 + 4) y m) (Reaches w b holds_value (place + 6) top after m now.units (loaded op at now o))
      fetched None found below left y counted roles' number value =
          Leads-stay (promise w) left (at_place (place + 1 + 4) y m) _
          (Ends-trapped w (LoadFault at) now op 10 (place + 1 + 4) y m here stands.holds stands.matches (inl refl) number value below (load_at-program now m at width stands.matches below (load_width-some op).1 ∙ found))
      fetched (Some n) found below left y counted roles' number value =
          let added : word_add (y 11) 0 ≡ at = omega (arith, value, below) in
          Leads-straight w b holds_value (load_at_role op Value Detail ∷ []) (place + 1 + 4) (place + 6) top after (load_value op n) left y m m now.units now (omega arith) stands.holds (here, tt) (omega arith) (omega (arith, enough, counted)) (
            at,
            added,
            n,
            load_at-program now m at width stands.matches below (load_width-some op).1 ∙ found,
            (Roles-kept b top now y _ roles' (refl, refl, refl, refl, refl), stands, refl, Kept-none b top m),
          )

      guarded : (left : ℕ) (y : Registers) → left + 1 ≡ limit → Roles b top now y → y 11 ≡ at → Leads (promise w) left (at_place (place + 1) y m) goal
      guarded left y counted roles' value =
          Leads-guard (LoadFault at) LOAD_FAULT (place + 1) left after holds_value (place + 6) top top now y m m now.units (load_meaning op at now) refl (omega arith) value (HasBlock-parts w.code (place + 1) (guard_block LOAD_FAULT) (load_at_role op Value Detail ∷ []) has.1).0 roles' stands.holds stands.matches (omega (arith, enough, counted))
          (λ beyond. ap (loaded op at now) (load_at-beyond now m at width stands.matches beyond (load_width-some op).0))
          (λ below rest z less roles'' number same kept. fetched (load_at now.pages at width) refl below rest z (omega (arith, less, counted)) roles'' number (same ∙ value))
