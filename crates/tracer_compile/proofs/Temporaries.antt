-- A value that waits as a temporary while another part runs.
use Rattle.std.proofs.Common.{◌≡◌, ℕ, suc, ◌+◌, ◌*◌, ◌^◌, ◌<◌, ◌≤◌, inl, inr, List, ◌++◌, length, Some, refl, ap, ◌∙◌, sym, subst, arith, length-append}
use Rattle.sl_model.specs.declared.instr.Instr.{Instr}
use Rattle.sl_model.specs.Pages.{Pages, load_at}
use Rattle.sl_model.specs.Arithmetic.{word_add, immediate_word}
use Rattle.tracer_lang.specs.Meaning.{Now, Outcome, then_do}
use Rattle.word_blocks.specs.Code.{HasBlock}
use Rattle.word_blocks.specs.Configuration.{Registers, read, at_place}
use Rattle.word_blocks.specs.Ways.{Leads}
use Rattle.word_blocks.proofs.Blocks.{Does, Leads-block}
use Rattle.word_blocks.proofs.Bytes.{load_at-same, load_at-word}
use Rattle.word_blocks.proofs.CodeLaws.{HasBlock-parts}
use Rattle.word_blocks.proofs.Ways.{Leads-map}
use Rattle.tracer_compile.specs.declared.roles.Role.{Role}
use Rattle.tracer_compile.specs.declared.roles.Role.TheVariants.{First, Detail, Value}
use Rattle.tracer_compile.specs.Roles.{number_of}
use Rattle.tracer_compile.specs.Blocks.{push, pop}
use Rattle.tracer_compile.proofs.Relation.{World, promise, Body, body_size, Roles, Stands, Kept, Reaches, any, holds_value, Runs}
use Rattle.tracer_compile.proofs.Standing.{load_at-mapped, Stands-stored, Kept-stored}
use Rattle.tracer_compile.proofs.Running.{Leads-known, Reaches-since, Leads-next}
use Rattle.tracer_compile.proofs.Values.{offset_taken}

module _ (w : World) (b : Body) where
  -- What a push leads to: the value is the word before the new top.
  pub Leads-push : (rs : Role) (place top limit value : ℕ) (now : Now) (x : Registers) (m : Pages) (goal : _) → HasBlock w.code place (push rs) → read x (number_of rs) ≡ value → b.frame + 4 * b.locals + 8 ≤ top → top + 4 ≤ b.frame + body_size → Roles b top now x → Stands w b now m → 2 ≤ limit
      → ((y : Registers) (n : Pages) (left : ℕ) → left + 2 ≡ limit → Roles b (top + 4) now y → Stands w b now n → load_at n top 4 ≡ Some value → Kept b top m n → Leads (promise w) left (at_place (place + 2) y n) goal)
      → Leads (promise w) limit (at_place place x m) goal
  unfolding push
  Leads-push rs place top limit value now x m goal has held behind fits roles stands enough further =
      Leads-known w limit (at_place place x m) goal (λ small are.
      let body = stands.body in
      let at : word_add (x 2) (immediate_word 0) ≡ top = omega (arith, roles.top_is, fits, body.room) in
      Leads-block (promise w) (push rs) place limit x m
      (λ y n. Roles b (top + 4) now y × Stands w b now n × (load_at n top 4 ≡ Some value) × Kept b top m n) goal stands.holds has enough (
        top,
        at,
        inl (omega arith, omega arith),
        load_at-mapped m top 4 (λ a from before. stands.holds.frames a (omega arith) (omega arith)),
        λ n is are'.
            let stands' : Stands w b now n = Stands-stored w b now top (read x (number_of rs)) m n are are' is behind (omega arith) stands in
            let loaded : load_at n top 4 ≡ Some value = load_at-word top (read x (number_of rs)) m n is (small (number_of rs)) ∙ ap Some held in
            (stands'.holds, (record { top_is = omega (arith, roles.top_is, fits, body.room); frame_is = roles.frame_is; units_is = roles.units_is; calls_is = roles.calls_is; break_is = roles.break_is }, stands', loaded, Kept-stored b top top 4 (read x (number_of rs)) m n is (omega arith))),
      )
      (λ left y n counted holds reached. further y n left counted reached.0 reached.1 reached.2 reached.3))

  -- a pop of the word that stands before the top
  abbrev pub Pops : Role → Type 0
  Pops rd = (place top value : ℕ) (now : Now) (x : Registers) (m : Pages) → top + 4 < 2 ^ 32 → Roles b (top + 4) now x → load_at m top 4 ≡ Some value
      → Does (promise w) place (pop rd) x m (λ y n. Roles b top now y × (n ≡ m) × (y (number_of rd) ≡ value) × (y 10 ≡ x 10))

  pub pops-First : Pops First
  unfolding pop
  pops-First place top value now x m fits roles loaded = (
    top,
    offset_taken (x 2) top 4 roles.top_is (omega arith) (omega arith) fits,
    value,
    loaded,
    (record { top_is = offset_taken (x 2) top 4 roles.top_is (omega arith) (omega arith) fits; frame_is = roles.frame_is; units_is = roles.units_is; calls_is = roles.calls_is; break_is = roles.break_is }, refl, refl, refl),
  )

  pub pops-Detail : Pops Detail
  unfolding pop
  pops-Detail place top value now x m fits roles loaded = (
    top,
    offset_taken (x 2) top 4 roles.top_is (omega arith) (omega arith) fits,
    value,
    loaded,
    (record { top_is = offset_taken (x 2) top 4 roles.top_is (omega arith) (omega arith) fits; frame_is = roles.frame_is; units_is = roles.units_is; calls_is = roles.calls_is; break_is = roles.break_is }, refl, refl, refl),
  )

  -- A value waits while the second part runs, and comes back for what follows both.
  pub pushed-runs : (rd : Role) → Pops rd → (told : ℕ → Registers → Type 0) (depth value : ℕ) (second tail : List Instr) (f : Now → Outcome) (g : ℕ → Now → Outcome)
      → Runs w b any holds_value depth second f → ((v : ℕ) → Runs w b (λ x. (x (number_of rd) ≡ value) × (x 10 ≡ v)) told (suc depth) tail (g v))
      → Runs w b (holds_value value) told (suc depth) (push Value ++ (second ++ (pop rd ++ tail))) (λ now. then_do (f now) g)
  unfolding push pop
  pushed-runs rd pops told depth value second tail f g one other place top limit after now x m has held room roles stands enough =
      let parts = HasBlock-parts w.code place (push Value) (second ++ (pop rd ++ tail)) has in
      let later = HasBlock-parts w.code (place + 2) second (pop rd ++ tail) parts.1 in
      let last = HasBlock-parts w.code (place + 2 + length second) (pop rd) tail later.1 in
      let lengths : length (second ++ (pop rd ++ tail)) ≡ length second + (2 + length tail) = omega (arith, length-append second (pop rd ++ tail)) in
      let finish : place + 2 + length second + 2 + length tail ≡ place + length (push Value ++ (second ++ (pop rd ++ tail))) = omega (arith, lengths) in
      Leads-push Value place top limit value now x m _ parts.0 held room.behind (omega (arith, room.fits)) roles stands (omega (arith, enough))
      (λ y n left counted roles' stands' loaded kept.
      let end : ℕ = place + length (push Value ++ (second ++ (pop rd ++ tail))) in
      let between : ℕ = 2 + length tail + after in
      Leads-map (promise w) left (at_place (place + 2) y n) (Reaches w b told end top after n now.units (then_do (f now) g)) (Reaches w b told end top after m now.units (then_do (f now) g))
      (Leads-next w b holds_value told (place + 2 + length second) end (top + 4) top between after left n now.units (at_place (place + 2) y n) (f now) g (omega (arith, room.behind)) (omega arith) (omega arith)
      (one (place + 2) (top + 4) left between now y n later.0 tt (record { behind = omega (arith, room.behind); fits = omega (arith, room.fits) }) roles' stands' (omega (arith, enough, counted, lengths)))
      (λ v then rest z o tells roles'' stands'' kept' less_units steps.
      let same : load_at o top 4 ≡ Some value = sym (load_at-same n o top 4 (λ a from before. kept' a (omega arith) (omega arith) (inr (omega arith)))) ∙ loaded in
      Leads-block (promise w) (pop rd) (place + 2 + length second) rest z o (λ u p. Roles b top then u × (p ≡ o) × (u (number_of rd) ≡ value) × (u 10 ≡ z 10)) _ stands''.holds last.0 (omega (arith, steps))
      (pops (place + 2 + length second) top value then z o (omega (arith, room.fits, stands.body.room)) roles'' same)
      (λ less u p counted' holds reached.
      let stands''' : Stands w b then p = subst (Stands w b then) (sym reached.1) stands'' in
      let tail_runs = other v (place + 2 + length second + 2) top less after then u p last.1 (reached.2, reached.3 ∙ tells) room reached.0 stands''' (omega (arith, steps, counted')) in
      subst (λ q. Leads (promise w) less (at_place (place + 2 + length second + 2) u p) (Reaches w b told q top after o then.units (g v then))) finish
      (subst (λ q. Leads (promise w) less (at_place (place + 2 + length second + 2) u p) (Reaches w b told (place + 2 + length second + 2 + length tail) top after q then.units (g v then))) reached.1 tail_runs))))
      (λ rest e. Reaches-since w b told end top after m n now.units now.units (then_do (f now) g) rest e (omega (arith, room.behind)) kept (omega arith)))
