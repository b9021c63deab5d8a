-- The code of a body: its statements, and the return of 0 behind them.
use Rattle.std.proofs.Common.{◌≡◌, ℕ, suc, ◌+◌, List, [], ◌∷◌, length, refl, sym, subst, arith}
use Rattle.tracer_lang.specs.Meaning.{Now, Outcome, Goes, Returned, Ended, then_do, left_with}
use Rattle.tracer_lang.specs.Tree.{Statements}
use Rattle.word_blocks.specs.Configuration.{at_place}
use Rattle.word_blocks.specs.Ways.{Leads}
use Rattle.word_blocks.proofs.Blocks.{Leads-block}
use Rattle.tracer_compile.specs.declared.roles.Role.TheVariants.{Zero, Value}
use Rattle.tracer_compile.specs.Blocks.{add_number, return_block}
use Rattle.tracer_compile.specs.Code.{Scope, statements_code, body_code}
use Rattle.tracer_compile.proofs.Relation.{World, promise, Body, Roles, Stands, Reaches, any, tells_nothing, Runs}
use Rattle.tracer_compile.proofs.Running.{Roles-kept, Runs-then}
use Rattle.tracer_compile.proofs.Returns.{return-runs}

-- what becomes of a body: where its statements return nothing it returns 0
abbrev pub returned : Outcome → Outcome
returned o = then_do o (λ _. Returned 0)

pub left_with-returned : (locals : List ℕ) (o : Outcome) → left_with locals (returned o) ≡ left_with locals o
left_with-returned locals (Goes value now) = refl
left_with-returned locals (Returned value now) = refl
left_with-returned locals (Ended end now) = refl

module _ (w : World) (b : Body) (depth : ℕ) where
  zero-runs : Runs w b any tells_nothing depth (add_number Value Zero 0 ∷ return_block b.locals) (Returned 0)
  zero-runs place top limit after now x m has is_given room roles stands enough =
      Leads-block (promise w) (add_number Value Zero 0 ∷ []) place limit x m (λ y n. (n ≡ m) × (y 10 ≡ 0) × Roles b top now y) _ stands.holds (has.0, tt) (omega (arith, enough))
      (refl, refl, Roles-kept b top now x _ roles (refl, refl, refl, refl, refl))
      (λ left y n counted holds reached.
      let end : place + 1 + length (return_block b.locals) ≡ place + suc (length (return_block b.locals)) = omega arith in
      let returns = return-runs w b tells_nothing depth 0 (place + 1) top left after now y n has.1 reached.1 room reached.2 (subst (Stands w b now) (sym reached.0) stands) (omega (arith, enough, counted)) in
      subst (λ q. Leads (promise w) left (at_place (place + 1) y n) (Reaches w b tells_nothing q top after m now.units (Returned 0 now))) end
      (subst (λ q. Leads (promise w) left (at_place (place + 1) y n) (Reaches w b tells_nothing (place + 1 + length (return_block b.locals)) top after q now.units (Returned 0 now))) reached.0 returns))

  pub body-runs : (scope : Scope) (body : Statements) (f : Now → Outcome) → scope.locals ≡ b.locals → Runs w b any tells_nothing depth (statements_code scope body) f
      → Runs w b any tells_nothing depth (body_code scope body) (λ now. returned (f now))
  unfolding body_code
  body-runs scope body f same runs =
      Runs-then w b any tells_nothing tells_nothing depth (statements_code scope body) (add_number Value Zero 0 ∷ return_block scope.locals) f (λ _. Returned 0) runs
      (λ value. subst (λ l. Runs w b any tells_nothing depth (add_number Value Zero 0 ∷ return_block l) (Returned 0)) (sym same) zero-runs)
