-- A body that is left with a value.
use Rattle.std.specs.Prelude.{IfSome}
use Rattle.std.proofs.Common.{◌≡◌, ℕ, ◌+◌, ◌*◌, ◌^◌, ◌<◌, ◌≤◌, [], ◌∷◌, Some, refl, ap, sym, subst, arith}
use Rattle.sl_model.specs.declared.bank.TheConstants.{CODE_START, FRAMES_START, FRAMES_SIZE}
use Rattle.sl_model.specs.Arithmetic.{word_add}
use Rattle.sl_model.specs.Pages.{Pages, ArePages, byte_at, load_at}
use Rattle.sl_model.proofs.Memory.{load_at-small}
use Rattle.tracer_lang.specs.Meaning.{Now, Returned}
use Rattle.word_blocks.specs.Configuration.{Registers, at_place}
use Rattle.word_blocks.proofs.Blocks.{Leads-block}
use Rattle.word_blocks.proofs.CodeLaws.{HasBlock-parts}
use Rattle.word_blocks.proofs.Jumps.{Leads-jalr}
use Rattle.word_blocks.proofs.Ways.{Leads-stay}
use Rattle.tracer_compile.specs.declared.roles.Role.TheVariants.{Link, Top, First, Frame}
use Rattle.tracer_compile.specs.Blocks.{add_number, load_word, jump_to, return_block}
use Rattle.tracer_compile.proofs.Relation.{World, promise, Body, Matches, holds_value, Runs}
use Rattle.tracer_compile.proofs.Running.{Leads-known}
use Rattle.tracer_compile.proofs.Values.{offset_added}

-- a word that was loaded is one
pub loaded_small : (m : Pages) (address value : ℕ) → ArePages m → load_at m address 4 ≡ Some value → value < 2 ^ 32
loaded_small m address value are loaded = subst (λ o. IfSome o (λ n. n < 256 ^ 4)) loaded (load_at-small m address 4 are)

module _ (w : World) (b : Body) where
  -- where the registers have the caller's frame again
  record Restored (now : Now) (m : Pages) (value : ℕ) (y : ℕ → ℕ) (n : Pages) : Type 0 where
    same : n ≡ m
    link_is : y 1 ≡ CODE_START + 4 * b.place
    top_is : y 2 ≡ b.frame
    frame_is : y 8 ≡ b.caller
    units_is : y 9 ≡ now.units
    calls_is : y 18 ≡ b.calls
    break_is : y 19 ≡ now.brk
    value_is : y 10 ≡ value

  pub return-runs : (told : ℕ → Registers → Type 0) (depth value : ℕ) → Runs w b (holds_value value) told depth (return_block b.locals) (Returned value)
  unfolding return_block
  return-runs told depth value place top limit after now x m has given room roles stands enough =
      Leads-known w limit (at_place place x m) _ (λ small are.
      let few : b.locals ≤ 16 = stands.body.few_locals in
      let within : b.frame + 4608 * (b.calls + 1) ≤ FRAMES_START + FRAMES_SIZE = stands.body.room in
      let caller_small : b.caller < 2 ^ 32 = loaded_small m (b.frame + (4 * b.locals + 4)) b.caller are stands.caller in
      let place_small : CODE_START + 4 * b.place < 2 ^ 32 = loaded_small m (b.frame + 4 * b.locals) (CODE_START + 4 * b.place) are stands.place in
      let block = load_word Link Frame (4 * b.locals) ∷ load_word First Frame (4 * b.locals + 4) ∷ add_number Top Frame 0 ∷ add_number Frame First 0 ∷ [] in
      let parts = HasBlock-parts w.code place block (jump_to Link ∷ []) has in
      Leads-block (promise w) block place limit x m (Restored now m value) _ stands.holds parts.0 (omega (arith, enough)) (
        b.frame + 4 * b.locals,
        offset_added (x 8) b.frame (4 * b.locals) roles.frame_is (omega arith) (omega arith),
        CODE_START + 4 * b.place,
        stands.place,
        (
          b.frame + (4 * b.locals + 4),
          offset_added (x 8) b.frame (4 * b.locals + 4) roles.frame_is (omega arith) (omega arith),
          b.caller,
          stands.caller,
          record { same = refl; link_is = refl; top_is = omega (arith, roles.frame_is); frame_is = omega arith; units_is = roles.units_is; calls_is = roles.calls_is; break_is = roles.break_is; value_is = given },
        ),
      )
      (λ left y n counted holds restored.
      let at : word_add (y 1) 0 ≡ CODE_START + 4 * b.place = omega (arith, restored.link_is) in
      Leads-jalr (promise w) (place + 4) left y n _ holds (omega (arith, enough, counted)) 0 1 0 b.place parts.1.0 at stands.body.inside
      (λ rest less. Leads-stay (promise w) rest (at_place b.place _ n) _ (record {
        place_is = refl;
        top_is = restored.top_is;
        frame_is = restored.frame_is;
        units_is = restored.units_is;
        calls_is = restored.calls_is;
        break_is = restored.break_is;
        value_is = restored.value_is;
        holds = holds;
        matches = subst (Matches now) (sym restored.same) stands.matches;
        kept = λ a from before. ap (λ p. byte_at p a) (sym restored.same);
        units = omega arith;
        steps = omega (arith, enough, counted, less);
      }))))
