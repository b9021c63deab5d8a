-- A local that becomes a value.
use Rattle.std.specs.Prelude.{slice_index, slice_set, ◌⊎◌, ◌≢◌}
use Rattle.std.proofs.Common.{◌≡◌, ℕ, ◌+◌, ◌*◌, ◌^◌, ◌<◌, ◌≤◌, inl, inr, ⊎_elim, length, Some, refl, ap, ◌∙◌, sym, subst, arith}
use Rattle.std.proofs.lemmas.Bool.{cases_eq, cases_lt}
use Rattle.std.proofs.lemmas.List.{get_or-set_same, get_or-set_other}
use Rattle.std.proofs.Math.ListN.{length-set}
use Rattle.sl_model.specs.declared.bank.TheConstants.{FRAMES_START, FRAMES_SIZE}
use Rattle.sl_model.specs.Pages.{Pages, ArePages, load_at}
use Rattle.sl_model.specs.Stores.{IsStored}
use Rattle.tracer_lang.specs.Meaning.{Now, set_meaning}
use Rattle.word_blocks.specs.Configuration.{at_place}
use Rattle.word_blocks.proofs.Bytes.{load_at-elsewhere, load_at-word}
use Rattle.tracer_compile.specs.Blocks.{set_block}
use Rattle.tracer_compile.proofs.Relation.{World, Body, Matches, Stands, holds_value, tells_nothing, Runs}
use Rattle.tracer_compile.proofs.Standing.{load_at-mapped, Beside, Beside-frames}
use Rattle.tracer_compile.proofs.Running.{Leads-known, Leads-straight}
use Rattle.tracer_compile.proofs.Values.{offset_added}

module _ (w : World) (b : Body) where
  -- what a local's word leaves
  Stands-set : (now : Now) (index value : ℕ) (m m' : Pages) → ArePages m → ArePages m' → IsStored (b.frame + 4 * index) 4 value m m' → value < 2 ^ 32 → index < b.locals → Stands w b now m → Stands w b (record now { locals = slice_set now.locals index value }) m'
  Stands-set now index value m m' are are' is small below stands =
      let few : b.locals ≤ 16 = stands.body.few_locals in
      let count : length now.locals ≡ b.locals = stands.count in
      let beside : Beside w m m' = Beside-frames w (b.frame + 4 * index) 4 value m m' are are' is (omega (arith, stands.body.behind)) (omega (arith, stands.body.room)) stands.holds in
      let after : Matches now m' = beside.matches now stands.matches in
      let local : (other : ℕ) → other < b.locals → load_at m' (b.frame + 4 * other) 4 ≡ Some (slice_index (slice_set now.locals index value) other) = λ other inside.
      ⊎_elim
      (λ (here : other ≡ index). rw here (load_at-word (b.frame + 4 * index) value m m' is small ∙ ap Some (sym (get_or-set_same now.locals index value 0 (omega (arith, count))))))
      (λ (apart : other ≢ index).
      load_at-elsewhere (b.frame + 4 * other) 4 (b.frame + 4 * index) 4 value m m' is (beside_words other index apart) ∙ stands.locals other inside ∙ ap Some (sym (get_or-set_other now.locals index other value 0 apart)))
      (cases_eq other index) in
      record {
        holds = beside.holds;
        body = stands.body;
        matches = record {
          words = after.words;
          stores = after.stores;
          program = after.program;
          are = after.are;
          below = after.below;
        };
        count = length-set now.locals index value ∙ count;
        locals = local;
        place = load_at-elsewhere (b.frame + 4 * b.locals) 4 (b.frame + 4 * index) 4 value m m' is (inr (omega arith)) ∙ stands.place;
        caller = load_at-elsewhere (b.frame + (4 * b.locals + 4)) 4 (b.frame + 4 * index) 4 value m m' is (inr (omega arith)) ∙ stands.caller;
      }
    where
      beside_words : (i j : ℕ) → i ≢ j → (b.frame + 4 * i + 4 ≤ b.frame + 4 * j) ⊎ (b.frame + 4 * j + 4 ≤ b.frame + 4 * i)
      beside_words i j apart = ⊎_elim (λ (before : i < j). inl (omega arith)) (λ (from : j ≤ i). inr (omega arith)) (cases_lt i j)

  -- the value becomes a local
  pub set-runs : (depth index value : ℕ) → index < b.locals → Runs w b (holds_value value) tells_nothing depth (set_block index) (set_meaning index value)
  unfolding set_block
  set-runs depth index value below place top limit after now x m has given room roles stands enough =
      Leads-known w limit (at_place place x m) _ (λ small are.
      let few : b.locals ≤ 16 = stands.body.few_locals in
      let inside : b.frame + 4608 * (b.calls + 1) ≤ FRAMES_START + FRAMES_SIZE = stands.body.room in
      let behind : FRAMES_START + 148 ≤ b.frame = stands.body.behind in
      let at : ℕ = b.frame + 4 * index in
      let next : Now = record now { locals = slice_set now.locals index value } in
      let word : x 10 < 2 ^ 32 = small 10 in
      Leads-straight w b tells_nothing (set_block index) place (place + 1) top after 0 limit x m m now.units next (omega arith) stands.holds has refl enough (
        at,
        offset_added (x 8) b.frame (4 * index) roles.frame_is (omega arith) (omega arith),
        inl (omega arith, omega arith),
        load_at-mapped m at 4 (λ a from before. stands.holds.frames a (omega arith) (omega arith)),
        λ n is are'.
            let stands' : Stands w b next n = Stands-set now index value m n are are' (subst (λ v. IsStored at 4 v m n) given is) (omega (arith, given)) below stands in (
              stands'.holds,
              (
                record { top_is = roles.top_is; frame_is = roles.frame_is; units_is = roles.units_is; calls_is = roles.calls_is; break_is = roles.break_is },
                stands',
                tt,
                λ a from before apart. sym (is.elsewhere a (⊎_elim (λ (ahead : a < b.frame). inl (omega arith)) (λ (past : b.frame + 4 * b.locals ≤ a). inr (omega arith)) apart)),
              ),
            ),
      ))
