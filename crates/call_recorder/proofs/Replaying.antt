-- A recorded run that is replayed to a count.
use Rattle.std.specs.Prelude.{IsSome, ◌*◌}
use Rattle.std.proofs.Common.{◌≡◌, ℕ, zero, suc, ◌+◌, ◌-◌, ◌<◌, ◌≤◌, List, [], ◌∷◌, ◌++◌, Option, Some, None, sym, ap, subst, refl, ◌∙◌, arith}
use Rattle.sl_model.specs.State.{State}
use Rattle.rec_format.specs.declared.recording.Recording.{Recording}
use Rattle.sl_base.specs.declared.refused.Refused.TheVariants.{Fault}
use Rattle.call_log.specs.declared.breaks.BreakKind.{BreakKind}
use Rattle.page_frames.specs.MarkedPages.{MarkedPages}
use Rattle.rv_machine.specs.declared.machine.Machine.{Machine}
use Rattle.replay.specs.Run.{Goes, Breaks, onward, run_from}
use Rattle.replay.specs.Advance.{StoppedAt}
use Rattle.call_recorder.specs.Recut.{state_at, first_states}
use Rattle.call_recorder.proofs.Runs.{first, run-add, between, state_at-run}
use Rattle.call_recorder.proofs.Cuts.{first_states-more}

pub record Comes (run : Option State) : Type 0 where
  pub to : State
  pub is : run ≡ Some to

pub comes : (run : Option State) → IsSome run → Comes run
comes (Some s) some = record { to = s; is = refl }
comes None some = absurd cc

pub is_some_at : (run : Option State) (s : State) → run ≡ Some s → IsSome run
is_some_at run s is = subst IsSome (sym is) refl

pub record Next (rec : Recording) (s : State) : Type 0 where
  pub state : State
  pub goes : onward rec s ≡ Goes state

module _ (rec : Recording) (start s : State) (k total : ℕ) (run : run_from rec start k ≡ Some s) (whole : IsSome (run_from rec start total)) where
  abbrev last : Comes (run_from rec start total)
  last = comes (run_from rec start total) whole

  -- below its end a run goes on
  pub next_goes : k < total → Next rec s
  next_goes lt =
      let sum : k + suc (total - k - 1) ≡ total = omega (arith, lt) in
      let rest : run_from rec s (suc (total - k - 1)) ≡ Some last.to = sym (run-add rec k (suc (total - k - 1)) start s run) ∙ ap (run_from rec start) sum ∙ last.is in
      let one = first rec s (total - k - 1) last.to rest in
      record { state = one.next; goes = one.goes }

  -- and it comes to each count on the way
  pub goes_to : (j : ℕ) → k ≤ j → j ≤ total → IsSome (run_from rec s (j - k))
  goes_to j from upto =
      let sum : j + (total - j) ≡ total = omega (arith, upto) in
      let on : k + (j - k) ≡ j = omega (arith, from) in
      let at = between rec j (total - j) start last.to (ap (run_from rec start) sum ∙ last.is) in
      is_some_at (run_from rec s (j - k)) at.at (sym (run-add rec k (j - k) start s run) ∙ ap (run_from rec start) on ∙ at.run)

-- so it does not break there
pub never_breaks : (rec : Recording) (s : State) → Next rec s → (m : Machine) (f : MarkedPages) (kind : BreakKind) (m' : Machine) (f' : MarkedPages) → StoppedAt (onward rec s) m f (Fault kind) m' f' → ⊥
never_breaks rec s next m f kind m' f' stopped =
    let both : Goes next.state ≡ Breaks kind = sym next.goes ∙ stopped.0 in
    absurd cc

-- a run, and then more of it
pub run_then : (rec : Recording) (start s t : State) (k j : ℕ) → run_from rec start k ≡ Some s → k ≤ j → run_from rec s (j - k) ≡ Some t → run_from rec start j ≡ Some t
run_then rec start s t k j run from more =
    let on : k + (j - k) ≡ j = omega (arith, from) in
    sym (ap (run_from rec start) on) ∙ run-add rec k (j - k) start s run ∙ more

-- the state at one more multiple
pub next_state : (rec : Recording) (opened s : State) (every offers count : ℕ) → run_from rec opened count ≡ Some s → count ≡ (offers + 1) * every → first_states rec opened every offers ++ s ∷ [] ≡ first_states rec opened every (offers + 1)
next_state rec opened s every offers count run at =
    let here : state_at rec opened ((offers + 1) * every) ≡ s = state_at-run rec opened ((offers + 1) * every) s (sym (ap (run_from rec opened) at) ∙ run) in
    ap (λ (t : State). first_states rec opened every offers ++ t ∷ []) (sym here) ∙ sym (first_states-more rec opened every offers)
