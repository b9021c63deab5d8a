-- What the script of one tracepoint leaves.
use Rattle.std.proofs.Common.{◌≡◌, ℕ, Bool, true, false, [], ◌∷◌, cond, refl, ap}
use Rattle.std.specs.Prelude.{◌==◌}
use Rattle.sl_model.specs.State.{State, register}
use Rattle.tracer_lang.specs.declared.record.Record.{Record}
use Rattle.tracer_lang.specs.declared.record.TracerEnd.TheVariants.{Done}
use Rattle.tracer_lang.specs.Meaning.{meaning, statement_meaning, statements_meaning, expression_meaning, record_of}
use Rattle.tracer_lang.specs.Firing.{records_at}
use Rattle.epoch_run.specs.AtScript.{A0, at_tree, AtEmits}

-- the record of its tracer
abbrev left_by : State → Record
left_by s =
    record { count = s.count; point = 0; pc = s.pc; words = register s A0 ∷ []; outcome = Done }

record_is : (address : ℕ) (s : State) → record_of (at_tree address) 0 s ≡ left_by s
unfolding meaning statements_meaning statement_meaning expression_meaning
record_is address s = refl

where_it_fires : (address : ℕ) (s : State) (b : Bool) → (s.pc == address) ≡ b
    → records_at (at_tree address) s ≡ cond b (left_by s ∷ []) []
where_it_fires address s true fires = rw fires (ap (λ left. left ∷ []) (record_is address s))
where_it_fires address s false quiet = rw quiet refl

pub at-emits : AtEmits
at-emits address s = where_it_fires address s (s.pc == address) refl
