-- What code that stands for a script leaves is what the script means.
use Rattle.std.specs.Prelude.{slice_index_or}
use Rattle.std.proofs.Common.{◌≡◌, ℕ, ◌<◌, ◌≤◌, true, false, length, refl, sym, ◌∙◌, subst, arith, ⊎_elim}
use Rattle.std.proofs.lemmas.Bool.{cases_lt}
use Rattle.sl_model.specs.State.{State, register}
use Rattle.sl_model.specs.Runs.{steps, is_end, EndsAfter}
use Rattle.sl_model.specs.Undo.{log_count}
use Rattle.tracer_lang.specs.declared.record.Record.{Record}
use Rattle.tracer_lang.specs.declared.record.TracerEnd.{TracerEnd}
use Rattle.tracer_lang.specs.declared.record.TracerEnd.TheVariants.{Done, OverBudget, TooDeep, LoadFault, StoreFault, TooManyStores, TooManyWords, Barred, User}
use Rattle.tracer_lang.specs.Meaning.{Now, meaning, record_of, no_tracepoint}
use Rattle.tracer_lang.specs.Tree.{ScriptTree}
use Rattle.tracer_code.specs.declared.code.TracerCode.{TracerCode}
use Rattle.tracer_code.specs.Outcomes.{end_number, end_value, outcome_of, TellsEnd}
use Rattle.tracer_code.specs.Runs.{IsObserved}
use Rattle.tracer_code.specs.Sound.{start_of, StandsFor, Leaves}
use Rattle.undo_isolation.specs.InPlace.{Tells, RanAt, IsMeant}

-- a run has one end
not_later : (first second : ℕ) (start : State) → EndsAfter first start → EndsAfter second start → second ≤ first
not_later first second start one other = ⊎_elim
    (λ (below : first < second).
    let over : is_end (steps first start) ≡ true = one.end in
    let open_ : is_end (steps first start) ≡ false = other.first first below in
    absurd cc)
    (λ (from : second ≤ first). from)
    (cases_lt first second)

pub one_end : (first second : ℕ) (start : State) → EndsAfter first start → EndsAfter second start → first ≡ second
one_end first second start one other =
    let a : second ≤ first = not_later first second start one other in
    let b : first ≤ second = not_later second first start other one in
    omega arith

-- the number and the value of an outcome tell it
pub outcome-told : (end : TracerEnd) → outcome_of (end_number end) (end_value end) ≡ end
outcome-told Done = refl
outcome-told OverBudget = refl
outcome-told TooDeep = refl
outcome-told (LoadFault address) = refl
outcome-told (StoreFault address) = refl
outcome-told TooManyStores = refl
outcome-told TooManyWords = refl
outcome-told (Barred code) = refl
outcome-told (User value) = refl

-- an end tells one outcome, by two registers
pub outcome-registers : (s : State) (end : TracerEnd) → TellsEnd s end → outcome_of (register s 10) (register s 11) ≡ end
outcome-registers s end told = rw (told.number_told, told.value_told) (outcome-told end)

same_record : (a b : Record) → a.count ≡ b.count → a.point ≡ b.point → a.pc ≡ b.pc → a.words ≡ b.words → a.outcome ≡ b.outcome → a ≡ b
same_record a b count point pc words outcome = λ i. record { count = count i; point = point i; pc = pc i; words = words i; outcome = outcome i }

-- such a record is the one that the run leaves
told_as : (script : ScriptTree) (point : ℕ) (s end : State) (told : Record) (entries : ℕ) → Tells s point end told → entries ≡ log_count end.pages → Leaves end (meaning script (slice_index_or script.tracepoints point no_tracepoint) s)
    → IsMeant script point s told entries
told_as script point s end told entries tells counted leaves =
    let m : TracerEnd × Now = meaning script (slice_index_or script.tracepoints point no_tracepoint) s in
    record {
      record_is = same_record told (record_of script point s) tells.count tells.number tells.pc
          (tells.words ∙ leaves.words)
          (sym (outcome-registers end told.outcome tells.outcome) ∙ outcome-registers end m.0 leaves.outcome);
      stores = counted ∙ leaves.stores;
    }

pub IsMeant-ran : (code : TracerCode) (script : ScriptTree) (point : ℕ) (s : State) (told : Record) (entries count : ℕ) → StandsFor code script → IsObserved s → point < length code.places → RanAt code point s told entries count
    → IsMeant script point s told entries
IsMeant-ran code script point s told entries count stands observed within ran =
    let start : State = start_of code point ran.memory s in
    let Below : ℕ → Type 0 = λ n. point < n in
    let runs = stands.means point (subst Below stands.places within) s observed ran.memory ran.bank in
    let same : runs.well.count ≡ count = one_end runs.well.count count start runs.well.run.ends ran.ends in
    let leaves : Leaves (steps count start) (meaning script (slice_index_or script.tracepoints point no_tracepoint) s) =
    subst (λ n. Leaves (steps n start) (meaning script (slice_index_or script.tracepoints point no_tracepoint) s)) same runs.leaves in
    told_as script point s (steps count start) told entries ran.tells ran.logged leaves
