-- What is read and undone at the end of a tracer's run.
use Rattle.std.specs.Prelude.{[], slice_index}
use Rattle.std.specs.FinMap.{empty}
use Rattle.std.proofs.Common.{◌≡◌, ℕ, ◌+◌, ◌-◌, ◌≤◌, List, ◌++◌, length, take, refl, ap, ◌∙◌, sym, subst, arith}
use Rattle.std.proofs.lemmas.List.{take_at, take-append-le}
use Rattle.page_frames.specs.MarkedPages.{MarkedPages}
use Rattle.sl_model.specs.declared.bank.TheConstants.{MOST_ENTRIES, MOST_OUTPUT_WORDS}
use Rattle.sl_model.specs.Bank.{HaveOneProgram, output_count, output_of}
use Rattle.sl_model.specs.Pages.{Pages}
use Rattle.sl_model.specs.Runs.{steps}
use Rattle.sl_model.specs.State.{State, register}
use Rattle.sl_model.specs.Undo.{UndoEntry, undone, log_count, log_of}
use Rattle.tracer_lang.specs.declared.record.Record.{Record}
use Rattle.tracer_lang.specs.declared.record.TracerEnd.{TracerEnd}
use Rattle.tracer_code.specs.declared.code.TracerCode.{TracerCode}
use Rattle.tracer_code.specs.Outcomes.{outcome_of, TellsEnd}
use Rattle.tracer_code.specs.Runs.{IsContained}
use Rattle.tracer_code.specs.Sound.{start_of}
use Rattle.undo_bank.specs.Areas.{Areas, AreAreas, IsProgram, areas_over, bank_pages}
use Rattle.undo_bank.proofs.BankLaws.{log_of-over, output_of-over, same_program}
use Rattle.undo_bank.proofs.LogLaws.{IsProgram-empty, log_count-areas, output_count-areas}
use Rattle.undo_bank.proofs.UndoneLaws.{HaveOneProgram-undone, IsProgram-undone}
use Rattle.undo_isolation.specs.Ended.{HasEnded}
use Rattle.undo_isolation.specs.InPlace.{Tells, RanAt}
use Rattle.rv_machine.specs.Machine.{state_of}
use Rattle.rv_machine.specs.declared.machine.Machine.{Machine}
use Rattle.undo_isolation.proofs.Words.{with_words}
use Rattle.undo_isolation.proofs.Meant.{outcome-registers}

-- ---- the log and the output of the bank are within their limits

log_count-over : (b : Areas) (base : Pages) → AreAreas b → IsProgram base → log_count (bank_pages b) ≡ log_count (areas_over b base)
log_count-over b base are program = log_count-areas b empty are IsProgram-empty ∙ sym (log_count-areas b base are program)

pub few_entries : (words : List ℕ) (s : State) (b : Areas) (base : Pages) → AreAreas b → IsProgram base → IsContained words s (areas_over b base) → log_count (bank_pages b) ≤ MOST_ENTRIES
few_entries words s b base are program held = omega (arith, held.few_entries, log_count-over b base are program)

pub few_words : (words : List ℕ) (s : State) (b : Areas) (base : Pages) → AreAreas b → IsProgram base → IsContained words s (areas_over b base) → output_count (bank_pages b) ≤ MOST_OUTPUT_WORDS
few_words words s b base are program held =
    let same : output_count (bank_pages b) ≡ output_count (areas_over b base) = output_count-areas b empty are IsProgram-empty ∙ sym (output_count-areas b base are program) in
    omega (arith, held.few_words)

-- ---- memory and marks

-- the log put back into the program's memory alone gives what it was
pub restored : (words : List ℕ) (s : State) (b : Areas) (base : Pages) → IsProgram base → IsProgram s.pages → IsContained words s (areas_over b base) → undone (log_of (bank_pages b)) base ≡ s.pages
restored words s b base program before held =
    let log : List UndoEntry = log_of (bank_pages b) in
    let over : HaveOneProgram (undone log (areas_over b base)) s.pages =
    subst (λ entries. HaveOneProgram (undone entries (areas_over b base)) s.pages) (log_of-over b base program) held.undone in
    same_program (undone log base) s.pages (IsProgram-undone log b base program) before
    (λ page below. sym (HaveOneProgram-undone log b base program page below) ∙ over page below)

-- marks that went on, cut to as many as before, are those from before
pub marks-cut : (before after more : List ℕ) → after ≡ before ++ more → take (length before) after ≡ before
marks-cut before after more same = ap (take (length before)) same ∙ take_at before more (length before) refl

-- and cut to fewer, they are so many of those
pub marks-cut_lower : (marked : ℕ) (before after more : List ℕ) → marked ≤ length before → after ≡ before ++ more → take marked after ≡ take marked before
marks-cut_lower marked before after more few same = ap (take marked) same ∙ take-append-le marked before more few

pub same_memory : (a b : MarkedPages) → a.pages ≡ b.pages → a.dirty ≡ b.dirty → a ≡ b
same_memory a b pages dirty = λ i. record { pages = pages i; dirty = dirty i }

-- ---- the record

told-end : (end : State) (told : TracerEnd) (outcome : (e : TracerEnd) × TellsEnd end e) → told ≡ outcome_of (register end 10) (register end 11) → TellsEnd end told
told-end end told outcome is = subst (TellsEnd end) (sym (is ∙ outcome-registers end outcome.0 outcome.1)) outcome.1

-- a record that was read at the end
RanAt-ended : (code : TracerCode) (point : ℕ) (s end : State) (b : Areas) (base : Pages) (told : Record) (entries before after : ℕ)
    → AreAreas b → IsProgram base → end.pages ≡ areas_over b base → HasEnded code point s end before after
    → told ≡ record { count = s.count; point = point; pc = s.pc; words = output_of (bank_pages b); outcome = outcome_of (register end 10) (register end 11) }
    → entries ≡ log_count (bank_pages b) → RanAt code point s told entries (after - before)
RanAt-ended code point s end b base told entries before after are program memory ended is logged =
    let start : State = start_of code point ended.memory s in
    let total : after ≡ before + ended.count = ended.came.steps in
    let taken : ended.count ≡ after - before = omega arith in
    let pages : areas_over b base ≡ (steps ended.count start).pages = sym memory ∙ ap (λ (t : State). t.pages) ended.came.state in
    let tells : Tells s point (steps ended.count start) told = record {
      count = ap (λ (r : Record). r.count) is;
      number = ap (λ (r : Record). r.point) is;
      pc = ap (λ (r : Record). r.pc) is;
      words = ap (λ (r : Record). r.words) is ∙ sym (output_of-over b base program) ∙ ap output_of pages;
      outcome = subst (λ (t : State). TellsEnd t told.outcome) ended.came.state (told-end end told.outcome ended.outcome (ap (λ (r : Record). r.outcome) is));
    } in
    let counted : entries ≡ log_count (steps ended.count start).pages = logged ∙ log_count-over b base are program ∙ ap log_count pages in
    subst (RanAt code point s told entries) taken (record { memory = ended.memory; bank = ended.bank; ends = ended.ends; tells = tells; logged = counted })

-- the same of a record that was begun with an outcome, and to which the words were added
pub RanAt-read : (code : TracerCode) (point : ℕ) (s : State) (m : Machine) (b : Areas) (base : Pages) (begun told : Record) (outcome : TracerEnd) (entries before after : ℕ)
    → AreAreas b → IsProgram base → HasEnded code point s (state_of m (areas_over b base)) before after → outcome ≡ outcome_of (slice_index m.x 10) (slice_index m.x 11)
    → begun ≡ record { count = s.count; point = point; pc = s.pc; words = []; outcome = outcome } → told ≡ with_words begun (output_of (bank_pages b))
    → entries ≡ log_count (bank_pages b) → RanAt code point s told entries (after - before)
RanAt-read code point s m b base begun told outcome entries before after are program ended is_outcome is_begun is_told logged =
    let head : TracerEnd → Record = λ end. record { count = s.count; point = point; pc = s.pc; words = []; outcome = end } in
    let words : List ℕ = output_of (bank_pages b) in
    RanAt-ended code point s (state_of m (areas_over b base)) b base told entries before after are program refl ended
    (is_told ∙ ap (λ (r : Record). with_words r words) (is_begun ∙ ap head is_outcome)) logged
