-- The report of a run, by what the run comes to.
use Rattle.std.proofs.Common.{◌≡◌, ℕ, List, [], length, Option, Some, None, Result, Ok, Err, refl, sym, ap, ◌∙◌}
use Rattle.std.specs.Option.{unwrap_or}
use Rattle.std.proofs.lemmas.List.{length-map}
use Rattle.sl_base.specs.declared.refused.Refused.{Refused}
use Rattle.sl_base.specs.declared.refused.Refused.TheVariants as refused
use Rattle.sl_base.specs.Refusals.{Fails}
use Rattle.sl_model.specs.State.{State}
use Rattle.call_log.specs.declared.breaks.Break.{Break}
use Rattle.rec_format.specs.declared.recording.Recording.{Recording}
use Rattle.tracer_lang.specs.declared.record.Record.{Record}
use Rattle.replay.specs.Breaks.{first_break}
use Rattle.analysers.specs.declared.kind.Kind.{Kind}
use Rattle.analysers.specs.declared.merged.Merged.{Merged}
use Rattle.analysers.specs.Analyses.{analyse}
use Rattle.analysers.specs.Pieces.{rows_of, merged_of}
use Rattle.tracer_lang.specs.Tree.{ScriptTree}
use Rattle.tracer_lang.specs.Firing.{records_at}
use Rattle.epoch_run.specs.Records.{Tracers, records}
use Rattle.epoch_run.specs.EpochLaws.{IsAtEnd, ComesToTheEnd}
use Rattle.report.specs.declared.status.Refusal.{Refusal}
use Rattle.report.specs.RunEnd.{recorded_end}
use Rattle.report.specs.Report.{analyses_lines, report}
use Rattle.sledge_top.specs.Runs.{run_value, run_of}
use Rattle.sledge_top.specs.Files.{◌>>=◌, refused_by}
use Rattle.sledge_top.specs.Replays.{replayed, traced, replayed_alone, last_state, run_end, broken_by, unless_broken}

-- what a run comes to, or how the command is refused
abbrev pub merged_or_refusal : Recording → Tracers → List Kind → State → Result Merged Refusal
merged_or_refusal rec tracers kinds opened = refused_by (λ first. broken_by first first.kind) (run_of rec tracers kinds opened)

-- the end of a run that comes to the recorded end
same_end : (rec : Recording) (last : State) → IsAtEnd rec last → run_end rec last ≡ recorded_end rec
same_end rec last at =
    ap (λ (n : ℕ). record { end = rec.end; count = n; pc = last.pc; x = last.x }) at.count
    ∙ ap (λ (n : ℕ). record { end = rec.end; count = rec.last.count; pc = n; x = last.x }) at.pc
    ∙ ap (λ (x : List ℕ). record { end = rec.end; count = rec.last.count; pc = rec.last.pc; x = x }) at.x

ends_so : (rec : Recording) (opened : State) → ComesToTheEnd rec opened → first_break rec opened ≡ None → run_end rec (last_state rec opened) ≡ recorded_end rec
ends_so rec opened comes none =
    let end = comes none in
    ap (λ (s : Option State). run_end rec (unwrap_or s opened)) end.1 ∙ same_end rec end.0 end.2

came : (rec : Recording) (opened : State) (lines : Merged → List ℕ) (left : Merged) (break : Option Break) → (break ≡ None → run_end rec (last_state rec opened) ≡ recorded_end rec)
    → replayed rec opened (lines left) break ≡ (refused_by (λ first. broken_by first first.kind) (run_value break left) >>= λ all. Ok (report (lines all) (recorded_end rec)))
came rec opened lines left None ends = ap (λ end. Ok (report (lines left) end)) (ends refl)
came rec opened lines left (Some first) ends = refl

-- the lines of some analyses
abbrev pub lines_of : List Kind → Merged → List ℕ
lines_of kinds merged = analyses_lines 1 kinds merged.rows

pub traced_is : (rec : Recording) (script : ScriptTree) (kinds : List Kind) (opened : State) → ComesToTheEnd rec opened
    → traced rec script kinds opened ≡ (merged_or_refusal rec (records_at script) kinds opened >>= λ merged. Ok (report (lines_of kinds merged) (recorded_end rec)))
unfolding traced
traced_is rec script kinds opened comes =
    came rec opened (lines_of kinds) (merged_of kinds (records rec (records_at script) opened)) (first_break rec opened) (ends_so rec opened comes)

pub replayed_alone_is : (rec : Recording) (tracers : Tracers) (kinds : List Kind) (opened : State) → ComesToTheEnd rec opened
    → replayed_alone rec opened ≡ (merged_or_refusal rec tracers kinds opened >>= λ merged. Ok (report [] (recorded_end rec)))
unfolding replayed_alone
replayed_alone_is rec tracers kinds opened comes =
    came rec opened (λ merged. []) (merged_of kinds (records rec tracers opened)) (first_break rec opened) (ends_so rec opened comes)

as_many : (break : Option Break) (left : List Record) (kinds : List Kind) (merged : Merged) → refused_by (λ first. broken_by first first.kind) (run_value break (merged_of kinds left)) ≡ Ok merged → length merged.rows ≡ length kinds
unfolding rows_of
as_many None left kinds merged is =
    let same : merged_of kinds left ≡ merged = cc in
    ap (λ (m : Merged). length m.rows) (sym same) ∙ length-map kinds (λ (kind : Kind). analyse kind.what left)
as_many (Some first) left kinds merged is = absurd cc

-- there is a list of rows for each analysis
pub as_many_rows : (rec : Recording) (tracers : Tracers) (kinds : List Kind) (opened : State) (merged : Merged) → merged_or_refusal rec tracers kinds opened ≡ Ok merged → length merged.rows ≡ length kinds
as_many_rows rec tracers kinds opened merged is = as_many (first_break rec opened) (records rec tracers opened) kinds merged is

-- what refuses a part refuses the whole
pub fails_on : {A B : Type 0} (why : Refused Refusal) (part : Result A Refusal) (f : A → Result B Refusal) → Fails why part → Fails why (part >>= f)
fails_on refused.Memory part f fails = tt
fails_on (refused.Fault why) part f fails = ap (λ p. p >>= f) fails

-- what refuses a replay refuses what a recording is used for
pub refuses_too : {A : Type 0} (x : A) (first : Option Break) (left : Merged) (why : Refused Refusal)
    → Fails why (refused_by (λ first. broken_by first first.kind) (run_value first left)) → Fails why (unless_broken x first)
refuses_too x None left refused.Memory fails = tt
refuses_too x None left (refused.Fault why) fails = absurd (let h : Ok left ≡ Err why = fails in cc)
refuses_too x (Some first) left refused.Memory fails = tt
refuses_too x (Some first) left (refused.Fault why) fails = let h : Err (broken_by first first.kind) ≡ Err why = fails in cc
