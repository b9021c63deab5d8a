-- A trace is of one run, or it is refused for something else than a break.
use Rattle.std.proofs.Common.{◌≡◌, ◌⊎◌, ⊎_elim, ℕ, ◌+◌, Bool, true, false, List, [], ◌∷◌, length, Option, Some, None, Result, Ok, Err, inl, inr, refl, sym, ap, subst, ◌∙◌}
use Rattle.std.specs.Prelude.{IsOk, nat_lt, if◌then◌else◌, ⊤}
use Rattle.std.specs.FinMap.{get}
use Rattle.outside.specs.Files.{Files}
use Rattle.outside.specs.Faults.{Rose}
use Rattle.outside.specs.World.{Heard, HearsAll}
use Rattle.elf_image.specs.declared.image.Image.{Image}
use Rattle.call_log.specs.declared.breaks.Break.{Break}
use Rattle.call_log.specs.declared.breaks.BreakKind.{BreakKind}
use Rattle.call_log.specs.declared.breaks.BreakKind.TheVariants as kind
use Rattle.rec_format.specs.declared.recording.Recording.{Recording}
use Rattle.rec_format.specs.Reading.{reading}
use Rattle.tracer_lang.specs.Tree.{ScriptTree}
use Rattle.tracer_read.specs.Scripts.{script_of_text}
use Rattle.replay.specs.Opening.{opening}
use Rattle.analysers.specs.declared.kind.Kind.{Kind}
use Rattle.epoch_run.specs.AtScript.{at_tree}
use Rattle.epoch_run.specs.Images.{image_in}
use Rattle.analysers.specs.Pieces.{rows_of}
use Rattle.report.specs.Report.{analyses_lines}
use Rattle.report.specs.declared.status.Refusal.{Refusal}
use Rattle.report.specs.declared.status.Refusal.TheVariants as refusal
use Rattle.report.specs.declared.status.Status.{Status}
use Rattle.report.specs.declared.status.Status.TheVariants as ending
use Rattle.cli_words.specs.Orders.{Order, TraceOptions, Trace, TraceAt, Replay, Check, Record, Recut, Asm, Show, Gen, order_of}
use Rattle.sledge_top.specs.Done.{Done, only_text, text_of}
use Rattle.sledge_top.specs.Kinds.{kind_named, before, kinds_from, kinds_of}
use Rattle.sledge_top.specs.Endings.{Ends, Says, IsCutOff, Does, Answers}
use Rattle.sledge_top.specs.Files.{◌>>=◌, refused_by, within, file_of}
use Rattle.sledge_top.specs.Recordings.{RECORDING_LIMIT, image_of, recording_of, recorded, recorded_in}
use Rattle.sledge_top.specs.Replays.{replayed, traced, broken_by}
use Rattle.sledge_top.specs.Traces.{SCRIPT_LIMIT, script_of, script_in, traced_with, trace_by, trace_at}
use Rattle.sledge_top.specs.Answer.{ordered, ComesTo}
use Rattle.sledge_top.specs.Headline.{Traced, IsTraced, is_trace, opened_in, break_in, records_in, report_in, IsBreakOf, IsOneRun, TracesAreOneRun, IsComplete, TracesComplete}
use Rattle.sledge_top.proofs.Outcomes.{does_due}

-- ---- what the run comes to

pub result_of : Traced → Result Done Refusal
result_of t = traced t.rec t.script t.kinds (opened_in t) >>= λ (text : List ℕ). Ok (only_text text)

no_break : (t : Traced) → break_in t ≡ None → result_of t ≡ Ok (only_text (report_in t))
unfolding result_of traced
no_break t none = ap (λ (b : Option Break). replayed t.rec (opened_in t) (analyses_lines 1 t.kinds (rows_of t.kinds (records_in t))) b >>= λ (text : List ℕ). Ok (only_text text)) none

at_break : (t : Traced) (first : Break) → break_in t ≡ Some first → result_of t ≡ Err (broken_by first first.kind)
unfolding result_of traced
at_break t first some = ap (λ (b : Option Break). replayed t.rec (opened_in t) (analyses_lines 1 t.kinds (rows_of t.kinds (records_in t))) b >>= λ (text : List ℕ). Ok (only_text text)) some

-- ---- refusals for something else

abbrev IsElse : Refusal → Type 0
IsElse (refusal.ReplayBroken first) = ⊥
IsElse (refusal.CheckpointDiffers first) = ⊥
IsElse other = ⊤

abbrev ElseRefused : {A : Type 0} → Result A Refusal → Type 0
ElseRefused (Ok x) = ⊤
ElseRefused (Err why) = IsElse why

else_by : {A F : Type 0} (why : F → Refusal) → ((fault : F) → IsElse (why fault)) → (part : Result A F) → ElseRefused (refused_by why part)
else_by why all (Ok x) = tt
else_by why all (Err fault) = all fault

else_then : {A B : Type 0} (part : Result A Refusal) (f : A → Result B Refusal) → ElseRefused part → ((x : A) → ElseRefused (f x)) → ElseRefused (part >>= f)
else_then (Ok x) f apart all = all x
else_then (Err why) f apart all = apart

else_long : (limit : ℕ) (name bytes : List ℕ) (is_long : Bool) → ElseRefused {A = List ℕ} (if is_long then Err (refusal.TooLong limit name) else Ok bytes)
else_long limit name bytes true = tt
else_long limit name bytes false = tt

else_within : (limit : ℕ) (name : List ℕ) (file : Option (List ℕ)) → ElseRefused (within limit name file)
else_within limit name None = tt
else_within limit name (Some bytes) = else_long limit name bytes (nat_lt limit (length bytes))

else_recorded : (files : Files) (name : List ℕ) → ElseRefused (recorded_in files name)
else_recorded files name =
    else_then (file_of files name RECORDING_LIMIT) recorded (else_within RECORDING_LIMIT name (get files name))
    (λ (bytes : List ℕ). else_then (recording_of bytes) (λ (rec : Recording). image_of rec >>= λ (image : Image). Ok (rec, image)) (else_by refusal.RecordingBroken (λ fault. tt) (reading bytes))
    (λ (rec : Recording). else_then (image_of rec) (λ (image : Image). Ok (rec, image)) (else_by refusal.ImageBroken (λ fault. tt) (image_in rec)) (λ image. tt)))

else_script : (files : Files) (image : Image) (name : List ℕ) → ElseRefused (script_in files image name)
else_script files image name =
    else_then (file_of files name SCRIPT_LIMIT) (script_of image) (else_within SCRIPT_LIMIT name (get files name))
    (λ (text : List ℕ). else_by refusal.ScriptRefused (λ fault. tt) (script_of_text text image.symbols))

else_before : (position : ℕ) (kind : Option Kind) (kinds : Result (List Kind) Refusal) → ElseRefused kinds → ElseRefused (before position kind kinds)
else_before position None kinds apart = tt
else_before position (Some kind) (Ok kinds) apart = tt
else_before position (Some kind) (Err why) apart = apart

else_kinds : (position : ℕ) (words : List (List ℕ)) → ElseRefused (kinds_from position words)
else_kinds position [] = tt
else_kinds position (word ∷ words) = else_before position (kind_named word) (kinds_from (position + 1) words) (else_kinds (position + 1) words)

-- ---- a trace

-- a part that is had, or a refusal for something else
abbrev Had : {A : Type 0} → Result A Refusal → Type 0
Had {A} part = ((x : A) × (part ≡ Ok x)) ⊎ ((why : Refusal) × (part ≡ Err why) × IsElse why)

had : {A : Type 0} (part : Result A Refusal) → ElseRefused part → Had part
had (Ok x) apart = inl (x, refl)
had (Err why) apart = inr (why, refl, apart)

-- a command is of what is traced, or it is refused for something else
abbrev Found : Files → Option Order → Type 0
Found files named =
    ((t : Traced) × IsTraced files named t) ⊎ ((why : Refusal) × (ordered files named ≡ Some (Err why)) × IsElse why)

abbrev run_with : Recording → Image → ScriptTree → Result (List Kind) Refusal → Result Done Refusal
run_with rec image script kinds = kinds >>= λ (k : List Kind). traced rec script k (opening image rec.args) >>= λ (text : List ℕ). Ok (only_text text)

module _ (files : Files) (name : List ℕ) (options : TraceOptions) where
  of_script : (script : List ℕ) → Result (Recording × Image) Refusal → Result Done Refusal
  of_script script part = part >>= λ (both : Recording × Image). script_in files both.1 script >>= λ (tree : ScriptTree). traced_with both.0 both.1 tree options.analyses

  with_script : Recording × Image → Result ScriptTree Refusal → Result Done Refusal
  with_script both part = part >>= λ (tree : ScriptTree). traced_with both.0 both.1 tree options.analyses

  of_address : ℕ → Result (Recording × Image) Refusal → Result Done Refusal
  of_address address part = part >>= λ (both : Recording × Image). traced_with both.0 both.1 (at_tree address) options.analyses

  found_by : (script : List ℕ) → Found files (Some (Trace name script options))
  unfolding of_script with_script
  found_by script =
      ⊎_elim
      (λ (r : (both : Recording × Image) × (recorded_in files name ≡ Ok both)).
      let both = r.0 in
      ⊎_elim
      (λ (s : (tree : ScriptTree) × (script_in files both.1 script ≡ Ok tree)).
      ⊎_elim
      (λ (k : (kinds : List Kind) × (kinds_of options.analyses ≡ Ok kinds)).
      inl (record { rec = both.0; image = both.1; script = s.0; kinds = k.0 }, (r.1, s.1, k.1)))
      (λ (apart : (why : Refusal) × (kinds_of options.analyses ≡ Err why) × IsElse why).
      inr (apart.0, ap Some (ap (of_script script) r.1 ∙ ap (with_script both) s.1 ∙ ap (run_with both.0 both.1 s.0) apart.1), apart.2))
      (had (kinds_of options.analyses) (else_kinds 1 options.analyses)))
      (λ (apart : (why : Refusal) × (script_in files both.1 script ≡ Err why) × IsElse why).
      inr (apart.0, ap Some (ap (of_script script) r.1 ∙ ap (with_script both) apart.1), apart.2))
      (had (script_in files both.1 script) (else_script files both.1 script)))
      (λ (apart : (why : Refusal) × (recorded_in files name ≡ Err why) × IsElse why).
      inr (apart.0, ap Some (ap (of_script script) apart.1), apart.2))
      (had (recorded_in files name) (else_recorded files name))

  found_at : (address : ℕ) → Found files (Some (TraceAt name address options))
  unfolding of_address
  found_at address =
      ⊎_elim
      (λ (r : (both : Recording × Image) × (recorded_in files name ≡ Ok both)).
      let both = r.0 in
      ⊎_elim
      (λ (k : (kinds : List Kind) × (kinds_of options.analyses ≡ Ok kinds)).
      inl (record { rec = both.0; image = both.1; script = at_tree address; kinds = k.0 }, (r.1, refl, k.1)))
      (λ (apart : (why : Refusal) × (kinds_of options.analyses ≡ Err why) × IsElse why).
      inr (apart.0, ap Some (ap (of_address address) r.1 ∙ ap (run_with both.0 both.1 (at_tree address)) apart.1), apart.2))
      (had (kinds_of options.analyses) (else_kinds 1 options.analyses)))
      (λ (apart : (why : Refusal) × (recorded_in files name ≡ Err why) × IsElse why).
      inr (apart.0, ap Some (ap (of_address address) apart.1), apart.2))
      (had (recorded_in files name) (else_recorded files name))

  comes_by : (script : List ℕ) (t : Traced) → IsTraced files (Some (Trace name script options)) t → ordered files (Some (Trace name script options)) ≡ Some (result_of t)
  unfolding result_of of_script with_script
  comes_by script t is =
      ap Some (ap (of_script script) is.0 ∙ ap (with_script (t.rec, t.image)) is.1 ∙ ap (run_with t.rec t.image t.script) is.2)

  comes_at : (address : ℕ) (t : Traced) → IsTraced files (Some (TraceAt name address options)) t → ordered files (Some (TraceAt name address options)) ≡ Some (result_of t)
  unfolding result_of of_address
  comes_at address t is =
      ap Some (ap (of_address address) is.0 ∙ ap (λ (tree : ScriptTree). traced_with t.rec t.image tree options.analyses) (sym is.1) ∙ ap (run_with t.rec t.image t.script) is.2)

found : (files : Files) (named : Option Order) → is_trace named ≡ true → Found files named
found files None is = absurd cc
found files (Some (Trace recording script options)) is = found_by files recording options script
found files (Some (TraceAt recording address options)) is = found_at files recording options address
found files (Some (Replay recording)) is = absurd cc
found files (Some (Check recording)) is = absurd cc
found files (Some (Record image output options)) is = absurd cc
found files (Some (Recut recording output every)) is = absurd cc
found files (Some (Asm source output)) is = absurd cc
found files (Some (Show image address lines flat)) is = absurd cc
found files (Some (Gen seed size)) is = absurd cc

comes : (files : Files) (named : Option Order) (t : Traced) → IsTraced files named t → ordered files named ≡ Some (result_of t)
comes files None t is = absurd is
comes files (Some (Trace recording script options)) t is = comes_by files recording options script t is
comes files (Some (TraceAt recording address options)) t is = comes_at files recording options address t is
comes files (Some (Replay recording)) t is = absurd is
comes files (Some (Check recording)) t is = absurd is
comes files (Some (Record image output options)) t is = absurd is
comes files (Some (Recut recording output every)) t is = absurd is
comes files (Some (Asm source output)) t is = absurd is
comes files (Some (Show image address lines flat)) t is = absurd is
comes files (Some (Gen seed size)) t is = absurd is

-- ---- how it ends

no_ok : (due : Result Done Refusal) (why : Refusal) → due ≡ Err why → IsOk due → ⊥
no_ok (Ok done) why is ok = cc
no_ok (Err other) why is ok = cc

same_refusal : (due : Result Done Refusal) (one other : Refusal) → due ≡ Err one → due ≡ Err other → one ≡ other
same_refusal due one other is too = cc

not_both : (due : Result Done Refusal) (done : Done) (why : Refusal) → due ≡ Ok done → due ≡ Err why → ⊥
not_both due done why is too = cc

refused_at_break : (files : Files) (new : Option Files) (said says : Option (List ℕ)) (due : Result Done Refusal) (why : Refusal) (status : Status) → due ≡ Err why → Does status files new said says due
    → (status ≡ ending.Refused why) ⊎ IsCutOff status
refused_at_break files new said says due why ending.Ok is does = absurd (no_ok due why is does.ends)
refused_at_break files new said says due why (ending.Refused other) is does = inl (ap ending.Refused (same_refusal due other why does.ends is))
refused_at_break files new said says due why ending.StoreFault is does = inr tt
refused_at_break files new said says due why ending.SinkFault is does = absurd (no_ok due why is does.ends)
refused_at_break files new said says due why ending.Memory is does = inr tt

complete_by : (files : Files) (new : Option Files) (said says : Option (List ℕ)) (store stored out written : ℕ) (due : Result Done Refusal) (done : Done) (status : Status) → due ≡ Ok done → Does status files new said says due
    → (status ≡ ending.StoreFault → Rose store stored) → (status ≡ ending.SinkFault → Rose out written) → IsComplete status store stored out written
complete_by files new said says store stored out written due done ending.Ok is does by_store by_out = tt
complete_by files new said says store stored out written due done (ending.Refused why) is does by_store by_out = absurd (not_both due done why is does.ends)
complete_by files new said says store stored out written due done ending.StoreFault is does by_store by_out = by_store refl
complete_by files new said says store stored out written due done ending.SinkFault is does by_store by_out = by_out refl
complete_by files new said says store stored out written due done ending.Memory is does by_store by_out = tt

-- a run breaks or not
broken_or_not : (o : Option Break) → (o ≡ None) ⊎ ((first : Break) × (o ≡ Some first))
broken_or_not None = inl refl
broken_or_not (Some first) = inr (first, refl)

-- the refusal for a break names it
replay_names : (one first : Break) → IsBreakOf first (refusal.ReplayBroken one) → one ≡ first
replay_names one first (inl is) = cc
replay_names one first (inr is) = absurd cc

checkpoint_names : (one first : Break) → IsBreakOf first (refusal.CheckpointDiffers one) → one ≡ first
checkpoint_names one first (inl is) = absurd cc
checkpoint_names one first (inr is) = cc

names : (one first : Break) (k : BreakKind) → IsBreakOf first (broken_by one k) → one ≡ first
names one first (kind.NoCall index) is = replay_names one first is
names one first (kind.CallDiffers index field recorded due) is = replay_names one first is
names one first (kind.EarlyEnd end) is = replay_names one first is
names one first (kind.EndDiffers recorded replayed) is = replay_names one first is
names one first (kind.CallsLeft index) is = replay_names one first is
names one first (kind.CheckpointDiffers index part address recorded replayed) is = checkpoint_names one first is

for_no_break : (first : Break) (why : Refusal) → IsElse why → IsBreakOf first why → ⊥
for_no_break first why apart (inl is) = subst IsElse is apart
for_no_break first why apart (inr is) = subst IsElse is apart

module _ (files : Files) (named : Option Order) (heard : List Heard → Type 0) (status : Status) (new : Option Files) (said says : Option (List ℕ)) (answers : Answers (ComesTo files named heard) status files new said says) where
  abbrev Ended : Result Done Refusal → Type 0
  Ended due = Does status files new said says due

  breaks_so : (t : Traced) (first : Break) → IsTraced files named t → break_in t ≡ Some first → (status ≡ ending.Refused (broken_by first first.kind)) ⊎ IsCutOff status
  breaks_so t first is some =
      refused_at_break files new said says (result_of t) (broken_by first first.kind) status (at_break t first some)
      (does_due files named heard (result_of t) status new said says (comes files named t is) answers)

  text_so : (t : Traced) (by : Status) → status ≡ by → break_in t ≡ None → Ended (result_of t) → Says by said says (report_in t)
  text_so t by is none does =
      subst (λ (d : Result Done Refusal). Says by said says (text_of d)) (no_break t none)
      (subst (λ (s : Status). Says s said says (text_of (result_of t))) is does.text)

  ends_so : (due : Result Done Refusal) (by : Status) → status ≡ by → Ended due → Ends by due
  ends_so due by is does = subst (λ (s : Status). Ends s due) is does.ends

  of_run : (t : Traced) → IsTraced files named t → Ended (result_of t) → IsOneRun files named status said says
  of_run t is does = record {
    done = λ ok. ⊎_elim
        (λ (none : break_in t ≡ None). (t, is, none, text_so t ending.Ok ok none does))
        (λ (some : (first : Break) × (break_in t ≡ Some first)). absurd (no_ok (result_of t) _ (at_break t some.0 some.1) (ends_so (result_of t) ending.Ok ok does)))
        (broken_or_not (break_in t));
    cut_short = λ fault. ⊎_elim
        (λ (none : break_in t ≡ None). (t, is, none, text_so t ending.SinkFault fault none does))
        (λ (some : (first : Break) × (break_in t ≡ Some first)). absurd (no_ok (result_of t) _ (at_break t some.0 some.1) (ends_so (result_of t) ending.SinkFault fault does)))
        (broken_or_not (break_in t));
    broken = λ first why refused for. ⊎_elim
        (λ (none : break_in t ≡ None). absurd (not_both (result_of t) _ why (no_break t none) (ends_so (result_of t) (ending.Refused why) refused does)))
        (λ (some : (one : Break) × (break_in t ≡ Some one)).
        let named_so : why ≡ broken_by some.0 some.0.kind = same_refusal (result_of t) why (broken_by some.0 some.0.kind) (ends_so (result_of t) (ending.Refused why) refused does) (at_break t some.0 some.1) in
        let same : some.0 ≡ first = names some.0 first some.0.kind (subst (IsBreakOf first) named_so for) in
        (t, is, some.1 ∙ ap Some same, named_so ∙ ap (λ (b : Break). broken_by b b.kind) same))
        (broken_or_not (break_in t));
    breaks = breaks_so;
  }

  of_else : (why : Refusal) → IsElse why → Ended (Err why) → IsOneRun files named status said says
  of_else why apart does = record {
    done = λ ok. absurd (no_ok (Err why) why refl (ends_so (Err why) ending.Ok ok does));
    cut_short = λ fault. absurd (no_ok (Err why) why refl (ends_so (Err why) ending.SinkFault fault does));
    broken = λ first other refused for.
        let same : why ≡ other = same_refusal (Err why) why other refl (ends_so (Err why) (ending.Refused other) refused does) in
        absurd (for_no_break first why apart (subst (IsBreakOf first) (sym same) for));
    breaks = breaks_so;
  }

  one_run : is_trace named ≡ true → IsOneRun files named status said says
  one_run trace =
      ⊎_elim
      (λ (t : (t : Traced) × IsTraced files named t). of_run t.0 t.1 (does_due files named heard (result_of t.0) status new said says (comes files named t.0 t.1) answers))
      (λ (apart : (why : Refusal) × (ordered files named ≡ Some (Err why)) × IsElse why). of_else apart.0 apart.2 (does_due files named heard (Err apart.0) status new said says apart.1 answers))
      (found files named trace)

  complete : (t : Traced) (store stored out written : ℕ) → IsTraced files named t → break_in t ≡ None
      → (status ≡ ending.StoreFault → Rose store stored) → (status ≡ ending.SinkFault → Rose out written) → IsComplete status store stored out written
  complete t store stored out written is none by_store by_out =
      complete_by files new said says store stored out written (result_of t) (only_text (report_in t)) status (no_break t none)
      (does_due files named heard (result_of t) status new said says (comes files named t is) answers) by_store by_out

pub traces_are_one_run : {X : Type 0} (hears : X → Heard → X → Type 0) → TracesAreOneRun hears
traces_are_one_run hears words files was now status new said says trace answers = one_run files (order_of words) (HearsAll hears was now) status new said says answers trace

pub traces_complete : {X : Type 0} (hears : X → Heard → X → Type 0) → TracesComplete hears
traces_complete hears words files t was now status new said says store stored out written is none answers by_store by_out =
    complete files (order_of words) (HearsAll hears was now) status new said says answers t store stored out written is none by_store by_out
