-- What a command comes to that generates a program, by what its parts come to.
use Rattle.std.specs.Prelude.{◌==◌, if◌then◌else◌, codes, IsOk}
use Rattle.std.proofs.Common.{◌≡◌, ℕ, ◌^◌, ◌<◌, ◌≤◌, List, [], Option, Some, None, Result, Ok, Err, IfSome, refl, sym, ap, subst, ◌∙◌}
use Rattle.sl_base.specs.declared.refused.Refused.{Refused}
use Rattle.sl_base.specs.declared.refused.Refused.TheVariants as refused
use Rattle.sl_base.specs.Refusals.{Fails}
use Rattle.sl_model.specs.State.{State}
use Rattle.elf_image.specs.declared.image.Image.{Image}
use Rattle.elf_image.specs.declared.fault.ImageFault.{ImageFault}
use Rattle.elf_image.specs.Elf.{IsImage, image_of as image_in_file, unless, reading}
use Rattle.elf_image.proofs.ElfLaws.{no_fault, only_image}
use Rattle.call_log.specs.declared.breaks.Break.{Break}
use Rattle.rec_format.specs.declared.recording.Recording.{Recording}
use Rattle.tracer_lang.specs.Tree.{ScriptTree}
use Rattle.tracer_read.specs.Scripts.{script_of_text}
use Rattle.replay.specs.Opening.{opening}
use Rattle.replay.specs.Breaks.{first_break}
use Rattle.analysers.specs.declared.kind.Kind.{Kind}
use Rattle.analysers.specs.Pieces.{rows_of}
use Rattle.tracer_lang.specs.Firing.{records_at}
use Rattle.epoch_run.specs.Images.{image_in}
use Rattle.epoch_run.specs.Records.{records}
use Rattle.report.specs.Report.{analyses_lines}
use Rattle.rv_asm.specs.Assembly.{assembly}
use Rattle.workload.specs.Source.{source_text}
use Rattle.workload.specs.Laws.{sums_at, EveryProgramAssembles}
use Rattle.workload.specs.Generated.{IsGenerated}
use Rattle.report.specs.declared.status.Refusal.{Refusal}
use Rattle.report.specs.declared.status.Refusal.TheVariants as refusal
use Rattle.outside.specs.Files.{Files}
use Rattle.outside.specs.World.{Heard}
use Rattle.cli_words.specs.Orders.{Order, Gen}
use Rattle.sledge_top.specs.declared.done.Done.{Done as GivenDone}
use Rattle.sledge_top.specs.declared.failure.Failure.{Failure}
use Rattle.sledge_top.specs.declared.failure.Failure.TheVariants as failure
use Rattle.sledge_top.specs.Kinds.{kinds_of}
use Rattle.sledge_top.specs.Files.{◌>>=◌, refused_by}
use Rattle.sledge_top.specs.Recordings.{image_of}
use Rattle.sledge_top.specs.Replays.{report_of, replayed, traced}
use Rattle.sledge_top.specs.Traces.{script_of, traced_with}
use Rattle.sledge_top.specs.Generating.{traced_recording, GENERATED_SCRIPT, generated_words, GeneratesTo}
use Rattle.sledge_top.specs.Answer.{ComesTo}
use Rattle.sledge_top.specs.Done.{Done, only_text}
use Rattle.sledge_top.specs.Views.{done_view, ComesSo}

-- ---- a recording of a generated program, as it is traced

-- a file that is an image is read as it
read_so : (file : List ℕ) (image : Image) → IsImage file image → reading file ≡ Ok image
read_so file image is = ap (λ o. unless o (image_in_file file)) (no_fault file image is) ∙ ap Ok (sym (only_image file image is))

image_so : (rec : Recording) (image : Image) → rec.kind ≡ 1 → IsImage rec.image image → image_of rec ≡ Ok image
image_so rec image kind is =
    let elf : image_in rec ≡ Ok image = rw kind (read_so rec.image image is) in
    ap (λ (r : Result Image ImageFault). refused_by refusal.ImageBroken r) elf

-- a result is one value
ok_same : {A B : Type 0} (x y : A) (r : Result A B) → r ≡ Ok x → r ≡ Ok y → x ≡ y
ok_same x y (Ok z) first second =
    let a : z ≡ x = cc in
    let b : z ≡ y = cc in
    sym a ∙ b
ok_same x y (Err e) first second = absurd cc

-- what is in a result that is no error
record IsIn {A : Type 0} (r : Result A Refusal) : Type 0 where
  pub value : A
  pub is : r ≡ Ok value

is_in : {A : Type 0} (r : Result A Refusal) → IsOk r → IsIn r
is_in (Ok x) ok = record { value = x; is = refl }
is_in (Err why) ok = absurd cc

-- a replay that does not break has its report
traced_so : (rec : Recording) (script : ScriptTree) (kinds : List Kind) (opened : State) → first_break rec opened ≡ None → traced rec script kinds opened ≡ Ok (report_of rec script kinds opened)
unfolding traced
traced_so rec script kinds opened none = ap (λ (o : Option Break). replayed rec opened (analyses_lines 1 kinds (rows_of kinds (records rec (records_at script) opened))) o) none

with_kinds : (rec : Recording) (image : Image) (script : ScriptTree) (kinds : List Kind) (opened : State) → kinds_of generated_words ≡ Ok kinds → opening image rec.args ≡ opened → first_break rec opened ≡ None
    → traced_with rec image script generated_words ≡ Ok (only_text (report_of rec script kinds opened))
with_kinds rec image script kinds opened named opens none =
    ap (λ (r : Result (List Kind) Refusal). r >>= λ ks. traced rec script ks (opening image rec.args) >>= λ (t : List ℕ). Ok (only_text t)) named
    ∙ ap (λ (s : State). traced rec script kinds s >>= λ (t : List ℕ). Ok (only_text t)) opens
    ∙ ap (λ (r : Result (List ℕ) Refusal). r >>= λ (t : List ℕ). Ok (only_text t)) (traced_so rec script kinds opened none)

-- the report that is due, which is no refusal
pub record IsReported (seed size : ℕ) (rec : Recording) : Type 0 where
  pub done : Done
  pub traced : traced_recording rec ≡ Ok done
  pub generates : GeneratesTo seed size (Ok done)

pub is_reported : (seed size : ℕ) (rec : Recording) → seed < 2 ^ 32 → 1 ≤ size → size ≤ 1000000 → EveryProgramAssembles → IsGenerated seed size rec → IsReported seed size rec
unfolding traced_recording
is_reported seed size rec small some most every is =
    let all = every seed size small some most in
    let image = is.image in
    let opened : State = opening image [] in
    let here : all.image ≡ image = ok_same all.image image (assembly (source_text seed size)) all.assembled is.assembled in
    let script : ScriptTree = sums_at all.address in
    let read : script_of_text GENERATED_SCRIPT image.symbols ≡ Ok script = subst (λ (i : Image). script_of_text GENERATED_SCRIPT i.symbols ≡ Ok script) here all.script in
    let kinds = is_in (kinds_of generated_words) refl in
    let opens : opening image rec.args ≡ opened = ap (opening image) is.recorded.args in
    let given : image_of rec ≡ Ok image = image_so rec image is.recorded.kind is.reads in
    let scripted = ap (λ r. refused_by refusal.ScriptRefused r) read in
    record {
      done = only_text (report_of rec script kinds.value opened);
      traced =
          ap (λ (r : Result Image Refusal). r >>= λ (i : Image). script_of i GENERATED_SCRIPT >>= λ (t : ScriptTree). traced_with rec i t generated_words) given
          ∙ ap (λ (r : Result ScriptTree Refusal). r >>= λ (t : ScriptTree). traced_with rec image t generated_words) scripted
          ∙ with_kinds rec image script kinds.value opened kinds.is opens is.recorded.unbroken;
      generates = record {
        rec = rec;
        generated = is;
        script = script;
        read = read;
        kinds = kinds.value;
        named = kinds.is;
        reported = refl;
      };
    }

-- so it is with what was returned
pub generates_so : (seed size : ℕ) (rec : Recording) (done : GivenDone) → IsReported seed size rec → traced_recording rec ≡ Ok (done_view done) → GeneratesTo seed size (Ok (done_view done))
generates_so seed size rec done is gives =
    subst (λ (d : Done). GeneratesTo seed size (Ok d)) (ok_same is.done (done_view done) (traced_recording rec) is.traced gives) is.generates

pub never_refused : (seed size : ℕ) (rec : Recording) (why : Refused Refusal) (told : Refusal) → IsReported seed size rec → why ≡ refused.Fault told → Fails why (traced_recording rec) → ⊥
never_refused seed size rec why told is why_is fails =
    let gives : traced_recording rec ≡ Err told = subst (λ (w : Refused Refusal). Fails w (traced_recording rec)) why_is fails in
    let same : Ok is.done ≡ Err told = sym is.traced ∙ gives in
    cc

-- ---- of the command that an order names

-- a command of this kind, and what holds whatever it comes to
pub so_and : (Is : Result Done Refusal → Type 0) (More : Type 0) (result : Result GivenDone Failure) → ComesSo Is result → More → ComesSo (λ defined. Is defined × More) result
so_and Is More (Ok done) is more = (is, more)
so_and Is More (Err (failure.Refused why)) is more = (is, more)
so_and Is More (Err failure.StoreFault) is more = tt
so_and Is More (Err failure.Memory) is more = tt

-- over files that are told or not, and a world that was not asked
pub order_so : (order : Order) (seed size : ℕ) (told : Option Files) (heard : List Heard → Type 0) (result : Result GivenDone Failure) → order ≡ Gen seed size → heard []
    → ComesSo (GeneratesTo seed size) result → IfSome told (λ files. ComesSo (ComesTo files (Some order) heard) result)
order_so order seed size None heard result names nothing is = tt
order_so order seed size (Some files) heard result names nothing is =
    let so : ComesSo (ComesTo files (Some (Gen seed size)) heard) result = so_and (GeneratesTo seed size) (heard []) result is nothing in
    subst (λ o. ComesSo (ComesTo files (Some o) heard) result) (sym names) so
