-- What the command that records puts, as the other commands read it.
use Rattle.std.specs.Prelude.{nat_lt, cond, if◌then◌else◌, IsOk}
use Rattle.std.specs.Ordering.{nat_cmp, eq_by_cmp}
use Rattle.std.specs.Cmp.Lexicographic.{slice_cmp}
use Rattle.std.specs.FinMap.{get, insert, get-insert}
use Rattle.std.proofs.Common.{◌≡◌, ℕ, Bool, true, false, List, [], length, Option, Some, None, Result, Ok, Err, refl, sym, ap, subst, ◌∙◌, arith}
use Rattle.std.proofs.lemmas.Bool.Decides.{nat_tests}
use Rattle.std.proofs.lemmas.Cmp.{eq_by_cmp_equiv, nat_list_cmp_total}
use Rattle.outside.specs.Files.{Files}
use Rattle.outside.specs.World.{Heard, HearsAll}
use Rattle.sl_model.specs.State.{State}
use Rattle.elf_image.specs.declared.image.Image.{Image}
use Rattle.call_log.specs.declared.breaks.Break.{Break}
use Rattle.rec_format.specs.declared.recording.Recording.{Recording}
use Rattle.rec_format.specs.declared.fault.RecFault.{RecFault}
use Rattle.rec_format.specs.Reading.{reading}
use Rattle.rec_format.specs.Spelling.{spelling, IsRecording}
use Rattle.rec_format.proofs.RecordingLaws.{reading_again}
use Rattle.replay.specs.Opening.{opening}
use Rattle.replay.specs.Breaks.{first_break}
use Rattle.call_recorder.specs.Recorded.{IsRecorded}
use Rattle.call_recorder.specs.Recut.{HasCheckpointsBy, recut_of}
use Rattle.call_recorder.proofs.Distances.{recut_of_itself}
use Rattle.cli_words.specs.Orders.{RecordOptions}
use Rattle.report.specs.declared.status.Refusal.{Refusal}
use Rattle.report.specs.declared.status.Refusal.TheVariants as refusal
use Rattle.report.specs.Report.{checked_line}
use Rattle.sledge_top.specs.Done.{Done, only_text, with_put}
use Rattle.sledge_top.specs.Files.{◌>>=◌, IMAGE_LIMIT, within, file_of, image_or_refusal, refused_by}
use Rattle.sledge_top.specs.Recordings.{RECORDING_LIMIT, recorded, recorded_in, image_of, recorded_as, put_recording}
use Rattle.sledge_top.specs.Replays.{replayed, replayed_alone, unless_broken}
use Rattle.sledge_top.specs.Traces.{check, replay}
use Rattle.sledge_top.specs.Recutting.{recut, recut_from}
use Rattle.sledge_top.specs.Recording.{source_of, RecordsProgram, RecordsImage, RecordsFile}
use Rattle.sledge_top.specs.Accepted.{IsAccepted, RecordingsAreAccepted}

differ : (done : Done) (why : Refusal) → Ok done ≡ Err why → ⊥
differ done why is = cc

-- ---- what is put

either : List ℕ → Recording → Bool → Result Done Refusal
either name rec is_large = (if is_large then Err (refusal.TooLarge (length (spelling rec))) else Ok (spelling rec)) >>= λ file. Ok (recorded_as name rec file)

-- a recording that was put has its spelling, which is not too long
pub record IsPut (name : List ℕ) (rec : Recording) (done : Done) : Type 0 where
  pub short : nat_lt RECORDING_LIMIT (length (spelling rec)) ≡ false
  pub is : done ≡ recorded_as name rec (spelling rec)

put_by : (name : List ℕ) (rec : Recording) (done : Done) (is_large : Bool) → nat_lt RECORDING_LIMIT (length (spelling rec)) ≡ is_large → Ok done ≡ either name rec is_large → IsPut name rec done
unfolding either
put_by name rec done true large is = absurd cc
put_by name rec done false large is = record { short = large; is = cc }

was_put : (name : List ℕ) (rec : Recording) (done : Done) → Ok done ≡ put_recording name rec → IsPut name rec done
unfolding either
was_put name rec done is = put_by name rec done (nat_lt RECORDING_LIMIT (length (spelling rec))) refl is

put_again : (name : List ℕ) (rec : Recording) → nat_lt RECORDING_LIMIT (length (spelling rec)) ≡ false → put_recording name rec ≡ Ok (recorded_as name rec (spelling rec))
unfolding either
put_again name rec short = ap (either name rec) short

-- ---- what is read of it

named_so : (name : List ℕ) → eq_by_cmp (slice_cmp nat_cmp) name name ≡ true
named_so name = (eq_by_cmp_equiv nat_list_cmp_total).refl name

got : (files : Files) (name bytes : List ℕ) → get (insert files name bytes) name ≡ Some bytes
got files name bytes = get-insert nat_list_cmp_total files name bytes name ∙ ap (λ b. cond b (Some bytes) (get files name)) (named_so name)

file_got : (files : Files) (name bytes : List ℕ) → nat_lt RECORDING_LIMIT (length bytes) ≡ false → file_of (insert files name bytes) name RECORDING_LIMIT ≡ Ok bytes
file_got files name bytes short =
    ap (within RECORDING_LIMIT name) (got files name bytes)
    ∙ ap (λ b. if b then Err (refusal.TooLong RECORDING_LIMIT name) else Ok bytes) short

-- the image that was recorded is the one that was given
same_image : (rec : Recording) (flat : Option ℕ) (bytes : List ℕ) → rec.kind ≡ (source_of flat bytes).kind → rec.load_addr ≡ (source_of flat bytes).load_addr → rec.image ≡ (source_of flat bytes).bytes
    → image_of rec ≡ image_or_refusal flat bytes
same_image rec None bytes kind address image = rw (kind, image) refl
same_image rec (Some at) bytes kind address image = rw (kind, address, image) refl

read_again : (rec : Recording) (program : Image) (bytes : List ℕ) → reading bytes ≡ Ok rec → image_of rec ≡ Ok program → recorded bytes ≡ Ok (rec, program)
read_again rec program bytes reads image =
    ap (λ (r : Result Recording RecFault). refused_by refusal.RecordingBroken r >>= λ (given : Recording). image_of given >>= λ (i : Image). Ok (given, i)) reads
    ∙ ap (λ (r : Result Image Refusal). r >>= λ (i : Image). Ok (rec, i)) image

read_in : (files : Files) (name bytes : List ℕ) (both : Recording × Image) → nat_lt RECORDING_LIMIT (length bytes) ≡ false → recorded bytes ≡ Ok both → recorded_in (insert files name bytes) name ≡ Ok both
read_in files name bytes both short reads = ap (λ (r : Result (List ℕ) Refusal). r >>= recorded) (file_got files name bytes short) ∙ reads

-- ---- what the commands come to

replays_on : (rec : Recording) (opened : State) (lines : List ℕ) (break : Option Break) → break ≡ None → IsOk (replayed rec opened lines break)
replays_on rec opened lines None none = refl
replays_on rec opened lines (Some first) none = absurd cc

text_made : (text : Result (List ℕ) Refusal) → IsOk text → IsOk (text >>= λ (t : List ℕ). Ok (only_text t))
text_made (Ok text) ok = refl
text_made (Err why) ok = absurd cc

alone : (rec : Recording) (opened : State) → first_break rec opened ≡ None → IsOk (replayed_alone rec opened)
unfolding replayed_alone
alone rec opened none = replays_on rec opened [] (first_break rec opened) none

checks : (files : Files) (name : List ℕ) (both : Recording × Image) → recorded_in files name ≡ Ok both → IsOk (check files name)
checks files name both reads = subst (λ (r : Result (Recording × Image) Refusal). IsOk (r >>= λ (b : Recording × Image). Ok (only_text (checked_line b.0)))) (sym reads) refl

replays : (files : Files) (name : List ℕ) (both : Recording × Image) → recorded_in files name ≡ Ok both → first_break both.0 (opening both.1 both.0.args) ≡ None → IsOk (replay files name)
replays files name both reads none =
    subst (λ (r : Result (Recording × Image) Refusal). IsOk (r >>= λ (b : Recording × Image). replayed_alone b.0 (opening b.1 b.0.args) >>= λ (t : List ℕ). Ok (only_text t))) (sym reads)
    (text_made (replayed_alone both.0 (opening both.1 both.0.args)) (alone both.0 (opening both.1 both.0.args) none))

recuts_from : (name : List ℕ) (every : ℕ) (rec : Recording) (opened : State) → first_break rec opened ≡ None → recut_of rec opened every ≡ rec → nat_lt RECORDING_LIMIT (length (spelling rec)) ≡ false
    → recut_from name every rec opened ≡ Ok (recorded_as name rec (spelling rec))
unfolding recut_from
recuts_from name every rec opened none same short =
    ap (λ (b : Option Break). unless_broken (recut_of rec opened every) b >>= put_recording name) none ∙ ap (put_recording name) same ∙ put_again name rec short

recuts : (files : Files) (name : List ℕ) (every : ℕ) (both : Recording × Image) (done : Done) → recorded_in files name ≡ Ok both → recut_from name every both.0 (opening both.1 both.0.args) ≡ Ok done → recut files name name every ≡ Ok done
recuts files name every both done reads is = ap (λ (r : Result (Recording × Image) Refusal). r >>= λ (b : Recording × Image). recut_from name every b.0 (opening b.1 b.0.args)) reads ∙ is

-- ---- all together

module _ (files : Files) (name : List ℕ) (options : RecordOptions) (heard : List Heard → Type 0) where
  of_run : (program : Image) (bytes : List ℕ) (rec : Recording) → image_or_refusal options.flat bytes ≡ Ok program
      → IsRecorded program (source_of options.flat bytes) options.arguments options.limit options.every heard rec
      → nat_lt RECORDING_LIMIT (length (spelling rec)) ≡ false → IsAccepted (insert files name (spelling rec)) name options.every (recorded_as name rec (spelling rec))
  of_run program bytes rec image is short =
      let both : Recording × Image = (rec, program) in
      let file : Files = insert files name (spelling rec) in
      let opens : opening program options.arguments ≡ opening program rec.args = ap (opening program) (sym is.args) in
      let none : first_break rec (opening program rec.args) ≡ None = subst (λ (s : State). first_break rec s ≡ None) opens is.unbroken in
      let same : recut_of rec (opening program rec.args) options.every ≡ rec = recut_of_itself rec (opening program rec.args) options.every (subst (λ (s : State). HasCheckpointsBy rec s options.every) opens is.checkpoints) in
      let spelled_so : IsRecording (spelling rec) rec = record { spelled = refl; value = is.value; size = grind (arith, nat_tests, short) } in
      let given : image_of rec ≡ Ok program = same_image rec options.flat bytes is.kind is.load_addr is.image ∙ image in
      let reads : recorded_in file name ≡ Ok both = read_in files name (spelling rec) both short (read_again rec program (spelling rec) (reading_again (spelling rec) rec spelled_so) given) in
      record {
        reads = (both, reads, none);
        checked = checks file name both reads;
        replayed = replays file name both reads none;
        cut_anew = recuts file name options.every both (recorded_as name rec (spelling rec)) reads (recuts_from name options.every rec (opening program rec.args) none same short);
      }

  of_program : (program : Image) (bytes : List ℕ) (done : Done) → image_or_refusal options.flat bytes ≡ Ok program → RecordsProgram program (source_of options.flat bytes) name options heard (Ok done)
      → IsAccepted (with_put files done.put) name options.every done
  unfolding RecordsProgram
  of_program program bytes done image comes =
      let put = was_put name comes.0 done comes.2 in
      subst (λ (d : Done). IsAccepted (with_put files d.put) name options.every d) (sym put.is) (of_run program bytes comes.0 image comes.1 put.short)

  of_image : (image : Result Image Refusal) (bytes : List ℕ) (done : Done) → image_or_refusal options.flat bytes ≡ image → RecordsImage image bytes name options heard (Ok done)
      → IsAccepted (with_put files done.put) name options.every done
  unfolding RecordsImage
  of_image (Err why) bytes done is comes = absurd (differ done why comes.0)
  of_image (Ok program) bytes done is comes = of_program program bytes done is comes

  of_file : (file : Result (List ℕ) Refusal) (done : Done) → RecordsFile file name options heard (Ok done) → IsAccepted (with_put files done.put) name options.every done
  of_file (Err why) done comes = absurd (differ done why comes.0)
  of_file (Ok bytes) done comes = of_image (image_or_refusal options.flat bytes) bytes done refl comes

pub accepted : {X : Type 0} (hears : X → Heard → X → Type 0) → RecordingsAreAccepted hears
accepted hears files image name options was now done comes = of_file files name options (HearsAll hears was now) (file_of files image IMAGE_LIMIT) done comes
