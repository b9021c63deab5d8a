-- A world that has no replies has none afterwards.
use Rattle.std.proofs.Common.{◌≡◌, sym, subst, ◌∙◌, List, [], Ok, Err, IfOk, ℕ}
use Rattle.std.proofs.Math.Seq.{drop-nil}
use Rattle.std.specs.Prelude.{Result}
use Rattle.sl_base.specs.declared.refused.Memory.{Memory}
use Rattle.outside.specs.declared.world.Reply.{Reply}
use Rattle.outside.specs.World.{Heard, GetsReply, HearsAll}
use Rattle.outside.proofs.Hearing.{replies_in_order}
use Rattle.elf_image.specs.declared.image.Image.{Image}
use Rattle.elf_image.specs.Elf.{IsImage}
use Rattle.elf_image.specs.Written.{written}
use Rattle.rec_format.specs.declared.recording.Recording.{Recording}
use Rattle.call_recorder.specs.declared.source.ImageSource.{ImageSource}
use Rattle.call_recorder.specs.Recorded.{IsRecorded}
use Rattle.workload.specs.Generated.{LIMIT, file_of, IsRecordedRun}

recorded : (image : Image) (size : ℕ) (now : List Reply) (rec : Recording)
    → IsRecorded image (file_of image) [] LIMIT size (HearsAll GetsReply [] now) rec → IsRecordedRun image size rec
recorded image size now rec is =
    let none : now ≡ [] = (replies_in_order [] now _ is.world).0 ∙ drop-nil _ in
    subst (λ x. IsRecorded image (file_of image) [] LIMIT size (HearsAll GetsReply [] x) rec) none is

-- the recording of a file with these bytes, over a world with these replies
pub silent : (image : Image) (file : List ℕ) (args : List (List ℕ)) (every size : ℕ)
    (before now : List Reply) (result : Result Recording Memory)
    → file ≡ written image → args ≡ [] → every ≡ size → before ≡ []
    → IfOk result (IsRecorded image (record { kind = 1; load_addr = 0; bytes = file }) args LIMIT every
    (HearsAll GetsReply before now))
    → IfOk result (IsRecordedRun image size)
silent image file args every size before now (Ok rec) file_is args_are every_is none is =
    let source : List ℕ → ImageSource = λ bytes. record { kind = 1; load_addr = 0; bytes = bytes } in
    recorded image size now rec (
    subst (λ x. IsRecorded image (source x) [] LIMIT size (HearsAll GetsReply [] now) rec) file_is (
    subst (λ x. IsRecorded image (source file) x LIMIT size (HearsAll GetsReply [] now) rec) args_are (
    subst (λ x. IsRecorded image (source file) args LIMIT x (HearsAll GetsReply [] now) rec) every_is (
    subst (λ x. IsRecorded image (source file) args LIMIT every (HearsAll GetsReply x now) rec) none is)))
    )
silent image file args every size before now (Err why) file_is args_are every_is none is = tt

-- and its file is read as the image
pub reads_so : (image : Image) (file : List ℕ) (args : List (List ℕ)) (every : ℕ) (heard : List Heard → Type 0) (result : Result Recording Memory)
    → IsImage file image
    → IfOk result (IsRecorded image (record { kind = 1; load_addr = 0; bytes = file }) args LIMIT every heard)
    → IfOk result (λ rec. IsImage rec.image image)
reads_so image file args every heard (Ok rec) reads is = subst (λ bytes. IsImage bytes image) (sym is.image) reads
reads_so image file args every heard (Err why) reads is = tt
