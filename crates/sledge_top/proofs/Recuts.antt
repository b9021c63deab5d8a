-- A recording that replays without a break, with other checkpoints.
use Rattle.std.proofs.Common.{◌≡◌, ℕ, Option, Some, None, Ok, sym, ap, ◌∙◌}
use Rattle.sl_base.specs.declared.refused.Refused.{Refused}
use Rattle.sl_base.specs.declared.refused.Refused.TheVariants as refused
use Rattle.sl_base.specs.Refusals.{Fails}
use Rattle.elf_image.specs.declared.image.Image.{Image}
use Rattle.call_log.specs.declared.breaks.Break.{Break}
use Rattle.rec_format.specs.declared.recording.Recording.{Recording}
use Rattle.replay.specs.Opening.{opening}
use Rattle.replay.specs.Breaks.{first_break}
use Rattle.call_recorder.specs.Recut.{recut_of}
use Rattle.report.specs.declared.status.Refusal.{Refusal}
use Rattle.sledge_top.specs.Replays.{unless_broken}
use Rattle.sledge_top.specs.Recutting.{recut_by}

-- a break refuses whatever the recording is used for
fails_alike : {A B : Type 0} (why : Refused Refusal) (x : A) (y : B) (break : Option Break) → Fails why (unless_broken x break) → Fails why (unless_broken y break)
fails_alike refused.Memory x y break fails = tt
fails_alike (refused.Fault why) x y None fails = absurd cc
fails_alike (refused.Fault why) x y (Some first) fails = cc

pub recut_fails : (every : ℕ) (rec : Recording) (image : Image) (why : Refused Refusal) → Fails why (unless_broken {A = Recording × Image} (rec, image) (first_break rec (opening image rec.args))) → Fails why (recut_by every rec (opening image rec.args))
recut_fails every rec image why fails = fails_alike why (rec, image) (recut_of rec (opening image rec.args) every) (first_break rec (opening image rec.args)) fails

recut_alike : (every : ℕ) (both given : Recording × Image) (break : Option Break) (new : Recording) → unless_broken both break ≡ Ok given → new ≡ recut_of given.0 (opening given.1 given.0.args) every
    → unless_broken (recut_of both.0 (opening both.1 both.0.args) every) break ≡ Ok new
recut_alike every both given None new was is =
    let same : both ≡ given = cc in
    ap (λ (b : Recording × Image). Ok (recut_of b.0 (opening b.1 b.0.args) every)) same ∙ ap Ok (sym is)
recut_alike every both given (Some first) new was is = absurd cc

pub recut_whole : (every : ℕ) (rec : Recording) (image : Image) (given : Recording × Image) (new : Recording) → unless_broken {A = Recording × Image} (rec, image) (first_break rec (opening image rec.args)) ≡ Ok given
    → new ≡ recut_of given.0 (opening given.1 given.0.args) every → recut_by every rec (opening image rec.args) ≡ Ok new
recut_whole every rec image given new was is = recut_alike every (rec, image) given (first_break rec (opening image rec.args)) new was is
