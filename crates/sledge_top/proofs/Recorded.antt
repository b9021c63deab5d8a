-- What a command comes to that records, by what its parts come to.
use Rattle.std.proofs.Common.{◌≡◌, ℕ, List, [], Result, Ok, Err, refl, sym, subst}
use Rattle.sl_base.specs.declared.refused.Refused.{Refused}
use Rattle.sl_base.specs.declared.refused.Refused.TheVariants as refused
use Rattle.outside.specs.World.{Heard}
use Rattle.sl_base.specs.Refusals.{Fails, Gives}
use Rattle.elf_image.specs.declared.image.Image.{Image}
use Rattle.cli_words.specs.Orders.{RecordOptions}
use Rattle.report.specs.declared.status.Refusal.{Refusal}
use Rattle.sledge_top.specs.declared.done.Done.{Done as GivenDone}
use Rattle.sledge_top.specs.Done.{Done}
use Rattle.sledge_top.specs.Recording.{RecordsProgram, RecordsImage, source_of}
use Rattle.sledge_top.specs.Views.{done_view, MaySo}

-- what was returned is what is due, which is of this kind
pub due_so : (Is : Result Done Refusal → Type 0) (result : Result GivenDone (Refused Refusal)) (due : Result Done Refusal) → Gives done_view result due → Is due → MaySo Is result
due_so Is (Ok done) due gives is = subst Is gives is
due_so Is (Err (refused.Fault why)) due gives is = subst Is gives is
due_so Is (Err refused.Memory) due gives is = tt

-- no image
pub image_refused : (why : Refused Refusal) (image : Result Image Refusal) (bytes output : List ℕ) (options : RecordOptions) (heard : List Heard → Type 0) → Fails why image → heard []
    → MaySo (RecordsImage image bytes output options heard) (Err why)
unfolding RecordsImage
image_refused refused.Memory image bytes output options heard fails none = tt
image_refused (refused.Fault why) image bytes output options heard fails none = subst (λ i. RecordsImage i bytes output options heard (Err why)) (sym fails) (refl, none)

-- an image
pub image_recorded : (result : Result GivenDone (Refused Refusal)) (image : Result Image Refusal) (given : Image) (bytes output : List ℕ) (options : RecordOptions) (heard : List Heard → Type 0) → image ≡ Ok given
    → MaySo (RecordsProgram given (source_of options.flat bytes) output options heard) result → MaySo (RecordsImage image bytes output options heard) result
unfolding RecordsImage
image_recorded result image given bytes output options heard is so = subst (λ i. MaySo (RecordsImage i bytes output options heard) result) (sym is) so
