use Rattle.std.proofs.Common.{List, ℕ, refl, sym, ap, subst, ◌∙◌}
use Rattle.std.proofs.lemmas.Result.{err_from_is_err_and}
use Rattle.sl_base.specs.Refusals.{Fails}
use Rattle.outside.specs.World.{HearsAll}
use Rattle.outside.proofs.Hearing.{hears_none}
use Rattle.cli_words.specs.Views.{record_view}
use Rattle.sledge_top.specs.Files.{image_or_refusal}
use Rattle.sledge_top.specs.Recording.{RecordsProgram}
use Rattle.sledge_top.specs.Views.{MaySo}
use Rattle.sledge_top.proofs.Recorded.{image_refused, image_recorded}
use Rattle.sledge_top.proofs.recording.record_bytes.Goals as goal

pub returns-in_err-image-clause-answer : goal.returns-in_err-image-clause-answer
returns-in_err-image-clause-answer g c =
    let a = c.args in
    let flat = a.options.now.flat in
    let why = c.in_err-image.field-0.0 in
    let p = err_from_is_err_and c.from_residual.result c.from_residual.ensures.1 in
    let fails = subst (λ (bytes : List ℕ). Fails why (image_or_refusal flat bytes)) c.deref.ensures.value c.in_err-image.ensures.value in
    rw (p.1, p.2) (image_refused why (image_or_refusal flat a.bytes.items) a.bytes.items a.output.now (record_view a.options.now) (HearsAll g.W.World.hears a.world.now a.world.now) fails (hears_none g.W.World.hears a.world.now a.world.now refl))

pub returns-clause-answer : goal.returns-clause-answer
returns-clause-answer g c =
    let a = c.args in
    let options = record_view a.options.now in
    let heard = HearsAll g.W.World.hears a.world.now c.record_program.new.world in
    let image = c.in_ok-image.image in
    let result = c.record_program.result in
    let is = ap (image_or_refusal options.flat) (sym c.deref.ensures.value) ∙ c.in_ok-image.ensures.value in
    let so = subst (λ source. MaySo (RecordsProgram image source a.output.now options heard) result) c.source_of-source.ensures.value c.record_program.ensures.answer in
    image_recorded result (image_or_refusal options.flat a.bytes.items) image a.bytes.items a.output.now options heard is so
