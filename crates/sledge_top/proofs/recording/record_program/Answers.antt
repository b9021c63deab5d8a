use Rattle.std.proofs.Common.{refl}
use Rattle.outside.specs.World.{HearsAll}
use Rattle.cli_words.specs.Views.{record_view}
use Rattle.sledge_top.specs.Recordings.{put_recording}
use Rattle.sledge_top.specs.Recording.{RecordsProgram}
use Rattle.sledge_top.proofs.Recorded.{due_so}
use Rattle.sledge_top.proofs.recording.record_program.Goals as goal

pub returns-clause-answer : goal.returns-clause-answer
unfolding RecordsProgram
returns-clause-answer g c =
    let a = c.args in
    let rec = c.in_ok-rec.rec in
    due_so (RecordsProgram a.image.now a.source a.output.now (record_view a.options.now) (HearsAll g.W.World.hears a.world.now c.run_over.new.world)) c.put_recording.result (put_recording a.output.now rec)
    c.put_recording.ensures.value (rec, c.in_ok-rec.ensures, refl)
