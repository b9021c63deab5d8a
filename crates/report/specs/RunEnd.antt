-- The recorded end of a run.
use Rattle.std.specs.Prelude.{◌∷◌}
use Rattle.rec_format.specs.declared.recording.Recording.{Recording}
use Rattle.report.specs.declared.run_end.RunEnd.{RunEnd}

-- as the recording has it; register x0 is not recorded, since it is 0
abbrev pub recorded_end : Recording → RunEnd
recorded_end rec = record {
  end = rec.end;
  count = rec.last.count;
  pc = rec.last.pc;
  x = 0 ∷ rec.last.x;
}
