use Rattle.std.proofs.Common.{◌≡◌, ◌+◌, ◌*◌, ◌^◌, ◌<◌, ◌≤◌, ◌++◌, length}
use Rattle.std.specs.Str.Lines.{lines}
use Rattle.rv_asm.specs.Places.{start, end_of}
use Rattle.rv_asm.specs.Labels.{labels_in}
use Rattle.rv_asm.proofs.survey.survey.Given as goal

abbrev pub invariant-loop-rest : goal.invariant-loop-rest
invariant-loop-rest l = record {
  within : length l.rest ≤ length l.source;
  counted : l.number + length l.rest ≤ length l.source + 1;
  text_near : l.place.text_size ≤ 2 ^ 35 * l.number;
  data_near : l.place.data_size ≤ 2 ^ 35 * l.number;
  labels : l.labels ++ labels_in l.place l.number (lines l.rest) ≡ labels_in start 1 (lines l.source);
  place : end_of l.place (lines l.rest) ≡ end_of start (lines l.source);
}

abbrev pub decreases-loop-rest : goal.decreases-loop-rest
decreases-loop-rest l = length l.rest
