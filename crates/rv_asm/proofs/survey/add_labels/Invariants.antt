use Rattle.std.proofs.Common.{◌≡◌, ◌++◌, ◌≤◌, length, map}
use Rattle.asm_text.specs.Lines.{labels_within, labels_of}
use Rattle.rv_asm.specs.Labels.{label_at}
use Rattle.rv_asm.proofs.survey.add_labels.Given as goal

abbrev pub invariant-loop-name : goal.invariant-loop-name
invariant-loop-name l =
    l.labels ++ map (label_at l.fn.place l.number) (labels_within (length l.code) l.code)
    ≡ l.initial.labels ++ map (label_at l.fn.place l.number) (labels_of l.line)

abbrev pub decreases-loop-name : goal.decreases-loop-name
decreases-loop-name l = length l.code
