use Rattle.std.proofs.Common.{◌∙◌}
use Rattle.workload.proofs.Silent.{silent, reads_so}
use Rattle.workload.proofs.generating.recording_of.Goals as goal

pub returns-clause-recorded : goal.returns-clause-recorded
returns-clause-recorded c =
    silent c.args.image.now _ _ _ c.args.size _ _ c.record_run.result
    (c.from_vec.ensures ∙ c.in_ok-write_image.ensures.written) c.new-args.ensures
    c.from-every.ensures (c.new-world.ensures ∙ c.new.ensures.items) c.record_run.ensures

pub returns-clause-reads : goal.returns-clause-reads
returns-clause-reads c =
    reads_so c.args.image.now _ _ _ _ c.record_run.result (rw c.from_vec.ensures c.in_ok-write_image.ensures.read_back) c.record_run.ensures
