use Rattle.std.proofs.Common.{◌∙◌, ap}
use Rattle.replay.specs.Opening.{round_up, highest_end}
use Rattle.replay.proofs.LoadedSteps.{opened_at}
use Rattle.replay.proofs.loading.open_machine.Goals as goal

pub returns : goal.returns
returns c =
    let starts = c.layout_of-layout.ensures.start ∙ ap (λ segments. round_up 4096 (highest_end segments)) c.as_slice.ensures in
    opened_at c.args.image.now c.args.args.now c.stack_pointer.result c.layout_of-layout.result c.stack_pointer.ensures starts c.layout_of-layout.ensures.limit
