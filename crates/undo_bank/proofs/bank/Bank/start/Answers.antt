use Rattle.std.proofs.Common.{refl, ◌∙◌}
use Rattle.undo_bank.specs.Areas.{Areas, AreAreas}
use Rattle.undo_bank.proofs.StartLaws.{IsStarted-held, IsDense-sized}
use Rattle.undo_bank.proofs.bank.Bank.start.Goals as goal

pub returns-clause-started : goal.returns-clause-started
returns-clause-started c =
    let after : Areas = record {
      code = c.self.inside.code;
      frames = c.restart.new.self;
      log = c.restart-2.new.self;
      output = c.restart-3.new.self;
      last_log_len = c.self.inside.last_log_len;
    } in
    let frames_size = c.restart.ensures.size ∙ c.self.invariant.frames_size in
    let log_size = c.restart-2.ensures.size ∙ c.self.invariant.log_size in
    let output_size = c.restart-3.ensures.size ∙ c.self.invariant.output_size in
    let are : AreAreas after = record {
      code = c.self.invariant.code;
      frames = IsDense-sized c.restart.new.self _ refl frames_size c.restart.ensures.bytes;
      log = IsDense-sized c.restart-2.new.self _ refl log_size c.restart-2.ensures.bytes;
      output = IsDense-sized c.restart-3.new.self _ refl output_size c.restart-3.ensures.bytes;
      code_size = c.self.invariant.code_size;
      frames_size = frames_size;
      log_size = log_size;
      output_size = output_size;
    } in
    IsStarted-held c.args.copies.now after are c.restart.ensures.words c.restart-2.ensures.words c.restart-3.ensures.words
