use Rattle.std.proofs.Common.{length, subst, List, ℕ}
use Rattle.outside.specs.World.{Heard, IsAnswer, heard_by}
use Rattle.call_recorder.specs.Answered.{heard_of}
use Rattle.call_recorder.proofs.Due.{due_write, heard_write}
use Rattle.call_recorder.proofs.answering.written.Goals as goal

pub returns-clause-due : goal.returns-clause-due
returns-clause-due g c =
    let ask = c.args.ask in
    let outside = c.requires.outside in
    let writes = c.requires.writes in
    let range = subst (λ (l : List ℕ). IsAnswer ask.call (length l) 0 c.answer-answer.result) c.as_slice.ensures c.answer-answer.ensures.range in
    rw c.entry_of.ensures.parts (due_write ask c.answer-answer.result outside writes (c.requires.asks.gives_room outside writes) range)

pub returns-clause-heard : goal.returns-clause-heard
returns-clause-heard g c =
    let ask = c.args.ask in
    let answer = c.answer-answer.result in
    let heard = subst (λ (l : List ℕ). g.W.World.hears c.args.world.now (heard_by ask.call l 0 answer c.answer-answer.new.take) c.answer-answer.new.self) c.as_slice.ensures c.answer-answer.ensures.heard in
    let same = heard_write ask answer c.answer-answer.new.take c.requires.writes in
    rw c.entry_of.ensures.parts (subst (λ (h : Heard). g.W.World.hears c.args.world.now h c.answer-answer.new.self) same heard)
