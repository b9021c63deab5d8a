use Rattle.std.proofs.Common.{◌≡◌, length, List, ℕ, subst, rules, arith}
use Rattle.outside.specs.World.{IsAnswer}
use Rattle.call_recorder.proofs.Due.{due_read}
use Rattle.call_recorder.proofs.answering.brought.Goals as goal

pub returns-clause-due : goal.returns-clause-due
returns-clause-due g c =
    let ask = c.args.ask in
    let room = c.deref.result.now in
    let a = c.deref_mut.ensures in let b = c.answer-answer.auto in let d = c.deref.ensures in let e = c.in_ok-room.ensures.len in let size : length room ≡ ask.room = omega (arith, e, d.len, a.len, a.writes_back) in
    let same : length c.deref_mut.result.now ≡ length room = search rules in
    let given = subst (λ (l : List ℕ). IsAnswer ask.call (length l) (length c.deref_mut.result.now) c.answer-answer.result) c.as_slice.ensures c.answer-answer.ensures.range in
    let range = subst (λ n. IsAnswer ask.call (length ask.give) n c.answer-answer.result) same given in
    rw c.entry_of.ensures.parts (due_read ask c.answer-answer.result room c.in_ok-bytes.bytes c.requires.outside c.requires.reads size range c.in_ok-bytes.ensures)
