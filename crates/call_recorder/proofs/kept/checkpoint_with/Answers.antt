use Rattle.std.specs.Prelude.{drop}
use Rattle.std.proofs.Common.{◌≡◌, length, ◌∙◌, arith, rules}
use Rattle.std.proofs.lemmas.List.{take_all, length-drop}
use Rattle.call_recorder.proofs.PageLists.{last_changed}
use Rattle.call_recorder.proofs.Offers.{offered_kept}
use Rattle.call_recorder.proofs.Traps.{is_trap-step}
use Rattle.call_recorder.proofs.Unbroken.{does_not_break}
use Rattle.call_recorder.proofs.Cuts.{are_cut}
use Rattle.std.proofs.lemmas.List.Elements.{All-from_get_or, All-drop, All-same, recursion_from_All}
use Rattle.sl_model.specs.Words.{IsWord}
use Rattle.call_recorder.proofs.kept.checkpoint_with.Goals as goal
use Rattle.call_recorder.proofs.kept.checkpoint_with.Goals.{After-x-2-1}

x_is : (c : After-x-2-1) → c.copy_from_slice.new.self ≡ drop 1 c.args.m.now.x
x_is c =
    let m = c.args.m.now in
    let long : length m.x ≡ 32 = search rules in
    c.copy_from_slice.ensures.after ∙ take_all 31 (drop 1 m.x) (omega (arith, length-drop 1 m.x, long))

pub returns-clause-data : goal.returns-clause-data
returns-clause-data c = λ pages.
    let m = c.args.m.now in
    let x = x_is c in
    λ i. record { count = m.count; pc = m.pc; x = x i; brk = m.brk; brk_end = m.brk_end; next_call = m.next_call; pages = c.args.pages }

pub returns-clause-is : goal.returns-clause-is
returns-clause-is c = λ count each few rising. record {
  count = count;
  pc = search rules;
  x = record { number = search rules; each = recursion_from_All IsWord _ (All-same IsWord c.copy_from_slice.new.self (drop 1 c.args.m.now.x) (x_is c) (All-drop IsWord 1 c.args.m.now.x (All-from_get_or IsWord c.args.m.now.x 0 (λ i within. search rules)))) };
  brk = search rules;
  brk_end = search rules;
  next_call = search rules;
  number_of_pages = few;
  each_page = each;
  pages_rise = rising;
}
