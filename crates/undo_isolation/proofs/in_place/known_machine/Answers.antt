use Rattle.std.proofs.Common.{sym, subst, rules}
use Rattle.std.proofs.lemmas.List.Elements.{All-from_get_or, recursion_from_All}
use Rattle.sl_model.specs.State.{IsStatus}
use Rattle.sl_model.specs.Words.{IsWord}
use Rattle.undo_isolation.proofs.in_place.known_machine.Goals as goal

pub returns : goal.returns
returns c = λ pages are. record {
  pc = search rules;
  registers = search rules;
  words = recursion_from_All IsWord _ (All-from_get_or IsWord c.args.m.x 0 (λ i within. search rules));
  zero = c.args.m.zero;
  pages = are;
  brk = search rules;
  brk_end = search rules;
  next_call = search rules;
  status = subst IsStatus (sym c.requires) tt;
  count = search rules;
  layout = record { brk_start = search rules; heap_limit = search rules };
}
