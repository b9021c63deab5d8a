use Rattle.std.proofs.Common.{rules}
use Rattle.std.proofs.lemmas.List.Elements.{All-from_get_or, recursion_from_All}
use Rattle.sl_model.specs.Words.{IsWord}
use Rattle.call_recorder.proofs.answering.entry_of.Goals as goal

pub returns-clause-is : goal.returns-clause-is
returns-clause-is c = record {
  number = search rules;
  args = record {
    number = search rules;
    each = recursion_from_All IsWord c.args.call.args (All-from_get_or IsWord c.args.call.args 0 (λ i within. search rules));
  };
  result = search rules;
  bytes = c.requires;
}
