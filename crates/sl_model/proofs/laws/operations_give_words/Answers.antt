use Rattle.sl_model.proofs.Values.{IsWord-immediate_value, IsWord-register_value}
use Rattle.sl_model.proofs.laws.operations_give_words.Goals as goal

pub returns-clause-immediate : goal.returns-clause-immediate
returns-clause-immediate c = IsWord-immediate_value

pub returns-clause-register : goal.returns-clause-register
returns-clause-register c = IsWord-register_value
