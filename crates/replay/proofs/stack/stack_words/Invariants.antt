use Rattle.std.specs.Prelude.{◌≡◌, ◌≤◌, ◌+◌, ◌++◌, length, drop, replicate}
use Rattle.std.specs.List.{flat_map}
use Rattle.sl_model.specs.declared.layout.TheConstants.{STACK_END}
use Rattle.sl_model.specs.Pages.{low_bytes}
use Rattle.replay.specs.Opening.{strings, string_addresses, stack_words}
use Rattle.replay.proofs.stack.stack_words.Given as goal

abbrev pub invariant-loop-arg : goal.invariant-loop-arg
invariant-loop-arg l = record {
  rest : l.words.items ++ (flat_map (low_bytes 4) (string_addresses l.address (drop l.arg-index l.args)) ++ replicate 16 0) ≡ flat_map (low_bytes 4) (stack_words l.args);
  within : l.address + length (strings (drop l.arg-index l.args)) ≤ STACK_END;
}
