use Rattle.std.proofs.Common.{◌≡◌, ◌++◌, length, take}
use Rattle.std.specs.List.{flat_map}
use Rattle.rec_format.specs.Spelling.{word, sized}
use Rattle.rec_format.proofs.writing.put_args.Given as goal

abbrev pub invariant-loop-arg : goal.invariant-loop-arg
invariant-loop-arg l = l.out.items ≡ l.fn.out.items ++ word (length l.args) ++ flat_map sized (take l.arg-index l.args)
