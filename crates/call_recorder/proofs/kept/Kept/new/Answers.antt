use Rattle.std.specs.Ordering.{nat_cmp}
use Rattle.std.specs.BTreeMap.{get}
use Rattle.std.proofs.Common.{◌≡◌, ℕ, None, refl, arith}
use Rattle.std.proofs.lemmas.Grind.{common_steps}
use Rattle.call_recorder.proofs.Starts.{starts}
use Rattle.call_recorder.proofs.kept.Kept.new.Goals as goal

pub returns : goal.returns
returns c = λ f same. starts _ f (record {
  checkpoints = c.new-2.ensures;
  listed = λ q. grind (arith, common_steps);
  room = refl;
  going = refl;
}) same
