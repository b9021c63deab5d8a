use Rattle.std.proofs.Common.{◌≡◌, ◌*◌, ◌%◌, ◌^◌}
use Rattle.std.proofs.lemmas.Nat.{or_shifted}
use Rattle.std.proofs.Math.Nat.{mod-eq_of_lt}
use Rattle.rv_decode.proofs.fields.joined.Goals as goal

pub returns : goal.returns
returns c = let whole : c.args.high * 2 ^ c.args.width % 4294967296 ≡ c.args.high * 2 ^ c.args.width = mod-eq_of_lt c.requires.high in rw whole (or_shifted _ _ _ c.requires.low)
