use Rattle.std.proofs.Common.{◌≡◌, ◌*◌, ◌<◌, length, take}
use Rattle.std.specs.List.{All}
use Rattle.undo_bank.specs.Dense.{HoldsWords}
use Rattle.undo_bank.proofs.area.Area.restart.Given as goal

abbrev pub invariant-loop-word : goal.invariant-loop-word
invariant-loop-word l = record {
  words : HoldsWords (take l.word-index l.words) l.self;
  size : length l.self ≡ length l.fn.self;
  bytes : All (λ b. b < 256) l.self;
  offset : l.offset ≡ 4 * l.word-index;
}
