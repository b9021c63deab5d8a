use Rattle.std.proofs.Common.{◌≤◌, length, arith}
use Rattle.std.proofs.lemmas.List.Sums.{prefix_len-le-length}
use Rattle.asm_text.specs.Bytes.{is_blank}
use Rattle.asm_text.proofs.bytes.without_front_blanks.Goals as goal

pub slice_bounds-result-count : goal.slice_bounds-result-count
slice_bounds-result-count c = omega (arith, c.front_blanks.ensures, prefix_len-le-length is_blank c.args.bytes.now)

pub slice_bounds-result-start : goal.slice_bounds-result-start
slice_bounds-result-start c = omega (arith, c.front_blanks.ensures, prefix_len-le-length is_blank c.args.bytes.now)
