use Rattle.std.proofs.Common.{◌<◌, ◌^◌, ◌∙◌, ◌+◌, ◌*◌, arith, rules}
use Rattle.tree_frames.proofs.Loaded.{no_bytes, no_first, no_rest, number, number_fits, word_fits}
use Rattle.tree_frames.proofs.frames.TreeFrames.+load_across.Goals as goal

pub returns-then-count-eq0-clause-value : goal.returns-then-count-eq0-clause-value
returns-then-count-eq0-clause-value t c = no_bytes c.args.self.now.pages c.args.addr c.args.count c.if-count-eq0.true

pub returns-in_err-byte-clause-value : goal.returns-in_err-byte-clause-value
returns-in_err-byte-clause-value t c = c.from_residual.ensures ∙ no_first c.args.self.now.pages c.args.addr c.args.count (omega arith) c.in_err-byte.ensures

pub returns-in_err-rest-clause-value : goal.returns-in_err-rest-clause-value
returns-in_err-rest-clause-value t c =
    c.from_residual-in_err-rest.ensures ∙ no_rest c.args.self.now.pages c.args.addr c.args.count c.in_ok-byte.byte (omega arith) c.in_ok-byte.ensures c.in_err-rest.ensures.value

pub overflow_mul-result : goal.overflow_mul-result
overflow_mul-result t c =
    let fits = number_fits c.args.count 0 c.in_ok-rest.rest (omega arith) (omega arith) c.in_ok-rest.ensures.fits in
    let word : 0 + 256 * c.in_ok-rest.rest < 2 ^ 32 = word_fits c.args.count (0 + 256 * c.in_ok-rest.rest) c.requires.few fits in
    grind arith

pub overflow_add-result : goal.overflow_add-result
overflow_add-result t c =
    let small : c.from.result < 256 = search rules in
    let word : c.from.result + 256 * c.in_ok-rest.rest < 2 ^ 32 =
    word_fits c.args.count (c.from.result + 256 * c.in_ok-rest.rest) c.requires.few (number_fits c.args.count c.from.result c.in_ok-rest.rest (omega arith) small c.in_ok-rest.ensures.fits) in
    grind arith

pub returns-clause-value : goal.returns-clause-value
returns-clause-value t c = rw c.from.ensures (number c.args.self.now.pages c.args.addr c.args.count c.in_ok-byte.byte c.in_ok-rest.rest (omega arith) c.in_ok-byte.ensures c.in_ok-rest.ensures.value)

pub returns-clause-fits : goal.returns-clause-fits
returns-clause-fits t c =
    let small : c.from.result < 256 = search rules in
    number_fits c.args.count c.from.result c.in_ok-rest.rest (omega arith) small c.in_ok-rest.ensures.fits
