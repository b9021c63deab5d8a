use Rattle.std.specs.Prelude.{◌*◌}
use Rattle.std.proofs.Common.{◌≡◌, ◌+◌, ◌<◌, ◌≤◌, None, arith, subst}
use Rattle.std.proofs.lemmas.Result.{err_from_is_err_and}
use Rattle.elf_image.specs.Checks.{first_failing, Refuses}
use Rattle.elf_image.specs.Header.{e_phoff, e_phnum}
use Rattle.elf_image.specs.Segments.{program_header, with_header, one_header_checks}
use Rattle.elf_image.proofs.HeaderLoop.{one_more, stops, all_passed}
use Rattle.elf_image.proofs.segments.each_header.Goals as goal

pub returns-in_err-one_header-clause-told : goal.returns-in_err-one_header-clause-told
returns-in_err-one_header-clause-told c =
    let p = err_from_is_err_and c.from_residual.result c.from_residual.ensures.1 in
    let file = c.args.file.now in
    let l = c.loop-index in
    let e = c.in_err-one_header.field-0.0 in
    let place : c.word-phoff.result + c.from.result * c.from-in-loop-index.result ≡ e_phoff file + 32 * l.index = grind arith in
    let more : l.index < e_phnum file = grind arith in
    rw (p.1, p.2) (stops file l.loaded l.pages l.index l.invariant e more (subst (λ n. Refuses e (one_header_checks file l.loaded (program_header file n))) place c.in_err-one_header.ensures.told))

pub loop-index-preserved : goal.loop-index-preserved
loop-index-preserved c =
    let file = c.args.file.now in
    let l = c.loop-index in
    let told = c.in_ok-one_header.ensures in
    let place : c.word-phoff.result + c.from.result * c.from-in-loop-index.result ≡ e_phoff file + 32 * l.index = grind arith in
    let more : l.index < e_phnum file = grind arith in
    one_more file l.loaded l.pages l.index l.invariant c.one_header.new.loaded c.one_header.new.pages more
    (subst (λ n. first_failing (one_header_checks file l.loaded (program_header file n)) ≡ None) place told.told)
    (subst (λ n. c.one_header.new.loaded ≡ with_header file l.loaded (program_header file n)) place told.added)
    told.pages

pub returns-clause-told : goal.returns-clause-told
returns-clause-told c =
    let file = c.args.file.now in
    let l = c.loop-index in
    let end : e_phnum file ≤ l.index = grind arith in
    all_passed file l.loaded l.pages l.index l.invariant end
