use Rattle.std.proofs.Common.{◌≡◌, ◌++◌, None, ◌∙◌}
use Rattle.std.proofs.lemmas.Result.{err_from_is_err_and}
use Rattle.elf_image.specs.Header.{header_checks}
use Rattle.elf_image.specs.Segments.{segment_checks}
use Rattle.elf_image.specs.Symbols.{symbol_checks}
use Rattle.elf_image.specs.Elf.{checks}
use Rattle.elf_image.specs.Checks.{first_failing}
use Rattle.elf_image.proofs.CheckLaws.{refuses_early, refuses_later, first_failing-later}
use Rattle.elf_image.proofs.reading.image.Goals as goal

pub returns-in_err-segments-clause-told : goal.returns-in_err-segments-clause-told
unfolding checks
returns-in_err-segments-clause-told c =
    let p = err_from_is_err_and c.from_residual-in_err-segments.result c.from_residual-in_err-segments.ensures.1 in
    let file = c.args.file.now in
    let e = c.in_err-segments.field-0.0 in
    rw (p.1, p.2) (refuses_early e (header_checks file ++ segment_checks file) (symbol_checks file) (refuses_later e (header_checks file) (segment_checks file) c.in_ok-header.ensures.told c.in_err-segments.ensures.told))

pub returns-in_err-symbols-clause-told : goal.returns-in_err-symbols-clause-told
unfolding checks
returns-in_err-symbols-clause-told c =
    let p = err_from_is_err_and c.from_residual-in_err-symbols.result c.from_residual-in_err-symbols.ensures.1 in
    let file = c.args.file.now in
    let e = c.in_err-symbols.field-0.0 in
    let before : first_failing (header_checks file ++ segment_checks file) ≡ None = first_failing-later (header_checks file) (segment_checks file) c.in_ok-header.ensures.told ∙ c.in_ok-segments.ensures.told in
    rw (p.1, p.2) (refuses_later e (header_checks file ++ segment_checks file) (symbol_checks file) before c.in_err-symbols.ensures.told)

pub returns-clause-told : goal.returns-clause-told
unfolding checks
returns-clause-told c =
    let file = c.args.file.now in
    let before : first_failing (header_checks file ++ segment_checks file) ≡ None = first_failing-later (header_checks file) (segment_checks file) c.in_ok-header.ensures.told ∙ c.in_ok-segments.ensures.told in
    first_failing-later (header_checks file ++ segment_checks file) (symbol_checks file) before ∙ c.in_ok-symbols.ensures.told
