use Rattle.std.specs.Prelude.{nat_lt}
use Rattle.std.proofs.Common.{◌≡◌, [], ◌∷◌, None, length, arith, subst, ◌∙◌}
use Rattle.std.proofs.lemmas.Result.{err_from_is_err_and}
use Rattle.std.proofs.lemmas.Grind.{common_steps}
use Rattle.elf_image.specs.declared.check.Check.{Check}
use Rattle.elf_image.specs.declared.fault.ImageCause.TheVariants.{SegmentRange}
use Rattle.elf_image.specs.Checks.{check, first_failing, Refuses}
use Rattle.elf_image.specs.Segments.{each_header_checks, program_headers, segments}
use Rattle.elf_image.proofs.CheckLaws.{refuses_early, refuses_later, first_failing-later}
use Rattle.elf_image.proofs.segments.segments.Goals as goal

pub returns-in_err-each_header-clause-told : goal.returns-in_err-each_header-clause-told
returns-in_err-each_header-clause-told c =
    let p = err_from_is_err_and c.from_residual.result c.from_residual.ensures.1 in
    let file = c.args.file.now in
    rw (p.1, p.2) (refuses_early c.in_err-each_header.field-0.0 (each_header_checks file [] (program_headers file)) (check (nat_lt 0 (length (segments file))) 44 SegmentRange ∷ []) c.in_err-each_header.ensures.told)

pub returns-in_err-ensure-clause-told : goal.returns-in_err-ensure-clause-told
returns-in_err-ensure-clause-told c =
    let p = err_from_is_err_and c.from_residual-in_err-ensure.result c.from_residual-in_err-ensure.ensures.1 in
    let file = c.args.file.now in
    let e = c.in_err-ensure.field-0.0 in
    let same : c.new.result ≡ check (nat_lt 0 (length (segments file))) 44 SegmentRange = grind (arith, common_steps) in
    rw (p.1, p.2) (refuses_later e (each_header_checks file [] (program_headers file)) (check (nat_lt 0 (length (segments file))) 44 SegmentRange ∷ []) c.in_ok-each_header.ensures.told
    (subst (λ (one : Check). Refuses e (one ∷ [])) same c.in_err-ensure.ensures.told))

pub returns-clause-told : goal.returns-clause-told
returns-clause-told c =
    let file = c.args.file.now in
    let same : c.new.result ≡ check (nat_lt 0 (length (segments file))) 44 SegmentRange = grind (arith, common_steps) in
    first_failing-later (each_header_checks file [] (program_headers file)) (check (nat_lt 0 (length (segments file))) 44 SegmentRange ∷ []) c.in_ok-each_header.ensures.told
    ∙ subst (λ (one : Check). first_failing (one ∷ []) ≡ None) same c.in_ok-ensure.ensures.told
