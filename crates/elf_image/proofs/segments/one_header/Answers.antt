use Rattle.std.specs.Prelude.{not, ◌==◌}
use Rattle.std.proofs.Common.{◌≡◌, [], ◌∷◌, arith, subst}
use Rattle.std.proofs.lemmas.Result.{err_from_is_err_and}
use Rattle.std.proofs.lemmas.Grind.{common_steps}
use Rattle.elf_image.specs.declared.check.Check.{Check}
use Rattle.elf_image.specs.declared.fault.ImageCause.TheVariants.{Interp}
use Rattle.elf_image.specs.Checks.{check, Refuses}
use Rattle.elf_image.specs.Segments.{program_header}
use Rattle.elf_image.proofs.CheckLaws.{refuses_early}
use Rattle.elf_image.proofs.segments.one_header.Goals as goal

pub returns-in_err-ensure-clause-told : goal.returns-in_err-ensure-clause-told
returns-in_err-ensure-clause-told c =
    let p = err_from_is_err_and c.from_residual.result c.from_residual.ensures.1 in
    let header = program_header c.args.file.now c.args.place in
    let e = c.in_err-ensure.field-0.0 in
    let same : c.new.result ≡ check (not (header.p_type == 3)) header.place Interp = grind (arith, common_steps) in
    rw (p.1, p.2) (refuses_early e (check (not (header.p_type == 3)) header.place Interp ∷ []) _ (subst (λ (one : Check). Refuses e (one ∷ [])) same c.in_err-ensure.ensures.told))
