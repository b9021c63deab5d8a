use Rattle.std.proofs.Common.{◌≡◌, drop}
use Rattle.elf_image.specs.Checks.{first_failing}
use Rattle.elf_image.proofs.check.all_pass.Given as goal

-- the first failing check is the first of those that are left
abbrev pub invariant-loop-check : goal.invariant-loop-check
invariant-loop-check l = first_failing (drop l.check-index l.checks) ≡ first_failing l.checks
