use Rattle.std.proofs.Common.{◌-◌}
use Rattle.elf_image.specs.Ranges.{IsWithRow}
use Rattle.elf_image.proofs.pages.add_pages.Given as goal

-- the pages below the next one were added
abbrev pub invariant-loop-page : goal.invariant-loop-page
invariant-loop-page l = IsWithRow l.initial.pages l.pages l.first (l.page - l.first)
