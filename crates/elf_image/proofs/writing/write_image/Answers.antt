use Rattle.std.specs.Prelude.{◌^◌}
use Rattle.std.proofs.Common.{◌≡◌, ◌+◌, ◌<◌, List, ◌++◌, ℕ, length, arith, sym, subst, refl}
use Rattle.sl_base.specs.declared.symbol.Symbol.{Symbol}
use Rattle.elf_image.specs.declared.layout.FileLayout.{FileLayout}
use Rattle.elf_image.specs.Elf.{IsImage}
use Rattle.elf_image.specs.Written.{entries, string_table, padding, layout_of, program_part, written}
use Rattle.elf_image.proofs.WrittenLengths.{to_names, length-to_symbols, length-to_names, length-entries}
use Rattle.elf_image.proofs.WrittenImage.{sections_fit, IsImage-written}
use Rattle.elf_image.proofs.writing.write_image.Goals as goal

pub layout_of-at-requires : goal.layout_of-at-requires
layout_of-at-requires c = sections_fit c.args.image.now c.requires

pub put_program-requires-clause-size : goal.put_program-requires-clause-size
put_program-requires-clause-size c = subst (λ (at : FileLayout). at.sections + 120 < 2 ^ 32) (sym c.layout_of-at.ensures) (sections_fit c.args.image.now c.requires)

pub put_tables-requires : goal.put_tables-requires
put_tables-requires c =
    let size = sections_fit c.args.image.now c.requires in
    rw (c.in_ok-put_program.ensures, c.as_slice-symbols.ensures, length-to_symbols c.args.image.now, length-entries c.args.image.now.symbols) (omega (arith, size))

pub returns-clause-written : goal.returns-clause-written
unfolding written
returns-clause-written c =
    let names : c.put_tables.new.out.items ≡ to_names c.args.image.now ++ padding ((layout_of c.args.image.now).strings + length (string_table c.args.image.now.symbols)) =
    subst (λ (end : ℕ). c.put_tables.new.out.items ≡ to_names c.args.image.now ++ padding end) (length-to_names c.args.image.now)
    (subst (λ (symbols : List Symbol). c.put_tables.new.out.items ≡ program_part c.args.image.now ++ entries symbols ++ string_table symbols ++ padding (length (program_part c.args.image.now ++ entries symbols ++ string_table symbols))) c.as_slice-symbols.ensures
    (subst (λ (xs : List ℕ). c.put_tables.new.out.items ≡ xs ++ entries c.as_slice-symbols.result.now ++ string_table c.as_slice-symbols.result.now ++ padding (length (xs ++ entries c.as_slice-symbols.result.now ++ string_table c.as_slice-symbols.result.now))) c.in_ok-put_program.ensures c.in_ok-put_tables.ensures)) in
    rw (c.in_ok-put_sections.ensures, names, c.layout_of-at.ensures, c.strings_size.ensures, c.as_slice-symbols.ensures) refl

pub returns-clause-read_back : goal.returns-clause-read_back
returns-clause-read_back c = subst (λ (file : List ℕ). IsImage file c.args.image.now) (sym (returns-clause-written c)) (IsImage-written c.args.image.now c.requires)
