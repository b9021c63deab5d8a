use Rattle.std.proofs.Common.{◌≡◌, ◌<◌, ◌≤◌, Some, true, false, arith, ap, ◌∙◌}
use Rattle.std.proofs.lemmas.Grind.{common_steps}
use Rattle.elf_image.specs.declared.headers.SectionHeader.{SectionHeader}
use Rattle.elf_image.specs.Header.{e_shnum}
use Rattle.elf_image.specs.Symbols.{is_symbol_table}
use Rattle.elf_image.proofs.SymbolLoops.{none_searched, one_searched, table_found, no_table}
use Rattle.elf_image.proofs.symbols.symbol_table.Goals as goal

pub loop-index-init : goal.loop-index-init
loop-index-init c = none_searched c.args.file.now

pub loop-index-preserved : goal.loop-index-preserved
loop-index-preserved c =
    let file = c.args.file.now in
    let i = c.loop-index.index in
    let more : i < e_shnum file = grind arith in
    let other : is_symbol_table c.section-section.result ≡ false = grind (arith, common_steps) in
    one_searched file i more (rw (← c.section-section.ensures.header) other) c.loop-index.invariant

pub returns-then-section-eq-SHT_SYMTAB-clause-table : goal.returns-then-section-eq-SHT_SYMTAB-clause-table
returns-then-section-eq-SHT_SYMTAB-clause-table c =
    let file = c.args.file.now in
    let i = c.loop-index.index in
    let more : i < e_shnum file = grind arith in
    let table : is_symbol_table c.section-section.result ≡ true = grind (arith, common_steps) in
    ap (λ (s : SectionHeader). Some s) c.section-section.ensures.header ∙ table_found file i more (rw (← c.section-section.ensures.header) table) c.loop-index.invariant

pub returns-clause-table : goal.returns-clause-table
returns-clause-table c =
    let file = c.args.file.now in
    let end : e_shnum file ≤ c.loop-index.index = grind arith in
    no_table file c.loop-index.index end c.loop-index.invariant
