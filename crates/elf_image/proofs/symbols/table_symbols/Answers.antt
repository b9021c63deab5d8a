use Rattle.std.specs.Prelude.{◌*◌, ◌/◌}
use Rattle.std.proofs.Common.{◌≡◌, ◌+◌, ◌<◌, arith, ap, sym, ◌∙◌}
use Rattle.elf_image.specs.declared.headers.SymbolEntry.{SymbolEntry}
use Rattle.elf_image.specs.Symbols.{symbol_entry, symbol_of}
use Rattle.elf_image.proofs.SymbolLoops.{none_kept, one_kept, one_dropped, symbol_of_same}
use Rattle.elf_image.proofs.symbols.table_symbols.Goals as goal
use Rattle.elf_image.proofs.symbols.table_symbols.Goals.{in-Some+in_ok-push, in_default}

pub loop-index-init : goal.loop-index-init
loop-index-init c = rw c.new-symbols.ensures (none_kept c.args.file.now c.args.table c.args.strings.now)

pub loop-index-preserved : goal.loop-index-preserved
loop-index-preserved c =
    let file = c.args.file.now in
    let table = c.args.table in
    let strings = c.args.strings.now in
    let l = c.loop-index in
    let more : l.index < table.sh_size / 16 = grind arith in
    let entry : c.symbol_entry-entry.result ≡ symbol_entry file (table.sh_offset + 16 * l.index) = grind arith in
    let kept : c.in_ok-symbol.field-0 ≡ symbol_of strings (symbol_entry file (table.sh_offset + 16 * l.index)) =
    c.in_ok-symbol.ensures
    ∙ symbol_of_same c.ended-names.result.now strings c.symbol_entry-entry.result c.ended-names.ensures
    ∙ ap (λ (e : SymbolEntry). symbol_of strings e) entry in
    elim c.match-branch-2.branch [
      | in-Some+in_ok-push w ↦
          rw (w.symbols-is, w.in_ok-push.ensures.ok) (one_kept file table strings l.symbols l.index l.invariant w.in-Some.symbol more (sym kept ∙ w.in-Some.is))
      | in_default w ↦
          rw w.symbols-is (one_dropped file table strings l.symbols l.index l.invariant more (sym kept ∙ w.in_default.is))
    ]
