-- The lines of a generated source behind those that name the seed and the number of turns, where
-- they stand at each place that they may have.
use Rattle.std.proofs.Common.{◌≡◌, ℕ, ◌+◌, ◌<◌, List, [], ◌∷◌, drop, map, refl, arith}
use Rattle.std.specs.Prelude.{Some, None, Ok, codes}
use Rattle.std.specs.Str.Lines.{lines}
use Rattle.sl_base.specs.declared.symbol.Symbol.{Symbol}
use Rattle.asm_text.specs.Bytes.{trimmed}
use Rattle.asm_text.specs.Lines.{labels_within, statement_within}
use Rattle.asm_text.specs.Names.{register_named, branch_named, load_named, store_named, immediate_named, operation_named, shift_named, mul_div_named, alone_named, plain_named, short_named, directive_named, mnemonic_named}
use Rattle.asm_text.specs.Numbers.{magnitude, number_of}
use Rattle.asm_text.specs.Operands.{pieces}
use Rattle.asm_text.specs.Statements.{operation_statement, mul_div_statement, immediate_statement, shift_statement, load_statement, store_statement, branch_statement, load_immediate_statement, load_address_statement, space_statement, statement_for, statement_of}
use Rattle.rv_asm.specs.declared.place.Label.{Label}
use Rattle.rv_asm.specs.declared.table.Table.{Table}
use Rattle.rv_asm.specs.Places.{data_start, start, size_in, after_statement, after_reading, place_after, end_of}
use Rattle.rv_asm.specs.Labels.{label_at, labels_in, doubled_line}
use Rattle.rv_asm.specs.Lines.{label_cause, statement_cause, reading_cause, line_cause, first_fault}
use Rattle.rv_asm.specs.Assembly.{symbol_of}
use Rattle.rv_asm.proofs.LoadLines.{in_text}
use Rattle.tracer_read.specs.Parts.{symbol_value}
use Rattle.tracer_read.specs.Scripts.{script_of_text}
use Rattle.workload.specs.Source.{behind_size, SCRIPT}
use Rattle.workload.specs.Laws.{sums_at}

abbrev pub body : List (List ℕ)
body = lines (drop 1 behind_size)

-- the labels, and the table, where the body stands behind so many bytes of text
abbrev pub labels_at : ℕ → List Label
labels_at size = label_at start 1 (codes "_start") ∷ labels_in (in_text size) 4 body

abbrev pub table_at : ℕ → Table
table_at size = record {
  labels = labels_at size;
  data_start = data_start (end_of (in_text size) body).text_size;
}

abbrev pub symbols_at : ℕ → List Symbol
symbols_at size = map (symbol_of (table_at size).data_start) (labels_at size)

-- it has no fault, and makes bytes; `mark` is a symbol, and the script is read
pub record IsFine (size : ℕ) : Type 0 where
  pub faultless : first_fault (table_at size) (in_text size) 4 body ≡ None
  pub single : doubled_line (labels_at size) ≡ None
  pub some : 0 < (end_of (in_text size) body).text_size
  pub marked : symbol_value (symbols_at size) (codes "mark") ≡ Some (0x10000 + size + 52)
  pub script : script_of_text SCRIPT (symbols_at size) ≡ Ok (sums_at (0x10000 + size + 52))

pub fine_8 : IsFine 8
unfolding trimmed labels_within statement_within register_named branch_named load_named store_named immediate_named operation_named shift_named mul_div_named alone_named plain_named short_named directive_named mnemonic_named magnitude number_of pieces operation_statement mul_div_statement immediate_statement shift_statement load_statement store_statement branch_statement load_immediate_statement load_address_statement space_statement statement_for statement_of size_in after_statement after_reading place_after label_cause statement_cause reading_cause line_cause script_of_text
fine_8 = record { faultless = refl; single = refl; some = omega arith; marked = refl; script = refl }

pub fine_12 : IsFine 12
unfolding trimmed labels_within statement_within register_named branch_named load_named store_named immediate_named operation_named shift_named mul_div_named alone_named plain_named short_named directive_named mnemonic_named magnitude number_of pieces operation_statement mul_div_statement immediate_statement shift_statement load_statement store_statement branch_statement load_immediate_statement load_address_statement space_statement statement_for statement_of size_in after_statement after_reading place_after label_cause statement_cause reading_cause line_cause script_of_text
fine_12 = record { faultless = refl; single = refl; some = omega arith; marked = refl; script = refl }

pub fine_16 : IsFine 16
unfolding trimmed labels_within statement_within register_named branch_named load_named store_named immediate_named operation_named shift_named mul_div_named alone_named plain_named short_named directive_named mnemonic_named magnitude number_of pieces operation_statement mul_div_statement immediate_statement shift_statement load_statement store_statement branch_statement load_immediate_statement load_address_statement space_statement statement_for statement_of size_in after_statement after_reading place_after label_cause statement_cause reading_cause line_cause script_of_text
fine_16 = record { faultless = refl; single = refl; some = omega arith; marked = refl; script = refl }
