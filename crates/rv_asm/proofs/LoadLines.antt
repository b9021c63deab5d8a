-- Lines in text that put a word into a register.
use Rattle.std.proofs.Common.{◌≡◌, ℕ, ◌+◌, ◌^◌, ◌≤◌, Bool, ◌||◌, cond, true, false, List, [], refl, ap, ◌∙◌, arith}
use Rattle.std.specs.Prelude.{Some, None, Ok, nat_lt, if◌then◌else◌}
use Rattle.std.proofs.lemmas.Bool.{le-ltb}
use Rattle.sl_model.specs.declared.instr.Instr.{Instr}
use Rattle.asm_text.specs.declared.fault.AsmCause.TheVariants as cause
use Rattle.asm_text.specs.declared.mnemonic.Section.TheVariants.{Text}
use Rattle.asm_text.specs.declared.statement.Statement.{Statement}
use Rattle.asm_text.specs.declared.statement.Statement.TheVariants as statement
use Rattle.asm_text.specs.Lines.{labels_of, statement_text, operand_text}
use Rattle.asm_text.specs.Statements.{is_short, loaded, statement_of}
use Rattle.rv_asm.specs.declared.place.Place.{Place}
use Rattle.rv_asm.specs.declared.table.Table.{Table}
use Rattle.rv_asm.specs.Places.{size_in, after_statement, after_reading, place_after}
use Rattle.rv_asm.specs.Labels.{doubled_line}
use Rattle.rv_asm.specs.Lines.{most_text, most_data, label_cause, statement_cause, reading_cause, line_cause}

-- a line without labels that says this
pub record Says (line : List ℕ) (what : Statement) : Type 0 where
  pub labels : labels_of line ≡ []
  pub said : statement_of (statement_text line) ≡ Ok what

-- a place in text, before any data
abbrev pub in_text : ℕ → Place
in_text size = record { section = Text; text_size = size; data_size = 0 }

-- how many bytes the load of a word takes
abbrev pub load_size : ℕ → ℕ
load_size word = if is_short word then 4 else 8

one_or_two : (short : Bool) (size : ℕ) (text : List ℕ) (i j k : Instr)
    → after_statement (in_text size) text (cond short (statement.One i) (statement.Two j k)) ≡ in_text (size + cond short 4 8)
unfolding after_statement size_in
one_or_two true size text i j k = refl
one_or_two false size text i j k = refl

pub load_after : (line : List ℕ) (rd word size : ℕ) → Says line (loaded rd word) → place_after (in_text size) line ≡ in_text (size + load_size word)
unfolding place_after after_reading
load_after line rd word size says =
    ap (after_reading (in_text size) (operand_text (statement_text line))) says.said
    ∙ one_or_two (is_short word) size (operand_text (statement_text line)) _ _ _

fits : (size n : ℕ) → size + n ≤ 2 ^ 20 → cond (nat_lt most_text (size + n) || nat_lt most_data 0) (Some cause.TooLarge) None ≡ None
fits size n few = ap (λ b. cond (b || nat_lt most_data 0) (Some cause.TooLarge) None) (le-ltb most_text (size + n) few)

either_fine : (short : Bool) (table : Table) (size number : ℕ) (text : List ℕ) (i j k : Instr) → doubled_line table.labels ≡ None → size + 8 ≤ 2 ^ 20
    → statement_cause table (in_text size) number text (cond short (statement.One i) (statement.Two j k)) ≡ None
unfolding statement_cause label_cause after_statement size_in
either_fine true table size number text i j k single few = rw single (fits size 4 (omega arith))
either_fine false table size number text i j k single few = rw single (fits size 8 few)

pub load_fine : (table : Table) (line : List ℕ) (rd word size number : ℕ) → Says line (loaded rd word) → doubled_line table.labels ≡ None → size + 8 ≤ 2 ^ 20
    → line_cause table (in_text size) number line ≡ None
unfolding line_cause reading_cause
load_fine table line rd word size number says single few =
    ap (reading_cause table (in_text size) number (operand_text (statement_text line))) says.said
    ∙ either_fine (is_short word) table size number (operand_text (statement_text line)) _ _ _ single few
