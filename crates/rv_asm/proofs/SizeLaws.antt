-- Lines without a fault make as many bytes as they add, and no section grows past its bound.
use Rattle.std.proofs.Common.{◌≡◌, ℕ, suc, ◌+◌, ◌*◌, ◌<◌, ◌≤◌, ◌^◌, Bool, ◌||◌, cond, true, false, List, [], ◌∷◌, ◌++◌, length, refl, sym, ap, ◌∙◌, arith, length-append}
use Rattle.std.specs.Prelude.{Option, Some, None, Result, Ok, Err, replicate}
use Rattle.std.specs.Option.{option_or}
use Rattle.std.specs.List.{flat_map}
use Rattle.std.proofs.lemmas.Bool.{ltb-false, cond-false}
use Rattle.std.proofs.lemmas.List.{length-replicate}
use Rattle.asm_text.specs.declared.fault.AsmCause.{AsmCause}
use Rattle.asm_text.specs.declared.fault.AsmCause.TheVariants as cause
use Rattle.asm_text.specs.declared.fault.AsmFault.{AsmFault}
use Rattle.asm_text.specs.declared.mnemonic.Section.{Section}
use Rattle.asm_text.specs.declared.mnemonic.Section.TheVariants.{Text, Data}
use Rattle.asm_text.specs.declared.mnemonic.Width.{Width}
use Rattle.asm_text.specs.declared.mnemonic.Width.TheVariants.{Word, Half, Byte}
use Rattle.asm_text.specs.declared.statement.Statement.{Statement}
use Rattle.asm_text.specs.declared.statement.Statement.TheVariants as statement
use Rattle.asm_text.specs.Lines.{statement_text, operand_text}
use Rattle.asm_text.specs.Numbers.{number_of}
use Rattle.asm_text.specs.Operands.{pieces}
use Rattle.asm_text.specs.Statements.{statement_of}
use Rattle.rv_asm.specs.declared.place.Place.{Place}
use Rattle.rv_asm.specs.declared.table.Table.{Table}
use Rattle.rv_asm.specs.Places.{offset, offset_in, is_misplaced, width_bytes, padding_size, size_at, size_in, moved_in, entered, after_statement, after_reading, place_after, end_of}
use Rattle.rv_asm.specs.Lines.{label_cause, doubled_cause, section_cause, is_too_large, size_cause, statement_cause, reading_cause, line_cause, told, first_fault}
use Rattle.rv_asm.specs.Output.{value_word_of, value_bytes, low_bytes, statement_bytes, reading_bytes, line_bytes, of_section, bytes_in}

low_len : (width : Width) (word : ℕ) → length (low_bytes width word) ≡ width_bytes width
low_len Word word = refl
low_len Half word = refl
low_len Byte word = refl

grows_by : (w n : ℕ) → w + w * n ≡ w * suc n
grows_by w n = omega arith

values_len : (table : Table) (width : Width) (ps : List (List ℕ)) → length (flat_map (value_bytes table width) ps) ≡ width_bytes width * length ps
values_len table width [] = omega arith
values_len table width (p ∷ ps) =
    let first : length (value_bytes table width p) ≡ width_bytes width = low_len width (value_word_of table (number_of p) p) in
    let later = values_len table width ps in
    length-append (value_bytes table width p) (flat_map (value_bytes table width) ps)
    ∙ ap (λ n. n + length (flat_map (value_bytes table width) ps)) first
    ∙ ap (λ n. width_bytes width + n) later
    ∙ grows_by (width_bytes width) (length ps)

pub statement_len : (table : Table) (place : Place) (text : List ℕ) (said : Statement) → length (statement_bytes table place text said) ≡ size_at (offset place) text said
unfolding statement_bytes
statement_len table place text statement.Nothing = refl
statement_len table place text (statement.One i) = refl
statement_len table place text (statement.Two i j) = refl
statement_len table place text (statement.Jump rd target) = refl
statement_len table place text (statement.Branch op rs1 rs2 target) = refl
statement_len table place text (statement.Address rd) = refl
statement_len table place text (statement.Enter section) = refl
statement_len table place text (statement.Values width) = values_len table width (pieces text)
statement_len table place text (statement.Space size) = length-replicate size 0
statement_len table place text (statement.Align alignment) = length-replicate (padding_size alignment (offset place)) 0

none_left : (a b : Option AsmCause) → option_or a b ≡ None → a ≡ None
none_left (Some cause) b is = absurd (let h : Some cause ≡ None = is in cc)
none_left None b is = refl

none_right : (a b : Option AsmCause) → option_or a b ≡ None → b ≡ None
none_right (Some cause) b is = absurd (let h : Some cause ≡ None = is in cc)
none_right None b is = is

not_told : (b : Bool) (c : AsmCause) → cond b (Some c) None ≡ None → b ≡ false
not_told true c is = absurd (let h : Some c ≡ None = is in cc)
not_told false c is = refl

neither : (a b : Bool) → (a || b) ≡ false → (a ≡ false) × (b ≡ false)
neither true b is = absurd (let h : true ≡ false = is in cc)
neither false b is = (refl, is)

moved_gain : (section at : Section) (place : Place) (bytes : List ℕ) (size : ℕ) → length bytes ≡ size
    → length (of_section section at bytes) + offset_in section place ≡ offset_in section (moved_in at place size)
moved_gain Text Text place bytes size same = omega (arith, same)
moved_gain Text Data place bytes size same = omega arith
moved_gain Data Text place bytes size same = omega arith
moved_gain Data Data place bytes size same = omega (arith, same)

entered_same : (section : Section) (said : Statement) (place : Place) → offset_in section (entered said place) ≡ offset_in section place
entered_same Text (statement.Enter other) place = refl
entered_same Data (statement.Enter other) place = refl
entered_same section said place = refl

pub record Grows (section : Section) (table : Table) (place : Place) (line : List ℕ) : Type 0 where
  pub gain : length (of_section section place.section (line_bytes table place line)) + offset_in section place ≡ offset_in section (place_after place line)
  pub text_small : (place_after place line).text_size ≤ 2 ^ 20
  pub data_small : (place_after place line).data_size ≤ 2 ^ 24

said_grows : (section : Section) (table : Table) (place : Place) (number : ℕ) (text : List ℕ) (said : Statement) → statement_cause table place number text said ≡ None
    → (length (of_section section place.section (statement_bytes table place text said)) + offset_in section place ≡ offset_in section (after_statement place text said))
    × ((after_statement place text said).text_size ≤ 2 ^ 20) × ((after_statement place text said).data_size ≤ 2 ^ 24)
unfolding statement_cause after_statement size_in
said_grows section table place number text said none =
    let a = label_cause table place text said in
    let b = doubled_cause table number in
    let c = section_cause place said in
    let d = size_cause (after_statement place text said) in
    let late : option_or b (option_or c d) ≡ None = none_right a (option_or b (option_or c d)) none in
    let later : option_or c d ≡ None = none_right b (option_or c d) late in
    let placed : is_misplaced place.section said ≡ false = not_told (is_misplaced place.section said) cause.Section (none_left c d later) in
    let small = neither _ _ (not_told (is_too_large (after_statement place text said)) cause.TooLarge (none_right c d later)) in
    let size : length (statement_bytes table place text said) ≡ size_in place text said =
    statement_len table place text said ∙ sym (cond-false (is_misplaced place.section said) 0 (size_at (offset place) text said) placed) in (
      moved_gain section place.section place (statement_bytes table place text said) (size_in place text said) size
          ∙ sym (entered_same section said (moved_in place.section place (size_in place text said))),
      ltb-false _ _ small.0,
      ltb-false _ _ small.1,
    )

no_cause : {P : Type 0} (c : AsmCause) → Some c ≡ None → P
no_cause c is = absurd (let h : Some c ≡ None = is in cc)

read_grows : (section : Section) (table : Table) (place : Place) (number : ℕ) (text : List ℕ) (reading : Result Statement AsmCause) → reading_cause table place number text reading ≡ None
    → (length (of_section section place.section (reading_bytes table place text reading)) + offset_in section place ≡ offset_in section (after_reading place text reading))
    × ((after_reading place text reading).text_size ≤ 2 ^ 20) × ((after_reading place text reading).data_size ≤ 2 ^ 24)
unfolding reading_cause reading_bytes after_reading
read_grows section table place number text (Ok said) none = said_grows section table place number text said none
read_grows section table place number text (Err c) none = no_cause c none

pub line_grows : (section : Section) (table : Table) (place : Place) (number : ℕ) (line : List ℕ) → line_cause table place number line ≡ None → Grows section table place line
unfolding line_cause line_bytes place_after
line_grows section table place number line none =
    let grown = read_grows section table place number (operand_text (statement_text line)) (statement_of (statement_text line)) none in
    record { gain = grown.0; text_small = grown.1; data_small = grown.2 }

none_told : (number : ℕ) (c : Option AsmCause) (later : Option AsmFault) → told number c later ≡ None → (c ≡ None) × (later ≡ None)
none_told number (Some c) later is = absurd (let h : Some (record { line = number; cause = c }) ≡ None = is in cc)
none_told number None later is = (refl, is)

-- the bytes of a section are as many as its lines add
pub section_len : (section : Section) (table : Table) (place : Place) (number : ℕ) (lines : List (List ℕ)) → first_fault table place number lines ≡ None
    → length (bytes_in section table place lines) + offset_in section place ≡ offset_in section (end_of place lines)
section_len section table place number [] none = omega arith
section_len section table place number (line ∷ lines) none =
    let parts = none_told number (line_cause table place number line) (first_fault table (place_after place line) (number + 1) lines) none in
    let first = (line_grows section table place number line parts.0).gain in
    let later = section_len section table (place_after place line) (number + 1) lines parts.1 in
    omega (arith, length-append (of_section section place.section (line_bytes table place line)) (bytes_in section table (place_after place line) lines), first, later)

pub end_small : (table : Table) (place : Place) (number : ℕ) (lines : List (List ℕ)) → first_fault table place number lines ≡ None
    → place.text_size ≤ 2 ^ 20 → place.data_size ≤ 2 ^ 24 → ((end_of place lines).text_size ≤ 2 ^ 20) × ((end_of place lines).data_size ≤ 2 ^ 24)
end_small table place number [] none text data' = (text, data')
end_small table place number (line ∷ lines) none text data' =
    let parts = none_told number (line_cause table place number line) (first_fault table (place_after place line) (number + 1) lines) none in
    let grown = line_grows Text table place number line parts.0 in
    end_small table (place_after place line) (number + 1) lines parts.1 grown.text_small grown.data_small
