-- The assembly of a source from what the passes give.
use Rattle.std.proofs.Common.{◌≡◌, ℕ, ◌+◌, ◌<◌, ◌≤◌, ◌^◌, Bool, cond, true, false, List, [], length, refl, sym, ap, ◌∙◌, arith}
use Rattle.std.specs.Prelude.{Option, Some, None, Result, Ok, Err, nat_lt, ◌==◌}
use Rattle.std.specs.Str.Lines.{lines}
use Rattle.std.proofs.lemmas.Bool.{cond-true, cond-false, le-ltb, lt-ltb}
use Rattle.elf_image.specs.declared.image.Image.{Image}
use Rattle.asm_text.specs.declared.fault.AsmFault.{AsmFault}
use Rattle.asm_text.specs.declared.fault.AsmCause.TheVariants as cause
use Rattle.asm_text.specs.declared.mnemonic.Section.TheVariants.{Text, Data}
use Rattle.rv_asm.specs.declared.table.Table.{Table}
use Rattle.rv_asm.specs.Places.{start, end_of}
use Rattle.rv_asm.specs.Lines.{first_fault}
use Rattle.rv_asm.specs.Output.{bytes_in}
use Rattle.rv_asm.specs.Assembly.{most_source, table_of, text_of, data_of, fault, image_from, image_of, unless, of_lines, assembly}
use Rattle.rv_asm.proofs.SizeLaws.{section_len, end_small}

pub too_long : (source : List ℕ) → most_source < length source → assembly source ≡ Err (fault 0 cause.TooLarge)
unfolding assembly
too_long source long = cond-true (nat_lt most_source (length source)) _ _ (lt-ltb _ _ long)

short : (source : List ℕ) → length source ≤ most_source → assembly source ≡ of_lines (lines source)
unfolding assembly
short source few = cond-false (nat_lt most_source (length source)) _ _ (le-ltb _ _ few)

faults : (ls : List (List ℕ)) (table : Table) → table ≡ table_of ls → first_fault (table_of ls) start 1 ls ≡ first_fault table start 1 ls
faults ls table is = ap (λ (t : Table). first_fault t start 1 ls) (sym is)

pub faulty : (source : List ℕ) (table : Table) (first : AsmFault) → length source ≤ most_source → table ≡ table_of (lines source)
    → first_fault table start 1 (lines source) ≡ Some first → assembly source ≡ Err first
faulty source table first few is told =
    short source few ∙ ap (λ (o : Option AsmFault). unless o (image_of (lines source))) (faults (lines source) table is ∙ told)

faultless : (source : List ℕ) (table : Table) → length source ≤ most_source → table ≡ table_of (lines source)
    → first_fault table start 1 (lines source) ≡ None → assembly source ≡ image_of (lines source)
faultless source table few is none =
    short source few ∙ ap (λ (o : Option AsmFault). unless o (image_of (lines source))) (faults (lines source) table is ∙ none)

text_is : (ls : List (List ℕ)) (table : Table) (text : List ℕ) → table ≡ table_of ls → text ≡ bytes_in Text table start ls → text_of ls ≡ text
unfolding text_of
text_is ls table text is made = ap (λ (t : Table). bytes_in Text t start ls) (sym is) ∙ sym made

data_is : (ls : List (List ℕ)) (table : Table) (bytes : List ℕ) → table ≡ table_of ls → bytes ≡ bytes_in Data table start ls → data_of ls ≡ bytes
unfolding data_of
data_is ls table bytes is made = ap (λ (t : Table). bytes_in Data t start ls) (sym is) ∙ sym made

pub no_text : (source : List ℕ) (table : Table) (text : List ℕ) → length source ≤ most_source → table ≡ table_of (lines source)
    → first_fault table start 1 (lines source) ≡ None → text ≡ bytes_in Text table start (lines source) → (length text == 0) ≡ true
    → assembly source ≡ Err (fault 0 cause.Section)
no_text source table text few is none made empty =
    faultless source table few is none
    ∙ cond-true (length (text_of (lines source)) == 0) _ _ (ap (λ (t : List ℕ). length t == 0) (text_is (lines source) table text is made) ∙ empty)

pub assembled : (source : List ℕ) (table : Table) (text bytes : List ℕ) → length source ≤ most_source → table ≡ table_of (lines source)
    → first_fault table start 1 (lines source) ≡ None → text ≡ bytes_in Text table start (lines source) → bytes ≡ bytes_in Data table start (lines source)
    → (length text == 0) ≡ false → assembly source ≡ Ok (image_from table text bytes)
assembled source table text bytes few is none made also some =
    faultless source table few is none
    ∙ cond-false (length (text_of (lines source)) == 0) _ _ (ap (λ (t : List ℕ). length t == 0) (text_is (lines source) table text is made) ∙ some)
    ∙ ap (λ (t : Table). Ok (image_from t (text_of (lines source)) (data_of (lines source)))) (sym is)
    ∙ ap (λ (t : List ℕ). Ok (image_from table t (data_of (lines source)))) (text_is (lines source) table text is made)
    ∙ ap (λ (d : List ℕ). Ok (image_from table text d)) (data_is (lines source) table bytes is also)

pub text_fits : (table : Table) (ls : List (List ℕ)) (text : List ℕ) → first_fault table start 1 ls ≡ None → text ≡ bytes_in Text table start ls → length text < 2 ^ 32
text_fits table ls text none made =
    let len = section_len Text table start 1 ls none in
    let small = end_small table start 1 ls none (omega arith) (omega arith) in
    omega (arith, ap length made, len, small.0)

pub data_fits : (table : Table) (ls : List (List ℕ)) (bytes : List ℕ) → first_fault table start 1 ls ≡ None → bytes ≡ bytes_in Data table start ls → length bytes < 2 ^ 32
data_fits table ls bytes none made =
    let len = section_len Data table start 1 ls none in
    let small = end_small table start 1 ls none (omega arith) (omega arith) in
    omega (arith, ap length made, len, small.1)
