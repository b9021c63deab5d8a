-- A report is a table of lines with seven fields.
use Rattle.std.proofs.Common.{◌≡◌, ℕ, ◌+◌, ◌<◌, ◌^◌, List, [], ◌∷◌, ◌++◌, length, refl, sym, ap, subst, ◌∙◌, arith}
use Rattle.std.specs.Prelude.{codes, decimal}
use Rattle.std.specs.List.{All, flat_map, join_with_byte}
use Rattle.std.proofs.lemmas.List.{append-nil}
use Rattle.std.proofs.lemmas.List.Concat.{flat_map-cons}
use Rattle.std.proofs.lemmas.List.Elements.{All-nil, All-cons, All-append, All-head, All-tail}
use Rattle.std.proofs.lemmas.Grind.{flat_map-append}
use Rattle.sl_base.specs.Text.{word_text}
use Rattle.call_log.specs.declared.entry.End.{End}
use Rattle.analysers.specs.declared.kind.Kind.{Kind}
use Rattle.analysers.specs.declared.row.Row.{Row}
use Rattle.analysers.specs.declared.row.Row.TheVariants as row
use Rattle.analysers.specs.Plain.{IsPlain}
use Rattle.analysers.proofs.Plain.{plain-nil, plain_literal, plain_kind}
use Rattle.report.specs.declared.run_end.RunEnd.{RunEnd}
use Rattle.report.specs.Report.{line, outcome_text, words_text, row_line, value_line, analysis_lines, analyses_lines, end_kind, end_value, end_line, register_texts, regs_line, report}
use Rattle.report.specs.Lines.{HasSevenFields, IsTable, IsRow, ReportsAreTables}
use Rattle.report.proofs.PlainTexts.{plain_decimal, plain_word, plain_outcome, plain_words, plain_end, plain_registers, plain_seven}

-- ---- tables

no_line : IsTable []
no_line = record { lines = []; each = All-nil HasSevenFields; joined = refl }

one_line : (fields : List (List ℕ)) → length fields ≡ 7 → All IsPlain fields → IsTable (line fields)
one_line fields seven plain =
    let is : HasSevenFields (line fields) = record { fields = fields; seven = seven; plain = plain; joined = refl } in
    record {
      lines = line fields ∷ [];
      each = All-cons HasSevenFields (line fields) [] is (All-nil HasSevenFields);
      joined = sym (flat_map-cons (λ (one : List ℕ). one) (line fields) [] ∙ append-nil (line fields));
    }

one_after : (front back : List ℕ) → IsTable front → IsTable back → IsTable (front ++ back)
one_after front back a b = record {
  lines = a.lines ++ b.lines;
  each = All-append HasSevenFields a.lines b.lines a.each b.each;
  joined =
      ap (λ (t : List ℕ). t ++ back) a.joined ∙ ap (λ (t : List ℕ). flat_map (λ (one : List ℕ). one) a.lines ++ t) b.joined
      ∙ sym (flat_map-append (λ (one : List ℕ). one) a.lines b.lines);
}

-- ---- the lines of analyses

value_table : (position : ℕ) (word count value : List ℕ) → position < 2 ^ 64 → IsPlain word → IsPlain count → IsPlain value → IsTable (value_line position word count value)
value_table position word count value fits kind plain_count plain_value =
    one_line (decimal position ∷ word ∷ count ∷ [] ∷ [] ∷ [] ∷ value ∷ []) refl
    (plain_seven (decimal position) word count [] [] [] value (plain_decimal position fits) kind plain_count plain-nil plain-nil plain-nil plain_value)

row_table : (position : ℕ) (word : List ℕ) (r : Row) → position < 2 ^ 64 → IsPlain word → IsRow r → IsTable (row_line position word r)
row_table position word (row.Of r) fits kind is =
    one_line (decimal position ∷ word ∷ decimal r.count ∷ decimal r.point ∷ word_text r.pc ∷ outcome_text r.outcome ∷ words_text r.words ∷ []) refl
    (plain_seven (decimal position) word (decimal r.count) (decimal r.point) (word_text r.pc) (outcome_text r.outcome) (words_text r.words)
    (plain_decimal position fits) kind (plain_decimal r.count is.0) (plain_decimal r.point is.1) (plain_word r.pc) (plain_outcome r.outcome) (plain_words r.words))
row_table position word (row.Number n) fits kind is = value_table position word [] (decimal n) fits kind plain-nil (plain_decimal n is)
row_table position word (row.Word value) fits kind is = value_table position word [] (word_text value) fits kind plain-nil (plain_word value)
row_table position word (row.Bin value count) fits kind is = value_table position word (decimal count) (word_text value) fits kind (plain_decimal count is) (plain_word value)

rows_table : (position : ℕ) (word : List ℕ) (rows : List Row) → position < 2 ^ 64 → IsPlain word → All IsRow rows → IsTable (analysis_lines position word rows)
rows_table position word [] fits kind all = no_line
rows_table position word (r ∷ rows) fits kind all =
    subst IsTable (sym (flat_map-cons (row_line position word) r rows))
    (one_after (row_line position word r) (flat_map (row_line position word) rows)
    (row_table position word r fits kind (All-head IsRow r rows all)) (rows_table position word rows fits kind (All-tail IsRow r rows all)))

abbrev AreRows : List Row → Type 0
AreRows rows = All IsRow rows

kinds_table : (position : ℕ) (kinds : List Kind) (all : List (List Row)) → position + length kinds < 2 ^ 64 + 1 → All AreRows all → IsTable (analyses_lines position kinds all)
kinds_table position [] all fits are = no_line
kinds_table position (kind ∷ kinds) [] fits are = no_line
kinds_table position (kind ∷ kinds) (rows ∷ all) fits are =
    one_after (analysis_lines position kind.word rows) (analyses_lines (position + 1) kinds all)
    (rows_table position kind.word rows (omega arith) (plain_kind kind.word kind.what kind.reads) (All-head AreRows rows all are))
    (kinds_table (position + 1) kinds all (omega arith) (All-tail AreRows rows all are))

-- ---- the last two lines

end_table : (e : End) (count pc : ℕ) → count < 2 ^ 64 → IsTable (end_line e count pc)
end_table e count pc fits =
    one_line (codes "end" ∷ end_kind e ∷ decimal count ∷ [] ∷ word_text pc ∷ [] ∷ word_text (end_value e) ∷ []) refl
    (plain_seven (codes "end") (end_kind e) (decimal count) [] (word_text pc) [] (word_text (end_value e))
    (plain_literal (codes "end") refl) (plain_end e) (plain_decimal count fits) plain-nil (plain_word pc) plain-nil (plain_word (end_value e)))

regs_table : (x : List ℕ) → length x ≡ 32 → IsTable (regs_line x)
regs_table x is =
    let texts = join_with_byte 32 (register_texts 0 x) in
    one_line (codes "regs" ∷ codes "x" ∷ [] ∷ [] ∷ [] ∷ [] ∷ texts ∷ []) refl
    (plain_seven (codes "regs") (codes "x") [] [] [] [] texts
    (plain_literal (codes "regs") refl) (plain_literal (codes "x") refl) plain-nil plain-nil plain-nil plain-nil (plain_registers x (omega (arith, is))))

pub reports_are_tables : ReportsAreTables
reports_are_tables kinds rows last few are count x =
    let analyses = analyses_lines 1 kinds rows in
    let end = end_line last.end last.count last.pc in
    one_after (analyses ++ end) (regs_line last.x)
    (one_after analyses end (kinds_table 1 kinds rows (omega (arith, few)) are) (end_table last.end last.count last.pc count))
    (regs_table last.x x)
