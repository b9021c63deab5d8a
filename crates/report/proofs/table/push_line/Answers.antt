use Rattle.std.proofs.Common.{◌≡◌, ◌≢◌, List, ℕ, ◌≤◌, ◌++◌, length, map, ap, ◌∙◌, arith}
use Rattle.std.proofs.lemmas.List.{length-map}
use Rattle.csv.specs.Writing.{row_text}
use Rattle.csv.specs.declared.writer.QuoteStyle.TheVariants as style
use Rattle.csv.specs.declared.writer.WriterBuilder.{WriterBuilder}
use Rattle.report.specs.Table.{text_in}
use Rattle.report.proofs.CsvText.{line_is}
use Rattle.report.proofs.table.push_line.Goals as goal

pub returns-clause-text : goal.returns-clause-text
returns-clause-text c =
    let ready = c.requires.ready in
    let fields : List (List ℕ) = map (λ field. field.now) c.args.fields.now in
    let plain : c.args.table.now.cfg.style ≢ style.NonNumeric = rw ready.setup (λ e. cc e) in
    let several : 2 ≤ length fields =
    omega (arith, c.requires.several, length-map c.args.fields.now (λ field. field.now)) in
    c.in-Ok.ensures.bytes ready.fields ready.wrote plain
    ∙ ap (λ (b : WriterBuilder). text_in c.args.table.now ++ row_text b fields) ready.setup
    ∙ ap (λ (t : List ℕ). text_in c.args.table.now ++ t)
    (line_is fields c.requires.plain several)
