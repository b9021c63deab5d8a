use Rattle.std.proofs.Common.{◌≡◌, ℕ, ◌+◌, List, ◌∷◌, ◌++◌, drop, sym, ap, ◌∙◌, append_assoc, arith}
use Rattle.std.proofs.lemmas.List.{drop_more}
use Rattle.analysers.specs.declared.kind.Kind.{Kind}
use Rattle.analysers.specs.declared.row.Row.{Row}
use Rattle.analysers.proofs.Plain.{plain-same, plain_kind}
use Rattle.report.specs.Report.{analysis_lines, analyses_lines}
use Rattle.report.specs.Table.{text_in}
use Rattle.report.proofs.text.push_analyses.Goals as goal

-- the lines of the first analysis and those of the others
lines_step : (n : ℕ) (kinds rest : List Kind) (all others : List (List Row)) (kind : Kind)
    (rows : List Row) → kinds ≡ kind ∷ rest → all ≡ rows ∷ others
    → analyses_lines n kinds all
    ≡ analysis_lines n kind.word rows ++ analyses_lines (n + 1) rest others
lines_step n kinds rest all others kind rows first second =
    ap (λ (ks : List Kind). analyses_lines n ks all) first
    ∙ ap (analyses_lines n (kind ∷ rest)) second

pub push_analysis-requires-clause-plain : goal.push_analysis-requires-clause-plain
push_analysis-requires-clause-plain c =
    let kind = c.index-kinds-i.result in
    plain-same c.as_slice.result.now kind.word c.as_slice.ensures
    (plain_kind kind.word kind.what kind.reads)

pub loop-i-preserved : goal.loop-i-preserved
loop-i-preserved c =
    let kinds = c.args.kinds.now in
    let all = c.args.all.now in
    let i = c.loop-i.i in
    let kind = c.index-kinds-i.result in
    let rows = c.as_slice-in-loop-i.result.now in
    let rest = drop (i + 1) kinds in
    let others = drop (i + 1) all in
    let before = text_in c.loop-i.out in
    let after = analyses_lines (i + 1 + 1) rest others in
    let first : drop i kinds ≡ kind ∷ rest =
    drop_more kinds i kind (omega arith)
    ∙ ap (λ (k : Kind). k ∷ rest) (sym c.index-kinds-i.is) in
    let second : drop i all ≡ rows ∷ others =
    drop_more all i c.index-all-i.result (omega (arith, c.requires.each))
    ∙ ap (λ (r : List Row). r ∷ others) (sym c.index-all-i.is ∙ sym c.as_slice-in-loop-i.ensures) in
    record {
      ready = c.in_ok-push_analysis.ensures.ready;
      text = ap (λ (t : List ℕ). t ++ after) (c.in_ok-push_analysis.ensures.text
          ∙ ap (λ (word : List ℕ). before ++ analysis_lines (i + 1) word rows) c.as_slice.ensures)
          ∙ append_assoc before (analysis_lines (i + 1) kind.word rows) after
          ∙ ap (λ (t : List ℕ). before ++ t)
          (sym (lines_step (i + 1) (drop i kinds) rest (drop i all) others kind rows first second))
          ∙ c.loop-i.invariant.text;
    }
