use Rattle.std.proofs.Common.{◌≡◌, ◌+◌, Bool, true, ◌||◌, List, [], ◌∷◌, ◌++◌, take, drop, refl, ap, sym, ◌∙◌, arith}
use Rattle.std.specs.List.{list_any}
use Rattle.std.proofs.lemmas.List.{drop_more, take_more}
use Rattle.analysers.specs.declared.kind.Kind.{Kind}
use Rattle.analysers.specs.declared.row.Row.{Row}
use Rattle.analysers.specs.Analyses.{analyse}
use Rattle.analysers.specs.Pieces.{reads_records, own_part, parts_of, rows_of, in_one}
use Rattle.analysers.proofs.Parted.{parts-cons, rows-nil, rows-push, or_true}
use Rattle.analysers.proofs.Rests.{rest_whole}
use Rattle.analysers.proofs.all_rows.each_rows.Goals as goal

pub loop-i-init : goal.loop-i-init
loop-i-init c = record {
  parts = c.from_vec-parts.ensures.items ∙ c.into_vec.ensures ∙ c.requires;
  pieces = λ any. refl;
  rows = c.new-rows.ensures.items ∙ sym (rows-nil (in_one c.args.pieces.items));
}

pub loop-i-preserved : goal.loop-i-preserved
loop-i-preserved c =
    let kinds = c.args.kinds.now in
    let rs = in_one c.args.pieces.items in
    let i = c.loop-i.i in
    let kind = c.index-kinds-i.result in
    let rest = drop (i + 1) kinds in
    let kept = c.loop-i.invariant in
    let split : drop i kinds ≡ kind ∷ rest =
    drop_more kinds i kind (omega arith) ∙ ap (λ (k : Kind). k ∷ rest) (sym c.index-kinds-i.is) in
    let at : c.loop-i.parts.items ≡ own_part rs kind ++ parts_of rest rs =
    kept.parts ∙ ap (λ (ks : List Kind). parts_of ks rs) split ∙ parts-cons kind rest rs in
    let any : (b : Bool) → reads_records kind || list_any reads_records rest ≡ b
    → list_any reads_records (drop i kinds) ≡ b =
    λ b is. ap (list_any reads_records) split ∙ is in
    record {
      parts = c.in_ok-kind_rows.ensures.rest rs (parts_of rest rs) at;
      pieces = λ later.
          c.in_ok-kind_rows.ensures.kept (c.reads_records-is_needed.ensures
          ∙ ap (list_any reads_records) (rest_whole kinds (i + 1)) ∙ later)
          ∙ kept.pieces (any true (ap (λ (b : Bool). reads_records kind || b) later
          ∙ or_true (reads_records kind)));
      rows = c.in_ok-push.ensures.items
          ∙ ap (λ (rows : List Row). c.loop-i.rows.items ++ rows ∷ [])
          (c.in_ok-kind_rows.ensures.rows rs (parts_of rest rs) at (λ reads. ap in_one
          (kept.pieces (any true (ap (λ (b : Bool). b || list_any reads_records rest) reads)))))
          ∙ ap (λ (all : List (List Row)). all ++ analyse kind.what rs ∷ []) kept.rows
          ∙ sym (rows-push (take i kinds) kind rs)
          ∙ ap (λ (ks : List Kind). rows_of ks rs)
          (ap (λ (k : Kind). take i kinds ++ k ∷ []) c.index-kinds-i.is
          ∙ sym (take_more kinds i kind (omega arith)));
    }
