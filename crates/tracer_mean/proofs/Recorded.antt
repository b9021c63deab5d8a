-- The record of a tracer whose body came to an outcome.
use Rattle.std.proofs.Common.{◌≡◌, ℕ, List, [], refl, sym, ap, ◌∙◌}
use Rattle.std.specs.Prelude.{slice_index_or}
use Rattle.sl_model.specs.State.{State}
use Rattle.tracer_lang.specs.declared.record.Record.{Record}
use Rattle.tracer_lang.specs.Tree.{TracepointTree, ScriptTree}
use Rattle.tracer_lang.specs.Meaning.{Outcome, no_tracepoint, opening_locals, without_memory, tracer_meaning, end_of, meaning, record_of}

abbrev pub left_by : State → ℕ → Outcome → Record
left_by s point o = record {
  count = s.count;
  point = point;
  pc = s.pc;
  words = (end_of o).1.words;
  outcome = (end_of o).0;
}

pub recorded : (script : ScriptTree) (point : ℕ) (s : State) (t : TracepointTree)
    (items words : List ℕ) (o : Outcome)
    → slice_index_or script.tracepoints point no_tracepoint ≡ t
    → items ≡ opening_locals t.locals [] → words ≡ []
    → tracer_meaning script t (without_memory s) (record {
      pages = s.pages;
      words = words;
      stores = 0;
      units = script.budget;
      brk = s.brk;
      locals = items;
    }) ≡ o
    → left_by s point o ≡ record_of script point s
unfolding meaning
recorded script point s t items words o named filled none is =
    rw (named, ← filled) (ap (left_by s point) (sym is) ∙ rw none refl)
