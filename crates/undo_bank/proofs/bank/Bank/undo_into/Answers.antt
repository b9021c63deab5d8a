use Rattle.std.specs.Prelude.{unwrap_or}
use Rattle.std.specs.FinMap.{empty}
use Rattle.std.proofs.Common.{◌≡◌, ◌-◌, ℕ, suc, List, true, refl, ap, ◌∙◌, sym, arith}
use Rattle.sl_model.specs.Pages.{Pages}
use Rattle.sl_model.specs.Undo.{undone, entries_at, log_of}
use Rattle.sl_model.proofs.MarksLaws.{MarksGoOn-then, MarksGoOn-same}
use Rattle.undo_bank.specs.Dense.{store_in}
use Rattle.undo_bank.specs.Areas.{Areas, AreAreas, areas_over, bank_pages}
use Rattle.undo_bank.specs.Fields.{areas_of}
use Rattle.undo_bank.proofs.DenseLaws.{store_in-within, stored_in}
use Rattle.undo_bank.proofs.LogLaws.{IsProgram-empty, AreAreas-emptied, log-emptied, undone-newest, undone-none}
use Rattle.undo_bank.proofs.bank.Bank.undo_into.Goals as goal

pub loop-index-init : goal.loop-index-init
loop-index-init c = record {
  pages = ap (λ n. undone (entries_at (bank_pages c.args.self.now) n) c.args.f.now.pages) c.log_len-count.ensures.count;
  marks = MarksGoOn-same true c.args.f.now.pages c.args.f.now.dirty;
}

pub loop-index-preserved : goal.loop-index-preserved
loop-index-preserved c =
    let bank : Pages = bank_pages c.args.self.now in
    let left : ℕ = c.loop-index.index - 1 in
    let one : suc (c.loop-index.index - 1) ≡ c.loop-index.index = omega arith in
    record {
      pages = ap (undone (entries_at (bank_pages c.args.self.now) (c.loop-index.index - 1))) c.put_back.ensures.pages
          ∙ sym (undone-newest (bank_pages c.args.self.now) c.loop-index.f.pages (c.loop-index.index - 1))
          ∙ ap (λ n. undone (entries_at (bank_pages c.args.self.now) n) c.loop-index.f.pages) one ∙ c.loop-index.invariant.pages;
      marks = MarksGoOn-then true c.args.f.now.pages c.args.f.now.dirty c.loop-index.f.pages c.loop-index.f.dirty c.put_back.new.f.pages c.put_back.new.f.dirty
          c.loop-index.invariant.marks c.put_back.ensures.marks;
    }

-- the number of entries that were put back stands in no area
AreAreas-counted : (a : Areas) (log : List ℕ) (count : ℕ) → AreAreas a → log ≡ stored_in a.log 0 4 0 → AreAreas (record a { log = log; last_log_len = count })
AreAreas-counted a log count are is =
    let still = AreAreas-emptied a log are is in
    record {
      code = still.code;
      frames = still.frames;
      log = still.log;
      output = still.output;
      code_size = still.code_size;
      frames_size = still.frames_size;
      log_size = still.log_size;
      output_size = still.output_size;
    }

counted : (a : Areas) (log : List ℕ) (count : ℕ) → log_of (bank_pages (record a { log = log; last_log_len = count })) ≡ log_of (bank_pages (record a { log = log }))
unfolding areas_over
counted a log count = refl

-- the log is written at its head
emptied : (a : Areas) (log : List ℕ) → AreAreas a → log ≡ unwrap_or (store_in a.log 0 4 0) a.log → log ≡ stored_in a.log 0 4 0
emptied a log are is =
    let size = are.log_size in
    is ∙ ap (λ o. unwrap_or o a.log) (store_in-within a.log 0 4 0 (omega arith))

pub invariant_of-self : goal.invariant_of-self
invariant_of-self c = AreAreas-counted (areas_of c.self.inside) c.store.new.self c.log_len-count.result c.self.invariant (emptied (areas_of c.self.inside) c.store.new.self c.self.invariant c.store.ensures.bytes)

pub returns-clause-pages : goal.returns-clause-pages
returns-clause-pages c =
    let none : 0 ≡ c.loop-index.index = omega arith in
    sym (undone-none (bank_pages c.args.self.now) c.loop-index.f.pages)
    ∙ ap (λ n. undone (entries_at (bank_pages c.args.self.now) n) c.loop-index.f.pages) none ∙ c.loop-index.invariant.pages

pub returns-clause-emptied : goal.returns-clause-emptied
returns-clause-emptied c =
    counted (areas_of c.self.inside) c.store.new.self c.log_len-count.result
    ∙ log-emptied (areas_of c.self.inside) empty c.store.new.self c.self.invariant IsProgram-empty (emptied (areas_of c.self.inside) c.store.new.self c.self.invariant c.store.ensures.bytes)
