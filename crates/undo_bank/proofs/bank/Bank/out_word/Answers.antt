use Rattle.std.specs.FinMap.{empty}
use Rattle.std.specs.Prelude.{Option, IfSome, is_some, unwrap_or, nat_lt}
use Rattle.std.proofs.Common.{◌≡◌, ◌+◌, ◌*◌, ◌<◌, ℕ, Some, None, true, ap, ◌∙◌, sym, arith}
use Rattle.std.proofs.lemmas.Bool.Decides.{nat_tests}
use Rattle.sl_model.specs.declared.bank.TheConstants.{OUTPUT_START}
use Rattle.sl_model.specs.Undo.{word_at}
use Rattle.undo_bank.specs.Areas.{Areas, bank_pages}
use Rattle.undo_bank.specs.Fields.{areas_of}
use Rattle.undo_bank.proofs.DenseLaws.{load_in-within}
use Rattle.undo_bank.proofs.LogLaws.{IsProgram-empty, word-output}
use Rattle.undo_bank.proofs.bank.Bank.out_word.Goals as goal

below : (index : ℕ) → index < 256 → nat_lt index 256 ≡ true
below index lt = grind (arith, nat_tests)

pub returns-clause-some : goal.returns-clause-some
returns-clause-some c =
    let size = c.self.invariant.output_size in
    ap is_some (c.load.ensures.value ∙ load_in-within c.self.inside.output (4 + 4 * c.args.index) 4 (omega arith)) ∙ sym (below c.args.index (omega arith))

if_some : (o : Option ℕ) (n : ℕ) → unwrap_or o 0 ≡ n → IfSome o (λ word. word ≡ n)
if_some None n is = tt
if_some (Some word) n is = is

pub returns-clause-word : goal.returns-clause-word
returns-clause-word c =
    let place : OUTPUT_START + (4 + 4 * c.args.index) ≡ OUTPUT_START + 4 + 4 * c.args.index = omega arith in
    if_some c.load.result (word_at (bank_pages c.args.self.now) (OUTPUT_START + 4 + 4 * c.args.index))
    (ap (λ o. unwrap_or o 0) c.load.ensures.value
    ∙ sym (word-output (areas_of c.self.inside) empty (4 + 4 * c.args.index) c.self.invariant IsProgram-empty (omega arith))
    ∙ ap (λ (a : Areas). word_at (bank_pages a) (OUTPUT_START + (4 + 4 * c.args.index))) c.self.view_is ∙ ap (word_at (bank_pages c.args.self.now)) place)
