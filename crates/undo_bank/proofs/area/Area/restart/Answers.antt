use Rattle.std.proofs.Common.{◌≡◌, ◌+◌, ◌*◌, ◌≤◌, ◌<◌, ℕ, List, length, refl, ap, ◌∙◌, arith, get_or}
use Rattle.std.specs.Prelude.{unwrap_or}
use Rattle.std.proofs.lemmas.List.{length-replicate}
use Rattle.std.proofs.lemmas.List.Elements.{All-replicate}
use Rattle.undo_bank.specs.Dense.{store_in}
use Rattle.undo_bank.proofs.DenseLaws.{HoldsWords-zeros, HoldsWords-more, store_in-within, stored_in, length-stored, All-stored}
use Rattle.undo_bank.proofs.area.Area.restart.Goals as goal

pub loop-word-init : goal.loop-word-init
loop-word-init c =
    let n : ℕ = length c.args.self.now in
    let long : length c.clear.new.self ≡ n = ap length c.clear.ensures ∙ length-replicate {A = ℕ} n 0 in
    record {
      words = rw c.clear.ensures (HoldsWords-zeros n c.requires.whole);
      size = long;
      bytes = rw c.clear.ensures (All-replicate (λ b. b < 256) n 0 (omega arith));
      offset = refl;
    }

pub overflow_add-offset : goal.overflow_add-offset
overflow_add-offset c = omega (arith, c.loop-word.invariant.offset, c.loop-word-test.true, c.requires.few)

pub loop-word-preserved : goal.loop-word-preserved
loop-word-preserved c =
    let bytes : List ℕ = c.loop-word.self in
    let k : ℕ = c.loop-word.word-index in
    let word : ℕ = get_or c.args.words.now k 0 in
    let inside : 4 * k + 4 ≤ length c.loop-word.self = omega (arith, c.loop-word.invariant.size, c.requires.fits, c.loop-word-test.true) in
    let is : c.store.new.self ≡ stored_in c.loop-word.self (4 * k) 4 word =
    c.store.ensures.bytes ∙ ap (λ n. unwrap_or (store_in c.loop-word.self n 4 word) c.loop-word.self) c.loop-word.invariant.offset
    ∙ ap (λ o. unwrap_or o c.loop-word.self) (store_in-within c.loop-word.self (4 * k) 4 word inside) in
    record {
      words = rw is (HoldsWords-more c.args.words.now c.loop-word.self k inside (omega (arith, c.type_inv.words k)) c.loop-word.invariant.words);
      size = ap length is ∙ length-stored c.loop-word.self (4 * k) 4 word ∙ c.loop-word.invariant.size;
      bytes = rw is (All-stored c.loop-word.self (4 * k) 4 word c.loop-word.invariant.bytes);
      offset = omega (arith, c.loop-word.invariant.offset);
    }
