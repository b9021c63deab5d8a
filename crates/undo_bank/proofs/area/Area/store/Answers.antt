use Rattle.std.proofs.Common.{◌≡◌, ◌+◌, ◌<◌, ◌≤◌, take, drop, length, sym, ap, ◌∙◌, arith, ℕ, List, ◌++◌, get_or}
use Rattle.std.specs.Prelude.{is_some, unwrap_or}
use Rattle.std.proofs.lemmas.List.{take_at}
use Rattle.sl_model.specs.Pages.{low_bytes, put_bytes}
use Rattle.sl_model.proofs.PagesLaws.{length-low_bytes, length-put_bytes}
use Rattle.undo_bank.proofs.DenseLaws.{store_in-within, store_in-past, get_or-put}
use Rattle.undo_bank.proofs.area.Area.store.Goals as goal

pub returns-then-end-len-clause-done : goal.returns-then-end-len-clause-done
returns-then-end-len-clause-done c =
    let over : length c.args.self.now < c.args.offset + c.args.width = omega (arith, c.self.inside.bytes.ok.0, ap length c.self.view_is) in
    ap is_some (sym (store_in-past c.args.self.now c.args.offset c.args.width c.args.value over))

pub returns-then-end-len-clause-bytes : goal.returns-then-end-len-clause-bytes
returns-then-end-len-clause-bytes c =
    let over : length c.args.self.now < c.args.offset + c.args.width = omega (arith, c.self.inside.bytes.ok.0, ap length c.self.view_is) in
    ap (λ o. unwrap_or o c.args.self.now) (sym (store_in-past c.args.self.now c.args.offset c.args.width c.args.value over))

-- a Vec whose whole buffer was written has what was written
written : (len : ℕ) (new rest : List ℕ) → length new ≡ len → take len (new ++ drop (length new) rest) ≡ new
written len new rest long = take_at new (drop (length new) rest) len long

pub invariant_of-self : goal.invariant_of-self
invariant_of-self c =
    let before : length c.deref_mut.result.now ≡ length c.self.inside.bytes.items = ap length c.deref_mut.ensures.value in
    let long : length c.write.new.bytes ≡ c.self.inside.bytes.len =
    omega (arith, ap length c.write.ensures, length-put_bytes c.deref_mut.result.now c.args.offset (low_bytes c.args.width c.args.value), before, c.self.inside.bytes.ok.0) in
    let is = written c.self.inside.bytes.len c.write.new.bytes c.self.inside.bytes.items long in
    record {
      within = rw is (omega (arith, c.self.invariant.within, c.self.inside.bytes.ok.0));
      zero = λ index behind. rw is (ap (λ l. get_or l index 0) c.write.ensures
          ∙ get_or-put c.deref_mut.result.now c.args.offset (low_bytes c.args.width c.args.value) index (omega (arith, length-low_bytes c.args.width c.args.value))
          ∙ ap (λ l. get_or l index 0) c.deref_mut.ensures.value ∙ c.self.invariant.zero index (omega arith));
    }

pub returns-clause-done : goal.returns-clause-done
returns-clause-done c =
    let inside : c.args.offset + c.args.width ≤ length c.args.self.now = omega (arith, c.self.inside.bytes.ok.0, ap length c.self.view_is) in
    ap is_some (sym (store_in-within c.args.self.now c.args.offset c.args.width c.args.value inside))

pub returns-clause-bytes : goal.returns-clause-bytes
returns-clause-bytes c =
    let before : length c.deref_mut.result.now ≡ length c.self.inside.bytes.items = ap length c.deref_mut.ensures.value in
    let long : length c.write.new.bytes ≡ c.self.inside.bytes.len =
    omega (arith, ap length c.write.ensures, length-put_bytes c.deref_mut.result.now c.args.offset (low_bytes c.args.width c.args.value), before, c.self.inside.bytes.ok.0) in
    let inside : c.args.offset + c.args.width ≤ length c.args.self.now = omega (arith, c.self.inside.bytes.ok.0, ap length c.self.view_is) in
    written c.self.inside.bytes.len c.write.new.bytes c.self.inside.bytes.items long ∙ c.write.ensures
    ∙ ap (λ l. put_bytes l c.args.offset (low_bytes c.args.width c.args.value)) (c.deref_mut.ensures.value ∙ c.self.view_is)
    ∙ ap (λ o. unwrap_or o c.args.self.now) (sym (store_in-within c.args.self.now c.args.offset c.args.width c.args.value inside))
