use Rattle.std.proofs.Common.{◌≡◌, ◌≤◌, ◌++◌, ℕ, List, replicate, length, drop, take, ap, ◌∙◌, sym, arith, get_or}
use Rattle.std.proofs.lemmas.List.{take_at, length-replicate}
use Rattle.undo_bank.proofs.DenseLaws.{get_or-zeros, zeros-cleared}
use Rattle.undo_bank.proofs.area.Area.clear.Goals as goal

-- a Vec whose first bytes were made 0, where the others are 0, has zeros
cleared : (len : ℕ) (buffer new items : List ℕ) (count : ℕ) → buffer ≡ items → len ≡ length items → count ≤ length items → ((i : ℕ) → count ≤ i → get_or items i 0 ≡ 0)
    → new ≡ replicate count 0 ++ drop count buffer → take len (new ++ drop (length new) items) ≡ replicate (length items) 0
cleared len buffer new items count same long within zeros is =
    let now : new ≡ replicate (length items) 0 = is ∙ ap (λ l. replicate {A = ℕ} count 0 ++ drop count l) same ∙ zeros-cleared items count within zeros in
    take_at new (drop (length new) items) len (ap length now ∙ length-replicate {A = ℕ} (length items) 0 ∙ sym long) ∙ now

pub invariant_of-self : goal.invariant_of-self
invariant_of-self c =
    let n = length c.self.inside.bytes.items in
    let is = cleared c.self.inside.bytes.len c.deref_mut.result.now c.zero.new.bytes c.self.inside.bytes.items c.self.inside.written c.deref_mut.ensures.value
    c.self.inside.bytes.ok.0 c.self.invariant.within c.self.invariant.zero c.zero.ensures in
    record { within = omega arith; zero = λ index any. rw is (get_or-zeros n index) }

pub returns : goal.returns
returns c =
    cleared c.self.inside.bytes.len c.deref_mut.result.now c.zero.new.bytes c.self.inside.bytes.items c.self.inside.written c.deref_mut.ensures.value
    c.self.inside.bytes.ok.0 c.self.invariant.within c.self.invariant.zero c.zero.ensures
    ∙ ap (λ l. replicate (length l) 0) c.self.view_is
