use Rattle.std.proofs.Common.{◌≡◌, ℕ, List, [], ◌∷◌, ◌++◌, codes, Option, ap, ◌∙◌, append_assoc}
use Rattle.sl_base.specs.Text.{word_text}
use Rattle.sledge_top.specs.Show.{word_at, shown}
use Rattle.sledge_top.proofs.show.push_line.Goals as goal

regrouped : (old a b c d : List ℕ) → (((old ++ a) ++ b) ++ c) ++ d ≡ old ++ (((a ++ b) ++ c) ++ d)
regrouped old a b c d = simp append_assoc

four_pushed : (old a b c d first second third fourth : List ℕ) → first ≡ old ++ a → second ≡ first ++ b → third ≡ second ++ c → fourth ≡ third ++ d → fourth ≡ old ++ (((a ++ b) ++ c) ++ d)
four_pushed old a b c d first second third fourth p q r s =
    s ∙ ap (λ (t : List ℕ). t ++ d) (r ∙ ap (λ (t : List ℕ). t ++ c) (q ∙ ap (λ (t : List ℕ). t ++ b) p)) ∙ regrouped old a b c d

pub returns : goal.returns
returns c =
    let old = c.args.out.now.items in
    let address = c.args.address in
    let before = c.extend_from_slice-2.new.self.items in
    four_pushed old (word_text address) (codes " ") (shown (word_at c.args.memory.now.pages address)) (10 ∷ []) c.extend_from_slice.new.self.items before c.push_shown.new.out.items c.push.new.self.items
    (c.in_ok-extend_from_slice.ensures.items ∙ ap (λ (t : List ℕ). old ++ t) (c.as_bytes.ensures ∙ c.word_text.ensures))
    c.in_ok-extend_from_slice-2.ensures.items
    (c.in_ok-push_shown.ensures ∙ ap (λ (word : Option ℕ). before ++ shown word) c.word_at.ensures)
    c.in_ok-push.ensures.items
