use Rattle.std.proofs.Common.{◌≡◌, ◌≤◌, ◌++◌, ◌∷◌, [], List, ℕ, true, false, length, map, sym, ap, ◌∙◌, arith, append_assoc}
use Rattle.std.proofs.lemmas.List.{append-nil}
use Rattle.asm_text.specs.Lines.{code_of, has_label, front_name, behind_label, labels_within, labels_of}
use Rattle.asm_text.proofs.Labels.{same_labels, next_label, no_more_labels}
use Rattle.rv_asm.specs.declared.place.Label.{Label}
use Rattle.rv_asm.specs.declared.place.Place.{Place}
use Rattle.rv_asm.specs.Labels.{label_at}
use Rattle.rv_asm.proofs.survey.add_labels.Goals as goal

starts : (line code : List ℕ) → code ≡ code_of line → length code ≤ length line → labels_within (length code) code ≡ labels_of line
starts line code is within = same_labels (length code) (length line) code (omega arith) within ∙ ap (labels_within (length line)) is

pub loop-name-init : goal.loop-name-init
loop-name-init c = ap (λ (names : List (List ℕ)). c.args.labels.now ++ map (label_at c.args.place c.args.number) names)
    (starts _ _ c.code_of-code.ensures.value c.code_of-code.ensures.within)

one_more : (place : Place) (number : ℕ) (labels later whole : List Label) (code name after : List ℕ) → has_label code ≡ true → name ≡ front_name code → after ≡ behind_label code
    → later ≡ labels ++ label_at place number name ∷ []
    → labels ++ map (label_at place number) (labels_within (length code) code) ≡ whole
    → later ++ map (label_at place number) (labels_within (length after) after) ≡ whole
one_more place number labels later whole code name after label name_is after_is later_is before =
    ap (λ (ls : List Label). ls ++ map (label_at place number) (labels_within (length after) after)) later_is
    ∙ append_assoc labels (label_at place number name ∷ []) (map (label_at place number) (labels_within (length after) after))
    ∙ ap (λ (n : List ℕ). labels ++ label_at place number n ∷ map (label_at place number) (labels_within (length after) after)) name_is
    ∙ ap (λ (a : List ℕ). labels ++ label_at place number (front_name code) ∷ map (label_at place number) (labels_within (length a) a)) after_is
    ∙ ap (λ (names : List (List ℕ)). labels ++ map (label_at place number) names) (sym (next_label code label))
    ∙ before

pub loop-name-preserved : goal.loop-name-preserved
loop-name-preserved c = one_more c.args.place c.args.number _ _ _ _ c.in-Some.name.now _ c.in-Some.ensures.value.0 c.in-Some.ensures.value.1 c.in-Some.ensures.value.2
    (c.in_ok-add.ensures ∙ ap (λ s. c.loop-name.labels ++ record { name = c.in-Some.name.now; spot = s; line = c.args.number } ∷ []) c.spot_of-spot.ensures)
    c.loop-name.invariant

pub returns : goal.returns
returns c = sym (append-nil c.loop-name.labels)
    ∙ ap (λ (names : List (List ℕ)). c.loop-name.labels ++ map (label_at c.args.place c.args.number) names) (sym (no_more_labels _ c.in_default.ensures.value))
    ∙ c.loop-name.invariant
