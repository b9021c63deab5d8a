use Rattle.std.proofs.Common.{◌≡◌, ℕ, ◌⊎◌, inl, inr, refl, List, [], ◌∷◌, ◌++◌, Option, None, append-nil, sym, ap, ◌∙◌}
use Rattle.std.specs.List.{filter_map, cons_option}
use Rattle.std.proofs.lemmas.List.Elements.{filter_map-append}
use Rattle.tracer_lang.specs.declared.record.Record.{Record}
use Rattle.analysers.specs.declared.part.Part.{Part}
use Rattle.call_log.specs.declared.breaks.Break.{Break}
use Rattle.epoch_core.specs.declared.post.PostValue.{PostValue}
use Rattle.epoch_core.specs.declared.post.PostValue.TheVariants.{Broke, Skipped}
use Rattle.ordered_merge.specs.Ordered.{ran_records, ran_parts}
use Rattle.ordered_merge.proofs.ordering.left_by.Goals as goal

pub loop-value-preserved-in-Continue-branch-2 : goal.loop-value-preserved-in-Continue-branch-2
loop-value-preserved-in-Continue-branch-2 c =
    let so_far = c.loop-value.yielded in
    let value = c.in-Some.value in
    record {
      records = c.in_ok-push-in-Ran.ensures.items
          ∙ ap (λ (all : List (List Record)). all ++ c.in-Ran.records ∷ []) c.loop-value.invariant.records
          ∙ ap (λ (v : PostValue). filter_map ran_records so_far ++ filter_map ran_records (v ∷ []))
          (sym c.in-Ran.is)
          ∙ sym (filter_map-append ran_records so_far (value ∷ []));
      parts = c.in_ok-push-in-Ran-2.ensures.items
          ∙ ap (λ (all : List (List Part)). all ++ c.in-Ran.parts ∷ []) c.loop-value.invariant.parts
          ∙ ap (λ (v : PostValue). filter_map ran_parts so_far ++ filter_map ran_parts (v ∷ []))
          (sym c.in-Ran.is)
          ∙ sym (filter_map-append ran_parts so_far (value ∷ []));
    }

-- a value that leaves nothing
kept : {X : Type 0} (h : PostValue → Option X) (lefts : List X) (so_far : List PostValue)
    (value : PostValue) → h value ≡ None → lefts ≡ filter_map h so_far
    → lefts ≡ filter_map h (so_far ++ value ∷ [])
kept h lefts so_far value none is =
    is
    ∙ sym (append-nil (filter_map h so_far))
    ∙ ap (λ o. filter_map h so_far ++ cons_option o []) (sym none)
    ∙ sym (filter_map-append h so_far (value ∷ []))

none_of : {X : Type 0} (h : PostValue → Option X) (value : PostValue)
    → ((first : Break) → h (Broke first) ≡ None) → ((below : ℕ) → h (Skipped below) ≡ None)
    → ((first : Break) × value ≡ Broke first) ⊎ ((below : ℕ) × value ≡ Skipped below)
    → h value ≡ None
none_of h value broke skipped (inl (first, is)) = ap h is ∙ broke first
none_of h value broke skipped (inr (below, is)) = ap h is ∙ skipped below

pub loop-value-preserved : goal.loop-value-preserved
loop-value-preserved c =
    let so_far = c.loop-value.yielded in
    let value = c.in-Some.value in
    record {
      records = kept ran_records c.loop-value.left.records.items so_far value
          (none_of ran_records value (λ first. refl) (λ below. refl) c.in-Broke.is) c.loop-value.invariant.records;
      parts = kept ran_parts c.loop-value.left.parts.items so_far value
          (none_of ran_parts value (λ first. refl) (λ below. refl) c.in-Broke.is) c.loop-value.invariant.parts;
    }
