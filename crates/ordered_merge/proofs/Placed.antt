-- The values of posts, each at the place of its epoch, and what the epochs that ran left.
use Rattle.std.proofs.Common.{◌≡◌, ℕ, ◌<◌, cond, eqb, List, [], ◌∷◌, ◌++◌, length, map, set, get_or, replicate, Some, ◌⊎◌, inl, inr, refl, sym, ap, subst, ◌∙◌, arith}
use Rattle.std.specs.List.{All, flat_map, filter_map, fold, slice_get}
use Rattle.std.proofs.lemmas.Bool.{cases_eq, ne_eqb}
use Rattle.std.proofs.lemmas.List.{ext_get_or, get_or-set_same, get_or-set_other, length-set, length-replicate}
use Rattle.std.proofs.lemmas.List.Sums.{sum_by-cons, fold_push}
use Rattle.std.proofs.lemmas.List.Elements.{All-head, All-tail}
use Rattle.std.proofs.lemmas.Option.{get_or_from_slice_get}
use Rattle.tracer_lang.specs.declared.record.Record.{Record}
use Rattle.analysers.specs.declared.kind.Kind.{Kind}
use Rattle.analysers.specs.declared.part.Part.{Part}
use Rattle.analysers.specs.Pieces.{parts_of, in_one}
use Rattle.epoch_core.specs.declared.post.Post.{Post}
use Rattle.epoch_core.specs.declared.post.PostValue.{PostValue}
use Rattle.epoch_core.specs.declared.post.PostValue.TheVariants.{Ran, Broke, Skipped}
use Rattle.epoch_core.specs.Posts.{Posted, posts_for, HasParts}
use Rattle.ordered_merge.specs.Merged.{records_in}
use Rattle.ordered_merge.specs.Ordered.{placed, in_order, ran_records, ran_parts}

pub in_order-nil : (epochs : ℕ) → in_order epochs [] ≡ replicate epochs (Skipped 0)
unfolding in_order
in_order-nil epochs = refl

pub in_order-push : (epochs : ℕ) (posts : List Post) (post : Post)
    → in_order epochs (posts ++ post ∷ []) ≡ set (in_order epochs posts) post.epoch post.value
unfolding in_order
in_order-push epochs posts post = fold_push placed (replicate epochs (Skipped 0)) posts post

length-placed : (values : List PostValue) (posts : List Post)
    → length (fold placed values posts) ≡ length values
length-placed values [] = refl
length-placed values (post ∷ posts) =
    length-placed (placed values post) posts ∙ length-set values post.epoch post.value

pub length-in_order : (epochs : ℕ) (posts : List Post) → length (in_order epochs posts) ≡ epochs
unfolding in_order
length-in_order epochs posts =
    length-placed (replicate epochs (Skipped 0)) posts ∙ length-replicate epochs (Skipped 0)

-- in the end a place holds what its posts say, where they all say the same
placed_reads : (target : ℕ → PostValue) (values : List PostValue) (posts : List Post) (k : ℕ)
    → All (λ (post : Post). post.value ≡ target post.epoch) posts → k < length values
    → (get_or values k (Skipped 0) ≡ target k) ⊎ (0 < posts_for k posts)
    → get_or (fold placed values posts) k (Skipped 0) ≡ target k
placed_reads target values [] k same within (inl is) = is
placed_reads target values [] k same within (inr some) = absurd (omega arith)
placed_reads target values (post ∷ posts) k same within has =
    let Same : Post → Type 0 = λ p. p.value ≡ target p.epoch in
    let own = post.value in
    placed_reads target (placed values post) posts k (All-tail Same post posts same)
    (omega (arith, within, length-set values post.epoch own))
    (elim (cases_eq post.epoch k) [
      | inl is ↦ inl (subst (λ n. get_or (set values n own) k (Skipped 0) ≡ target k) (sym is)
          (get_or-set_same values k own (Skipped 0) within
          ∙ All-head Same post posts same ∙ ap target is))
      | inr not ↦ elim has [
        | inl is ↦ inl (get_or-set_other values post.epoch k own (Skipped 0) (λ e. not (sym e)) ∙ is)
        | inr some ↦ inr (
            let one : ◌≡◌ {A = ℕ} (cond (eqb post.epoch k) 1 0) 0 =
            ap (λ b. cond b 1 0) (ne_eqb post.epoch k not) in
            omega (arith, some, one, sum_by-cons (λ (p : Post). cond (eqb p.epoch k) 1 0) post posts)
            )
      ]
    ])

-- where each post has its epoch's value, the values stand in their order
pub values_are : (values : List PostValue) (posts : List Post) → Posted values posts
    → All (λ (post : Post). slice_get values post.epoch ≡ Some post.value) posts
    → in_order (length values) posts ≡ values
unfolding in_order
values_are values posts posted own =
    let n = length values in
    let target : ℕ → PostValue = λ k. get_or values k (Skipped 0) in
    let empty = replicate n (Skipped 0) in
    let long : length (fold placed empty posts) ≡ n =
    length-placed empty posts ∙ length-replicate n (Skipped 0) in
    ext_get_or (Skipped 0) (fold placed empty posts) values long
    (λ k within.
    let epoch : k < n = omega arith in
    placed_reads target empty posts k
    (λ i d here. sym (get_or_from_slice_get values _ _ (Skipped 0) (own i d here)))
    (omega (arith, epoch, length-replicate {A = PostValue} n (Skipped 0)))
    (inr (omega (arith, posted.once k epoch))))

-- ---- what the epochs that ran left

pub records_are : (values : List PostValue)
    → in_one (filter_map ran_records values) ≡ flat_map records_in values
records_are [] = refl
records_are (Ran records parts ∷ values) = ap (λ (rs : List Record). records ++ rs) (records_are values)
records_are (Broke first ∷ values) = records_are values
records_are (Skipped below ∷ values) = records_are values

pub parts_are : (kinds : List Kind) (values : List PostValue) → All (HasParts kinds) values
    → filter_map ran_parts values ≡ map (parts_of kinds) (filter_map ran_records values)
parts_are kinds [] has = refl
parts_are kinds (Ran records parts ∷ values) has =
    ap (λ (ps : List Part). ps ∷ filter_map ran_parts values)
    (All-head (HasParts kinds) (Ran records parts) values has)
    ∙ ap (λ (rest : List (List Part)). parts_of kinds records ∷ rest)
    (parts_are kinds values (All-tail (HasParts kinds) (Ran records parts) values has))
parts_are kinds (Broke first ∷ values) has =
    parts_are kinds values (All-tail (HasParts kinds) (Broke first) values has)
parts_are kinds (Skipped below ∷ values) has =
    parts_are kinds values (All-tail (HasParts kinds) (Skipped below) values has)
