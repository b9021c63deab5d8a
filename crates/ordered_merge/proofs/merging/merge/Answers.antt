use Rattle.std.proofs.Common.{◌≡◌, ℕ, List, Some, None, Ok, length, map, sym, ap, subst, ◌∙◌}
use Rattle.std.specs.List.{All, filter_map, slice_get}
use Rattle.analysers.specs.Pieces.{parts_of, in_one, merged_of}
use Rattle.epoch_core.specs.declared.post.Post.{Post}
use Rattle.epoch_core.specs.declared.post.PostValue.{PostValue}
use Rattle.ordered_merge.specs.Least.{IsLeast}
use Rattle.ordered_merge.specs.Ordered.{in_order, ran_records, ran_parts}
use Rattle.ordered_merge.proofs.Theorem.{merged_broke, merged_ran, least_is_first, all_own, none_broke}
use Rattle.ordered_merge.proofs.Placed.{values_are, records_are, parts_are}
use Rattle.ordered_merge.proofs.merging.merge.Goals as goal

pub returns-in-Some : goal.returns-in-Some
returns-in-Some c values long posted =
    let posts = c.args.posts.items in
    let broken = c.in-Some.broken in
    let least : IsLeast posts (Some broken) =
    subst (λ (ps : List Post). IsLeast ps (Some broken)) c.deref.ensures.value
    (subst (IsLeast c.deref.result.now) c.in-Some.is c.least_break.ensures) in
    merged_broke c.args.kinds.now values broken.epoch broken.first
    (least_is_first values posts broken posted least)

pub merge_pieces-requires : goal.merge_pieces-requires
merge_pieces-requires c =
    let (values, long, posted, has) = c.requires in
    let kinds = c.args.kinds.now in
    let posts = c.args.posts.items in
    let none : IsLeast posts None =
    subst (λ (ps : List Post). IsLeast ps None) c.deref.ensures.value
    (subst (IsLeast c.deref.result.now) c.in_default.is c.least_break.ensures) in
    let ordered : c.in_ok-values.values.items ≡ values =
    c.in_ok-values.ensures ∙ ap (λ (n : ℕ). in_order n posts) (sym long)
    ∙ values_are values posts posted (all_own values posts posted none) in
    c.in_ok-left.ensures.parts
    ∙ ap (filter_map ran_parts) ordered
    ∙ parts_are kinds values has
    ∙ ap (map (parts_of kinds)) (ap (filter_map ran_records) (sym ordered)
    ∙ sym c.in_ok-left.ensures.records)

pub returns : goal.returns
returns c values long posted =
    let kinds = c.args.kinds.now in
    let posts = c.args.posts.items in
    let none : IsLeast posts None =
    subst (λ (ps : List Post). IsLeast ps None) c.deref.ensures.value
    (subst (IsLeast c.deref.result.now) c.in_default.is c.least_break.ensures) in
    let ordered : c.in_ok-values.values.items ≡ values =
    c.in_ok-values.ensures ∙ ap (λ (n : ℕ). in_order n posts) (sym long)
    ∙ values_are values posts posted (all_own values posts posted none) in
    merged_ran kinds values (none_broke values posts posted none)
    ∙ ap Ok (ap (merged_of kinds) (sym (records_are values)
    ∙ ap in_one (ap (filter_map ran_records) (sym ordered) ∙ sym c.in_ok-left.ensures.records))
    ∙ sym c.in_ok-merge_pieces.ensures)
