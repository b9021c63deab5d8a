use Rattle.std.proofs.Common.{◌≡◌, ◌++◌, ◌∷◌, [], ◌%◌, List, length, Some, None, refl, ap, sym, subst, ◌∙◌, arith, slice_set}
use Rattle.std.specs.Prelude.{not, is_some, slice_index_or}
use Rattle.checkpoints.specs.declared.versions.Version.{Version}
use Rattle.checkpoints.specs.Versions.{IsChain, version_of}
use Rattle.checkpoints.proofs.Chains.{IsChain-added, turned}
use Rattle.checkpoints.proofs.versions.Versions.add.Goals as goal

pub returns-clause-chain : goal.returns-clause-chain
returns-clause-chain c =
    let t = c.args.self.now in
    let items = t.items.items in
    let v : Version = record {
      page = c.args.page;
      at = c.args.at;
      place = c.args.place;
      older = slice_index_or t.heads (c.args.page % 4096) None;
      is_first = c.is_none-is_first.result;
    } in
    let count : c.len-count.result ≡ length items = omega (arith, c.len-count.ensures, t.items.ok.0) in
    let first : v.is_first ≡ not (is_some (version_of items (length items) v.page)) =
    turned (is_some c.find.result) c.is_none-is_first.result c.is_none-is_first.ensures ∙ ap (λ o. not (is_some o)) c.find.ensures.index ∙ ap (λ n. not (is_some (version_of items n v.page))) count in
    let added = IsChain-added t.heads items v c.requires.chain refl first in
    let more = c.push_reserved.ensures.items ∙ ap (λ l. l ++ v ∷ []) c.in_ok-reserve.ensures.items in
    subst (λ (n : _). IsChain (slice_set t.heads (c.args.page % 4096) (Some n)) c.push_reserved.new.self.items) (sym count)
    (subst (λ (l : List Version). IsChain (slice_set t.heads (c.args.page % 4096) (Some (length items))) l) (sym more) added)
