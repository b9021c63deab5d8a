use Rattle.std.proofs.Common.{◌≡◌, ◌+◌, ◌∷◌, ◌++◌, [], List, length, take, ap, sym, subst, ◌∙◌, arith, length-append, append_assoc}
use Rattle.rec_format.specs.declared.recording.ListedPage.{ListedPage}
use Rattle.checkpoints.specs.declared.versions.Version.{Version}
use Rattle.checkpoints.specs.Versions.{AreListings}
use Rattle.rec_format.proofs.Listed.{take_item}
use Rattle.checkpoints.proofs.Listings.{listings-added, added_is}
use Rattle.checkpoints.proofs.versions.Versions.add_list.Goals as goal

pub loop-place-preserved : goal.loop-place-preserved
loop-place-preserved c =
    let kept = c.loop-place.invariant in
    let added = c.in_ok-add.ensures.added in
    let item = c.index-listed-place.result in
    let listed = c.args.listed.now in
    record {
      chain = c.add.ensures.chain;
      counts = c.add.ensures.counts ∙ kept.counts;
      long = omega (arith, ap length added.items, length-append c.loop-place.self.items.items (added.version ∷ []), kept.long);
      listed = λ rec before some is are.
          let more : before ++ take (c.loop-place.place + 1) listed ≡ (before ++ take c.loop-place.place listed) ++ item ∷ [] =
          ap (λ l. before ++ l) (take_item listed c.loop-place.place item (omega arith) c.index-listed-place.is)
          ∙ sym (append_assoc before (take c.loop-place.place listed) (item ∷ [])) in
          subst (λ (vs : List Version). AreListings rec vs (before ++ take (c.loop-place.place + 1) listed)) (sym added.items)
          (subst (λ (ls : List ListedPage). AreListings rec (c.loop-place.self.items.items ++ added.version ∷ []) ls) (sym more)
          (listings-added rec c.loop-place.self.items.items (before ++ take c.loop-place.place listed) added.version item
          (kept.listed rec before some is are)
          (added_is rec item listed c.args.at c.loop-place.place added.version some is added.page added.at added.place (omega arith) c.index-listed-place.is)));
    }
