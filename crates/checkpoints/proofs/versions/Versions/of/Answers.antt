use Rattle.std.proofs.Common.{◌≡◌, ◌+◌, ◌∷◌, ◌++◌, [], List, ℕ, length, ap, sym, subst, ◌∙◌, arith, length-append, Option}
use Rattle.rec_format.specs.declared.recording.ListedPage.{ListedPage}
use Rattle.rec_format.specs.Recorded.{listed_to, checkpoint_at}
use Rattle.rec_format.proofs.Listed.{listed_to-next}
use Rattle.checkpoints.specs.declared.versions.Version.{Version}
use Rattle.checkpoints.specs.Versions.{AreListings, IsChain}
use Rattle.checkpoints.proofs.Listings.{length-listings, counts-added, list_fits}
use Rattle.checkpoints.proofs.versions.Versions.of.Goals as goal

pub add_list-requires-clause-few : goal.add_list-requires-clause-few
add_list-requires-clause-few c =
    let rec = c.args.rec.now in
    omega (
      arith,
      length-listings rec c.loop-k.versions.items.items (listed_to rec c.loop-k.k) c.loop-k.invariant.listed,
      list_fits rec c.loop-k.k c.requires (omega (arith, c.len.ensures)),
      ap length (c.as_slice.ensures ∙ ap (λ d. d.pages) c.checkpoint_of.ensures),
      c.loop-k.versions.items.ok.0,
    )

pub add_count-requires-in-loop-k : goal.add_count-requires-in-loop-k
add_count-requires-in-loop-k c =
    let rec = c.args.rec.now in
    let pages = (checkpoint_at rec (c.loop-k.k + 1)).pages in
    let same : c.as_slice.result.now ≡ pages = c.as_slice.ensures ∙ ap (λ d. d.pages) c.checkpoint_of.ensures in
    let listed = c.in_ok-add_list.ensures.listed rec (listed_to rec c.loop-k.k) (omega arith) same c.loop-k.invariant.listed in
    record {
      few = omega (
        arith,
        length-listings rec c.add_list.new.self.items.items (listed_to rec c.loop-k.k ++ c.as_slice.result.now) listed,
        length-append (listed_to rec c.loop-k.k) c.as_slice.result.now,
        ap length same,
        list_fits rec c.loop-k.k c.requires (omega (arith, c.len.ensures)),
        c.add_list.new.self.items.ok.0,
      );
    }

pub loop-k-preserved : goal.loop-k-preserved
loop-k-preserved c =
    let rec = c.args.rec.now in
    let k = c.loop-k.k in
    let pages = (checkpoint_at rec (k + 1)).pages in
    let same : c.as_slice.result.now ≡ pages = c.as_slice.ensures ∙ ap (λ d. d.pages) c.checkpoint_of.ensures in
    let before = c.add_list.new.self in
    let added = c.in_ok-add_list.ensures.listed rec (listed_to rec k) (omega arith) same c.loop-k.invariant.listed in
    let next : listed_to rec k ++ c.as_slice.result.now ≡ listed_to rec (k + 1) =
    ap (λ l. listed_to rec k ++ l) same ∙ sym (listed_to-next rec k (omega (arith, c.len.ensures))) in
    let listed = subst (λ (l : List ListedPage). AreListings rec before.items.items l) next added in
    let items = c.add_count-in-loop-k.ensures.items in
    record {
      chain = subst (λ (h : List (Option ℕ)). IsChain h c.add_count-in-loop-k.new.self.items.items) (sym c.add_count-in-loop-k.ensures.heads)
          (subst (λ (l : List Version). IsChain before.heads l) (sym (ap (λ v. v.items) items)) c.add_list.ensures.chain);
      listed = subst (λ (l : List Version). AreListings rec l (listed_to rec (k + 1))) (sym (ap (λ v. v.items) items)) listed;
      counts = counts-added rec k c.loop-k.versions.counts.items c.add_count-in-loop-k.new.self.counts.items (length before.items.items)
          c.loop-k.invariant.counts
          (c.in_ok-add_count-2.ensures.counts ∙ ap (λ l. l ++ length before.items.items ∷ []) (ap (λ v. v.items) c.add_list.ensures.counts))
          (length-listings rec before.items.items (listed_to rec (k + 1)) listed);
    }
