use Rattle.std.proofs.Common.{◌≡◌, ◌+◌, ◌-◌, ◌<◌, ◌∷◌, [], drop, length, ap, sym, subst, ◌∙◌, arith, List}
use Rattle.std.proofs.lemmas.Option.{get_or_from_slice_get}
use Rattle.rec_format.specs.declared.recording.ListedPage.{ListedPage}
use Rattle.rec_format.specs.Recorded.{end_place, listed_to}
use Rattle.rec_format.proofs.Listed.{drop_item}
use Rattle.sl_model.specs.Pages.{Pages}
use Rattle.checkpoints.specs.Putting.{ArePut}
use Rattle.checkpoints.proofs.Puts.{put-none}
use Rattle.checkpoints.proofs.Listings.{item_among, page_item, drop_all}
use Rattle.checkpoints.proofs.kept.Checkpoints.put_lists.Goals as goal

pub loop-left-init : goal.loop-left-init
loop-left-init c =
    let listed = listed_to c.args.self.now.rec c.args.k in
    let none : drop c.count_to-left.result listed ≡ [] = ap (λ n. drop n listed) c.count_to-left.ensures.count ∙ drop_all listed in
    record {
      within = omega (arith, c.count_to-left.ensures.count);
      put = subst (λ (l : List ListedPage). ArePut c.args.frames.now.pages l c.clear_dirty.new.self) (sym none)
          (subst (λ (p : Pages). ArePut p [] c.clear_dirty.new.self) (ap (λ m. m.pages) c.clear_dirty.ensures) (put-none c.clear_dirty.new.self (ap (λ m. m.dirty) c.clear_dirty.ensures)));
    }

pub loop-left-preserved : goal.loop-left-preserved
loop-left-preserved c =
    let rec = c.args.self.now.rec in
    let listed = listed_to rec c.args.k in
    let left = c.loop-left.left - 1 in
    let one : left + 1 ≡ c.loop-left.left = omega arith in
    let lt : left < length listed = omega (arith, c.loop-left.invariant.within) in
    let item = page_item listed left lt in
    let at = item_among rec c.args.k (end_place rec) left c.requires (omega arith) lt ∙ item.1 in
    let more : drop left listed ≡ item.0 ∷ drop c.loop-left.left listed =
    drop_item listed left item.0 lt (sym (get_or_from_slice_get listed left item.0 item.0 item.1)) ∙ ap (λ n. item.0 ∷ drop n listed) one in
    record {
      within = omega (arith, c.loop-left.invariant.within);
      put = subst (λ (l : List ListedPage). ArePut c.args.frames.now.pages l c.put_listing.new.frames) (sym more)
          (c.put_listing.ensures c.args.frames.now.pages (drop c.loop-left.left listed) item.0 at c.loop-left.invariant.put);
    }
