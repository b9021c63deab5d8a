-- Nothing is kept at the start.
use Rattle.std.specs.Ordering.{nat_cmp}
use Rattle.std.specs.BTreeMap.{get}
use Rattle.std.specs.Prelude.{unwrap_or}
use Rattle.std.proofs.Common.{◌≡◌, ℕ, ◌++◌, List, [], ◌∷◌, length, take, false, inl, refl, sym, ap, subst, ◌∙◌, Option, None}
use Rattle.std.specs.FinMap as map
use Rattle.sl_model.specs.Pages.{Pages}
use Rattle.page_frames.specs.MarkedPages.{MarkedPages}
use Rattle.rec_format.specs.declared.recording.CheckpointData.{CheckpointData}
use Rattle.call_recorder.specs.Listing.{page_in, within_bytes, kept_of, checkpoints_of, MOST_CHECKPOINT_BYTES}
use Rattle.call_recorder.specs.declared.kept.Kept.{Kept}
use Rattle.call_recorder.specs.Kept.{memory_after, AreKept, HasRoom}

none_kept : [] ≡ kept_of []
unfolding within_bytes
none_kept = refl

-- with no checkpoint, no listing and all the room
pub record IsNew (kept : Kept) : Type 0 where
  pub checkpoints : kept.checkpoints ≡ []
  pub listed : (q : ℕ) → get nat_cmp kept.memory.listed q ≡ None
  pub room : kept.room ≡ MOST_CHECKPOINT_BYTES
  pub going : kept.is_full ≡ false

pub starts : (kept : Kept) (f : MarkedPages) → IsNew kept → f.pages ≡ kept.memory.opening.pages → AreKept kept.memory.opening.pages [] kept f
starts kept f new same = record {
  listed = new.checkpoints ∙ none_kept;
  each = rw new.checkpoints tt;
  recorded = λ q. ap (λ (o : Option (List ℕ)). unwrap_or o (page_in kept.memory.opening.pages q)) (new.listed q) ∙ sym (ap (λ (p : Pages). page_in p q) (first kept.checkpoints));
  marked = λ q. inl (ap (λ (p : Pages). map.get p q) (same ∙ sym (first kept.checkpoints)));
  going = λ going. record {
    all = new.checkpoints;
    fits = λ more. ap (λ (l : List CheckpointData). within_bytes MOST_CHECKPOINT_BYTES (l ++ more)) new.checkpoints ∙ sym (ap (λ (l : List CheckpointData). l ++ within_bytes kept.room more) new.checkpoints ∙ ap (λ r. within_bytes r more) new.room);
  };
  full = λ full. let no = new.going in absurd cc;
}
  where
    first : (cs : List CheckpointData) → memory_after kept.memory.opening.pages (take (length cs) []) ≡ kept.memory.opening.pages
    first [] = refl
    first (c ∷ cs) = refl
