-- The lists of the checkpoints, one after the other.
use Rattle.std.proofs.Common.{◌≡◌, ℕ, ◌-◌, ◌<◌, ◌≤◌, List, ap, ◌∙◌, sym}
use Rattle.rec_format.specs.declared.recording.Recording.{Recording}
use Rattle.rec_format.specs.declared.recording.ListedPage.{ListedPage}
use Rattle.rec_format.specs.Recorded.{end_place, checkpoint_at, listed_to, last_listing}
use Rattle.rec_format.proofs.Listed.{listed_to-before, last_listing-append}

-- the last listing by a checkpoint's own list, which stands behind the earlier ones
pub last_listing-before : (bytes : List ℕ) (rec : Recording) (k number : ℕ) (pages : List ListedPage) → 0 < k → k ≤ end_place rec → pages ≡ (checkpoint_at rec k).pages
    → last_listing bytes (listed_to rec k) number ≡ last_listing (last_listing bytes (listed_to rec (k - 1)) number) pages number
last_listing-before bytes rec k number pages some within is =
    ap (λ l. last_listing bytes l number) (listed_to-before rec k some within)
    ∙ last_listing-append bytes (listed_to rec (k - 1)) (checkpoint_at rec k).pages number
    ∙ ap (λ l. last_listing (last_listing bytes (listed_to rec (k - 1)) number) l number) (sym is)
