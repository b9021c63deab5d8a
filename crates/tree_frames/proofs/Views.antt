-- What the pages of a map of frames hold.
use Rattle.std.proofs.Common.{◌≡◌, ℕ, List, [], ◌∷◌, Some, Bool, true, false, cond, refl, ap, ◌∙◌}
use Rattle.std.specs.Prelude.{Option}
use Rattle.std.specs.Option.{option_map}
use Rattle.std.specs.Ordering.{nat_cmp, is_eq, eq_by_cmp}
use Rattle.std.specs.Map.{lookup}
use Rattle.std.specs.BTreeMap.{BTreeMap}
use Rattle.std.specs.BTreeMap as tree
use Rattle.std.specs.FinMap.{get, get-empty, get-insert}
use Rattle.std.specs.Cmp.{nat_cmp_total}
use Rattle.std.proofs.lemmas.Option.{slice_get_read}
use Rattle.tree_frames.specs.declared.frame.Frame.{Frame}
use Rattle.tree_frames.specs.Fields.{pages_of}

mapped_if : (b : Bool) (f : Frame) (o : Option Frame) → cond b (Some f.bytes) (option_map (λ g. g.bytes) o) ≡ option_map (λ g. g.bytes) (cond b (Some f) o)
mapped_if true f o = refl
mapped_if false f o = refl

find_bytes : (es : List (ℕ × Frame)) (q : ℕ) → get (pages_of es) q ≡ option_map (λ f. f.bytes) (lookup (λ p. is_eq (nat_cmp q p)) es)
find_bytes [] q = get-empty nat_cmp q
find_bytes (e ∷ es) q = get-insert nat_cmp_total (pages_of es) e.0 e.1.bytes q ∙ ap (λ o. cond (eq_by_cmp nat_cmp q e.0) (Some e.1.bytes) o) (find_bytes es q) ∙ mapped_if (eq_by_cmp nat_cmp q e.0) e.1 _

-- the page of a number is what its frame holds
pub get-pages_of : (frames : BTreeMap ℕ Frame) (q : ℕ) → get (pages_of frames.entries) q ≡ option_map (λ f. f.bytes) (tree.get nat_cmp frames q)
get-pages_of frames q = find_bytes frames.entries q

pub ruleset get_pages = (get-pages_of, slice_get_read)
