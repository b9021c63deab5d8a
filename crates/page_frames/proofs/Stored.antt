-- A store, as a bus sees it.
use Rattle.std.proofs.Common.{◌≡◌, ℕ, List, Bool, true, false, refl, ap, ◌∙◌, sym, subst}
use Rattle.std.specs.Prelude.{Option, Some, None, is_some, unwrap_or, if◌then◌else◌}
use Rattle.std.specs.Option.{option_map}
use Rattle.sl_model.specs.Pages.{Pages, bytes_at, store_at, set_bytes, low_bytes}
use Rattle.sl_model.specs.Marks.{MarksGoOn}
use Rattle.sl_model.proofs.MarksLaws.{MarksGoOn-same}
use Rattle.page_frames.specs.MarkedPages.{MarkedPages, with_bytes}
use Rattle.page_frames.proofs.Marking.{mark_bytes-goes_on}

mapped_if : (pages : Pages) (bytes : Option (List ℕ)) (now : Pages) → is_some bytes ≡ is_some (option_map {U = Pages} (λ _. now) bytes)
mapped_if pages None now = refl
mapped_if pages (Some bytes) now = refl

-- a store is done where its bytes are mapped
pub is_some-store_at : (pages : Pages) (address width value : ℕ) → is_some (bytes_at pages address width) ≡ is_some (store_at pages address width value)
unfolding store_at
is_some-store_at pages address width value = mapped_if pages (bytes_at pages address width) (set_bytes pages address (low_bytes width value))

stored_if : (pages now : Pages) (bytes : Option (List ℕ)) (b : Bool) → b ≡ is_some bytes → (if b then now else pages) ≡ unwrap_or (option_map (λ _. now) bytes) pages
stored_if pages now None b e = rw e refl
stored_if pages now (Some bytes) b e = rw e refl

pub unwrap_or-store_at : (pages : Pages) (address width value : ℕ) (b : Bool) → b ≡ is_some (bytes_at pages address width)
    → (if b then set_bytes pages address (low_bytes width value) else pages) ≡ unwrap_or (store_at pages address width value) pages
unfolding store_at
unwrap_or-store_at pages address width value b e = stored_if pages (set_bytes pages address (low_bytes width value)) (bytes_at pages address width) b e

pages_if : (b : Bool) (m : MarkedPages) (address : ℕ) (bytes : List ℕ) → (if b then with_bytes m address bytes else m).pages ≡ (if b then set_bytes m.pages address bytes else m.pages)
pages_if true m address bytes = refl
pages_if false m address bytes = refl

pub pages-stored : (m after : MarkedPages) (address width value : ℕ) (b : Bool) → b ≡ is_some (bytes_at m.pages address width) → after ≡ (if b then with_bytes m address (low_bytes width value) else m)
    → after.pages ≡ unwrap_or (store_at m.pages address width value) m.pages
pages-stored m after address width value b mapped is = ap (λ v. v.pages) is ∙ pages_if b m address (low_bytes width value) ∙ unwrap_or-store_at m.pages address width value b mapped

pub marks-stored : (m after : MarkedPages) (address : ℕ) (bytes : List ℕ) (b : Bool) → after ≡ (if b then with_bytes m address bytes else m) → MarksGoOn true m.pages m.dirty after.pages after.dirty
marks-stored m after address bytes true is = subst (λ (v : MarkedPages). MarksGoOn true m.pages m.dirty v.pages v.dirty) (sym is) (mark_bytes-goes_on m.pages m.dirty address bytes)
marks-stored m after address bytes false is = subst (λ (v : MarkedPages). MarksGoOn true m.pages m.dirty v.pages v.dirty) (sym is) (MarksGoOn-same true m.pages m.dirty)
