-- Listed pages that are put into memory, the last listing of a page first.
use Rattle.std.specs.Prelude.{◌≡◌, ℕ, ◌&&◌, List, nat_eq}
use Rattle.std.specs.List.{list_any}
use Rattle.std.specs.FinMap.{contains_key}
use Rattle.sl_model.specs.Pages.{Pages}
use Rattle.page_frames.specs.MarkedPages.{MarkedPages}
use Rattle.rec_format.specs.declared.recording.ListedPage.{ListedPage}
use Rattle.rec_format.specs.Recorded.{is_listed, put_all_listed}

-- the memory is what these listings make of an earlier one, and dirty are the pages of them that
-- are mapped
pub record ArePut (before : Pages) (listed : List ListedPage) (memory : MarkedPages) : Type 0 where
  pub pages : memory.pages ≡ put_all_listed before listed
  pub marked : (page : ℕ)
      → list_any (nat_eq page) memory.dirty ≡ (is_listed listed page && contains_key before page)
