-- Pages of zeros that are mapped where none stands.
use Rattle.std.specs.Prelude.{ℕ, zero, suc, ◌+◌, List, replicate, if◌then◌else◌}
use Rattle.std.specs.FinMap.{insert, contains_key}
use Rattle.sl_model.specs.Pages.{Pages}

abbrev pub zero_page : List ℕ
zero_page = replicate 4096 0

-- a page of zeros, where none is mapped yet
abbrev pub map_page : Pages → ℕ → Pages
map_page pages page = if contains_key pages page then pages else insert pages page zero_page

-- the same for so many pages from one on
unfoldable pub map_pages : Pages → ℕ → ℕ → Pages
map_pages pages first zero = pages
map_pages pages first (suc count) = map_pages (map_page pages first) (first + 1) count
