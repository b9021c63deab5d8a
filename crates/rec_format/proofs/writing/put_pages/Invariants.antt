use Rattle.std.proofs.Common.{◌≡◌, ◌++◌, length, take}
use Rattle.std.specs.List.{flat_map}
use Rattle.rec_format.specs.Spelling.{word, listed_page}
use Rattle.rec_format.proofs.writing.put_pages.Given as goal

abbrev pub invariant-loop-page : goal.invariant-loop-page
invariant-loop-page l = l.out.items ≡ l.fn.out.items ++ word (length l.pages) ++ flat_map listed_page (take l.page-index l.pages)
