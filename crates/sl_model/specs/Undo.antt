-- The log of what a tracer stored over, and memory with all of it put back.
use Rattle.std.specs.Prelude.{ℕ, zero, suc, ◌+◌, ◌*◌, ◌==◌, ◌||◌, List, [], ◌∷◌, Bool, unwrap_or, if◌then◌else◌}
use Rattle.sl_model.specs.declared.bank.TheConstants.{LOG_START, ENTRY_SIZE}
use Rattle.sl_model.specs.Pages.{Pages, load_at, store_at}

-- one entry: the old value of so many bytes from an address on
pub record UndoEntry : Type 0 where
  pub address : ℕ
  pub width : ℕ
  pub old : ℕ

abbrev pub is_width : ℕ → Bool
is_width width = width == 1 || width == 2 || width == 4

-- Memory with an entry's old value put back. An entry of another width changes nothing, and one
-- with a byte that is not mapped changes nothing.
abbrev pub put_back : UndoEntry → Pages → Pages
put_back entry pages =
    if is_width entry.width
    then unwrap_or (store_at pages entry.address entry.width entry.old) pages
    else pages

-- memory with all entries put back, of which the newest stands first
unfoldable pub undone : List UndoEntry → Pages → Pages
undone [] pages = pages
undone (newest ∷ older) pages = undone older (put_back newest pages)

-- ---- the log in memory

-- the word at an address, or 0 where one of its bytes is not mapped
abbrev pub word_at : Pages → ℕ → ℕ
word_at pages address = unwrap_or (load_at pages address 4) 0

-- the address of an entry
abbrev pub entry_address : ℕ → ℕ
entry_address index = LOG_START + 4 + ENTRY_SIZE * index

-- the entry of a number, from 0
abbrev pub entry_at : Pages → ℕ → UndoEntry
entry_at pages index = record {
  address = word_at pages (entry_address index);
  width = word_at pages (entry_address index + 4);
  old = word_at pages (entry_address index + 8);
}

-- the first so many entries, the newest first
unfoldable pub entries_at : Pages → ℕ → List UndoEntry
entries_at pages zero = []
entries_at pages (suc count) = entry_at pages count ∷ entries_at pages count

-- how many entries the log has
abbrev pub log_count : Pages → ℕ
log_count pages = word_at pages LOG_START

-- the log, the newest entry first
abbrev pub log_of : Pages → List UndoEntry
log_of pages = entries_at pages (log_count pages)
