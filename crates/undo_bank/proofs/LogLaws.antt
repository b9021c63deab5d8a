-- The log of a bank, as words of its area.
use Rattle.std.specs.Prelude.{unwrap_or, ◌⊎◌}
use Rattle.std.specs.Ordering.{nat_cmp}
use Rattle.std.specs.FinMap.{get, empty, get-empty}
use Rattle.std.proofs.Common.{◌≡◌, ℕ, zero, suc, ◌+◌, ◌*◌, ◌%◌, ◌^◌, ◌<◌, ◌≤◌, ◌≢◌, List, [], ◌∷◌, length, None, true, false, refl, ap, ◌∙◌, sym, arith, inl, inr, ⊎_elim, add-one, ne_eqb}
use Rattle.std.proofs.lemmas.Bool.{cases_lt}
use Rattle.sl_model.specs.declared.bank.TheConstants.{LOG_START, OUTPUT_START, MOST_ENTRIES, LOG_SIZE}
use Rattle.sl_model.specs.Pages.{Pages, IsWidth, store_at}
use Rattle.sl_model.specs.Bank.{output_count}
use Rattle.sl_model.specs.Undo.{UndoEntry, is_width, put_back, undone, word_at, entry_address, entry_at, entries_at, log_count, log_of}
use Rattle.sl_model.proofs.PagesLaws.{AreWhole}
use Rattle.undo_bank.specs.Dense.{store_in, word_in}
use Rattle.undo_bank.specs.Areas.{Areas, AreAreas, IsDense, areas_over, IsProgram}
use Rattle.undo_bank.proofs.DenseLaws.{stored_in, store_in-within, length-stored, All-stored, load-stored, load-elsewhere}
use Rattle.undo_bank.proofs.AreasLaws.{load-laid, log-laid, output-laid}

-- ---- nothing mapped

pub IsProgram-empty : IsProgram empty
IsProgram-empty page some =
    let none : get {X = List ℕ} (empty {R = nat_cmp}) page ≡ None = get-empty nat_cmp page in
    absurd cc

pub AreWhole-empty : AreWhole empty
AreWhole-empty number = rw (get-empty nat_cmp number) tt

-- ---- words of log and output

word-log : (a : Areas) (base : Pages) (offset : ℕ) → AreAreas a → IsProgram base → offset < 2 ^ 28 → word_at (areas_over a base) (LOG_START + offset) ≡ word_in a.log offset
word-log a base offset are program inside = ap (λ o. unwrap_or o 0) (load-laid LOG_START a.log (areas_over a base) offset 4 (log-laid a base are program) (omega arith) inside)

pub log_count-areas : (a : Areas) (base : Pages) → AreAreas a → IsProgram base → log_count (areas_over a base) ≡ word_in a.log 0
log_count-areas a base are program = word-log a base 0 are program (omega arith)

pub word-output : (a : Areas) (base : Pages) (offset : ℕ) → AreAreas a → IsProgram base → offset < 2 ^ 28 → word_at (areas_over a base) (OUTPUT_START + offset) ≡ word_in a.output offset
word-output a base offset are program inside = ap (λ o. unwrap_or o 0) (load-laid OUTPUT_START a.output (areas_over a base) offset 4 (output-laid a base are program) (omega arith) inside)

pub output_count-areas : (a : Areas) (base : Pages) → AreAreas a → IsProgram base → output_count (areas_over a base) ≡ word_in a.output 0
output_count-areas a base are program = word-output a base 0 are program (omega arith)

-- ---- entries

-- the entry of a number
abbrev pub entry_in : List ℕ → ℕ → UndoEntry
entry_in log index = record {
  address = word_in log (4 + 12 * index);
  width = word_in log (4 + 12 * index + 4);
  old = word_in log (4 + 12 * index + 8);
}

pub same_entry : (address width old address' width' old' : ℕ) → address ≡ address' → width ≡ width' → old ≡ old'
    → ◌≡◌ {A = UndoEntry} (record { address = address; width = width; old = old }) (record { address = address'; width = width'; old = old' })
same_entry address width old address' width' old' first second third = rw (first, second, third) refl

pub entry_at-areas : (a : Areas) (base : Pages) (index : ℕ) → AreAreas a → IsProgram base → index ≤ MOST_ENTRIES → entry_at (areas_over a base) index ≡ entry_in a.log index
entry_at-areas a base index are program few =
    let first : entry_address index ≡ LOG_START + (4 + 12 * index) = omega arith in
    let second : entry_address index + 4 ≡ LOG_START + (4 + 12 * index + 4) = omega arith in
    let third : entry_address index + 8 ≡ LOG_START + (4 + 12 * index + 8) = omega arith in
    same_entry _ _ _ _ _ _
    (ap (word_at (areas_over a base)) first ∙ word-log a base (4 + 12 * index) are program (omega arith))
    (ap (word_at (areas_over a base)) second ∙ word-log a base (4 + 12 * index + 4) are program (omega arith))
    (ap (word_at (areas_over a base)) third ∙ word-log a base (4 + 12 * index + 8) are program (omega arith))

-- entries that are the same one by one
pub entries-same : (first second : Pages) (count : ℕ) → ((index : ℕ) → index < count → entry_at first index ≡ entry_at second index) → entries_at first count ≡ entries_at second count
unfolding entries_at
entries-same first second zero same = refl
entries-same first second (suc count) same =
    rw (same count (omega arith), entries-same first second count (λ index below. same index (omega arith))) refl

-- ---- an entry that is added

word-stored : (log : List ℕ) (offset value : ℕ) → offset + 4 ≤ length log → value < 2 ^ 32 → word_in (stored_in log offset 4 value) offset ≡ value
word-stored log offset value inside small =
    let whole : value % 256 ^ 4 ≡ value = omega arith in
    ap (λ o. unwrap_or o 0) (load-stored log offset 4 value inside) ∙ whole

word-elsewhere : (log : List ℕ) (offset value other : ℕ) → (other + 4 ≤ offset) ⊎ (offset + 4 ≤ other) → word_in (stored_in log offset 4 value) other ≡ word_in log other
word-elsewhere log offset value other outside = ap (λ o. unwrap_or o 0) (load-elsewhere log offset 4 value other 4 outside)

-- the log with the words of an entry, and one more in number
abbrev pub pushed : List ℕ → ℕ → ℕ → ℕ → ℕ → List ℕ
pushed log count address width old =
    stored_in (stored_in (stored_in (stored_in log (4 + 12 * count) 4 address) (4 + 12 * count + 4) 4 width) (4 + 12 * count + 8) 4 old) 0 4 (count + 1)

pub length-pushed : (log : List ℕ) (count address width old : ℕ) → length (pushed log count address width old) ≡ length log
length-pushed log count address width old =
    length-stored _ 0 4 (count + 1) ∙ length-stored _ (4 + 12 * count + 8) 4 old ∙ length-stored _ (4 + 12 * count + 4) 4 width ∙ length-stored log (4 + 12 * count) 4 address

-- the words of other entries stay
word-pushed_other : (log : List ℕ) (count address width old other : ℕ) → 4 ≤ other → (other + 4 ≤ 4 + 12 * count) ⊎ (4 + 12 * count + 12 ≤ other) → word_in (pushed log count address width old) other ≡ word_in log other
word-pushed_other log count address width old other entry outside =
    word-elsewhere _ 0 (count + 1) other (inr (omega arith))
    ∙ word-elsewhere _ (4 + 12 * count + 8) old other (⊎_elim (λ (before : other + 4 ≤ 4 + 12 * count). inl (omega arith)) (λ (behind : 4 + 12 * count + 12 ≤ other). inr (omega arith)) outside)
    ∙ word-elsewhere _ (4 + 12 * count + 4) width other (⊎_elim (λ (before : other + 4 ≤ 4 + 12 * count). inl (omega arith)) (λ (behind : 4 + 12 * count + 12 ≤ other). inr (omega arith)) outside)
    ∙ word-elsewhere log (4 + 12 * count) address other (⊎_elim (λ (before : other + 4 ≤ 4 + 12 * count). inl (omega arith)) (λ (behind : 4 + 12 * count + 12 ≤ other). inr (omega arith)) outside)

pub entry-pushed_other : (log : List ℕ) (count address width old index : ℕ) → index ≢ count → entry_in (pushed log count address width old) index ≡ entry_in log index
entry-pushed_other log count address width old index apart =
    same_entry _ _ _ _ _ _
    (word-pushed_other log count address width old (4 + 12 * index) (omega arith) (sides (4 + 12 * index) 0 (omega arith) (omega arith)))
    (word-pushed_other log count address width old (4 + 12 * index + 4) (omega arith) (sides (4 + 12 * index + 4) 4 refl (omega arith)))
    (word-pushed_other log count address width old (4 + 12 * index + 8) (omega arith) (sides (4 + 12 * index + 8) 8 refl (omega arith)))
  where
    sides : (other k : ℕ) → other ≡ 4 + 12 * index + k → k ≤ 8 → (other + 4 ≤ 4 + 12 * count) ⊎ (4 + 12 * count + 12 ≤ other)
    sides other k at few = ⊎_elim (λ (before : index < count). inl (omega arith)) (λ (from : count ≤ index). inr (omega arith)) (cases_lt index count)

-- the number is one more, and the new entry stands
pub count-pushed : (log : List ℕ) (count address width old : ℕ) → length log ≡ LOG_SIZE → count < MOST_ENTRIES → word_in (pushed log count address width old) 0 ≡ count + 1
count-pushed log count address width old size few =
    let inside : 0 + 4 ≤ length (stored_in (stored_in (stored_in log (4 + 12 * count) 4 address) (4 + 12 * count + 4) 4 width) (4 + 12 * count + 8) 4 old) =
    omega (arith, length-stored (stored_in (stored_in log (4 + 12 * count) 4 address) (4 + 12 * count + 4) 4 width) (4 + 12 * count + 8) 4 old, length-stored (stored_in log (4 + 12 * count) 4 address) (4 + 12 * count + 4) 4 width, length-stored log (4 + 12 * count) 4 address) in
    word-stored (stored_in (stored_in (stored_in log (4 + 12 * count) 4 address) (4 + 12 * count + 4) 4 width) (4 + 12 * count + 8) 4 old) 0 (count + 1) inside (omega arith)

pub entry-pushed : (log : List ℕ) (count address width old : ℕ) → length log ≡ LOG_SIZE → count < MOST_ENTRIES → address < 2 ^ 32 → width < 2 ^ 32 → old < 2 ^ 32
    → entry_in (pushed log count address width old) count ≡ record { address = address; width = width; old = old }
entry-pushed log count address width old size few first second third =
    let one : List ℕ = stored_in log (4 + 12 * count) 4 address in
    let two : List ℕ = stored_in (stored_in log (4 + 12 * count) 4 address) (4 + 12 * count + 4) 4 width in
    let long_one : length (stored_in log (4 + 12 * count) 4 address) ≡ length log = length-stored log (4 + 12 * count) 4 address in
    let long_two : length (stored_in (stored_in log (4 + 12 * count) 4 address) (4 + 12 * count + 4) 4 width) ≡ length log = length-stored _ (4 + 12 * count + 4) 4 width ∙ long_one in
    same_entry _ _ _ _ _ _
    (word-elsewhere _ 0 (count + 1) (4 + 12 * count) (inr (omega arith)) ∙ word-elsewhere two (4 + 12 * count + 8) old (4 + 12 * count) (inl (omega arith))
    ∙ word-elsewhere one (4 + 12 * count + 4) width (4 + 12 * count) (inl (omega arith)) ∙ word-stored log (4 + 12 * count) address (omega arith) first)
    (word-elsewhere _ 0 (count + 1) (4 + 12 * count + 4) (inr (omega arith)) ∙ word-elsewhere two (4 + 12 * count + 8) old (4 + 12 * count + 4) (inl (omega arith))
    ∙ word-stored one (4 + 12 * count + 4) width (omega (arith, long_one)) second)
    (word-elsewhere _ 0 (count + 1) (4 + 12 * count + 8) (inr (omega arith)) ∙ word-stored two (4 + 12 * count + 8) old (omega (arith, long_two)) third)

-- four stores that succeed make the words of an entry
pub pushed-stored : (log one two three four : List ℕ) (count address width old : ℕ) → length log ≡ LOG_SIZE → count < MOST_ENTRIES
    → one ≡ unwrap_or (store_in log (4 + 12 * count) 4 address) log → two ≡ unwrap_or (store_in one (4 + 12 * count + 4) 4 width) one
    → three ≡ unwrap_or (store_in two (4 + 12 * count + 8) 4 old) two → four ≡ unwrap_or (store_in three 0 4 (count + 1)) three
    → four ≡ pushed log count address width old
pushed-stored log one two three four count address width old size few first second third fourth =
    let is_one : one ≡ stored_in log (4 + 12 * count) 4 address = stored log one (4 + 12 * count) address (omega arith) first in
    let long_one : length one ≡ length log = ap length is_one ∙ length-stored log (4 + 12 * count) 4 address in
    let is_two : two ≡ stored_in one (4 + 12 * count + 4) 4 width = stored one two (4 + 12 * count + 4) width (omega arith) second in
    let long_two : length two ≡ length one = ap length is_two ∙ length-stored one (4 + 12 * count + 4) 4 width in
    let is_three : three ≡ stored_in two (4 + 12 * count + 8) 4 old = stored two three (4 + 12 * count + 8) old (omega arith) third in
    let long_three : length three ≡ length two = ap length is_three ∙ length-stored two (4 + 12 * count + 8) 4 old in
    let is_four : four ≡ stored_in three 0 4 (count + 1) = stored three four 0 (count + 1) (omega arith) fourth in
    is_four ∙ ap (λ l. stored_in l 0 4 (count + 1)) (is_three ∙ ap (λ l. stored_in l (4 + 12 * count + 8) 4 old) (is_two ∙ ap (λ l. stored_in l (4 + 12 * count + 4) 4 width) is_one))
  where
    stored : (before after : List ℕ) (offset value : ℕ) → offset + 4 ≤ length before → after ≡ unwrap_or (store_in before offset 4 value) before → after ≡ stored_in before offset 4 value
    stored before after offset value inside is = is ∙ ap (λ o. unwrap_or o before) (store_in-within before offset 4 value inside)

IsDense-pushed : (log : List ℕ) (count address width old : ℕ) → IsDense log → IsDense (pushed log count address width old)
IsDense-pushed log count address width old is = record {
  whole = ap (λ n. n % 4096) (length-pushed log count address width old) ∙ is.whole;
  bytes = All-stored _ 0 4 (count + 1) (All-stored _ (4 + 12 * count + 8) 4 old (All-stored _ (4 + 12 * count + 4) 4 width (All-stored log (4 + 12 * count) 4 address is.bytes)));
}

pub AreAreas-pushed : (a : Areas) (count address width old : ℕ) → AreAreas a → AreAreas (record a { log = pushed a.log count address width old })
AreAreas-pushed a count address width old are = record {
  code = are.code;
  frames = are.frames;
  log = IsDense-pushed a.log count address width old are.log;
  output = are.output;
  code_size = are.code_size;
  frames_size = are.frames_size;
  log_size = length-pushed a.log count address width old ∙ are.log_size;
  output_size = are.output_size;
}

-- every other entry stays
pub entry-kept : (a : Areas) (base : Pages) (count address width old index : ℕ) → AreAreas a → IsProgram base → index < MOST_ENTRIES → index ≢ count
    → entry_at (areas_over (record a { log = pushed a.log count address width old }) base) index ≡ entry_at (areas_over a base) index
entry-kept a base count address width old index are program few apart =
    let after : Areas = record a { log = pushed a.log count address width old } in
    entry_at-areas after base index (AreAreas-pushed a count address width old are) program (omega arith)
    ∙ entry-pushed_other a.log count address width old index apart ∙ sym (entry_at-areas a base index are program (omega arith))

-- an entry that is added stands before the others
pub log-pushed : (a : Areas) (base : Pages) (count address width old : ℕ) → AreAreas a → IsProgram base → count ≡ log_count (areas_over a base) → count < MOST_ENTRIES → address < 2 ^ 32 → width < 2 ^ 32 → old < 2 ^ 32
    → log_of (areas_over (record a { log = pushed a.log count address width old }) base) ≡ record { address = address; width = width; old = old } ∷ log_of (areas_over a base)
unfolding entries_at
log-pushed a base count address width old are program number few first second third =
    let after : Areas = record a { log = pushed a.log count address width old } in
    let still : AreAreas after = AreAreas-pushed a count address width old are in
    let more : log_count (areas_over after base) ≡ suc count = log_count-areas after base still program ∙ count-pushed a.log count address width old are.log_size few ∙ add-one count in
    ap (entries_at (areas_over after base)) more
    ∙ ap (λ e. e ∷ entries_at (areas_over after base) count) (entry_at-areas after base count still program (omega arith) ∙ entry-pushed a.log count address width old are.log_size few first second third)
    ∙ ap (λ es. record { address = address; width = width; old = old } ∷ es) (entries-same (areas_over after base) (areas_over a base) count (λ index below. entry-kept a base count address width old index are program (omega arith) (λ same. omega arith)))
    ∙ ap (λ n. record { address = address; width = width; old = old } ∷ entries_at (areas_over a base) n) number

-- ---- entries that are put back

-- an entry whose words are known
pub put_back-known : (entry : UndoEntry) (address width old : ℕ) (pages : Pages) → entry ≡ record { address = address; width = width; old = old } → is_width width ≡ true
    → put_back entry pages ≡ unwrap_or (store_at pages address width old) pages
put_back-known entry address width old pages is known = ap (λ (e : UndoEntry). put_back e pages) is ∙ rw known refl

-- an entry of another width
pub put_back-other : (entry : UndoEntry) (address width old : ℕ) (pages : Pages) → entry ≡ record { address = address; width = width; old = old } → is_width width ≡ false
    → put_back entry pages ≡ pages
put_back-other entry address width old pages is other = ap (λ (e : UndoEntry). put_back e pages) is ∙ rw other refl

pub is_width-true : (width : ℕ) → IsWidth width → is_width width ≡ true
is_width-true width (inl one) = rw one refl
is_width-true width (inr (inl two)) = rw two refl
is_width-true width (inr (inr four)) = rw four refl

pub is_width-false : (width : ℕ) → width ≢ 1 → width ≢ 2 → width ≢ 4 → is_width width ≡ false
is_width-false width one two four = rw (ne_eqb width 1 one, ne_eqb width 2 two, ne_eqb width 4 four) refl

-- the newest entry is put back first
pub undone-newest : (bank pages : Pages) (count : ℕ) → undone (entries_at bank (suc count)) pages ≡ undone (entries_at bank count) (put_back (entry_at bank count) pages)
unfolding undone entries_at
undone-newest bank pages count = refl

-- none is left
pub undone-none : (bank pages : Pages) → undone (entries_at bank 0) pages ≡ pages
unfolding undone entries_at
undone-none bank pages = refl

-- ---- a log that is emptied

pub AreAreas-emptied : (a : Areas) (log : List ℕ) → AreAreas a → log ≡ stored_in a.log 0 4 0 → AreAreas (record a { log = log })
AreAreas-emptied a log are is =
    let long : length log ≡ length a.log = ap length is ∙ length-stored a.log 0 4 0 in
    record {
      code = are.code;
      frames = are.frames;
      log = record { whole = ap (λ n. n % 4096) long ∙ are.log.whole; bytes = rw is (All-stored a.log 0 4 0 are.log.bytes) };
      output = are.output;
      code_size = are.code_size;
      frames_size = are.frames_size;
      log_size = long ∙ are.log_size;
      output_size = are.output_size;
    }

pub log-emptied : (a : Areas) (base : Pages) (log : List ℕ) → AreAreas a → IsProgram base → log ≡ stored_in a.log 0 4 0 → log_of (areas_over (record a { log = log }) base) ≡ []
unfolding entries_at
log-emptied a base log are program is =
    let after : Areas = record a { log = log } in
    let still : AreAreas after = AreAreas-emptied a log are is in
    let size = are.log_size in
    let none : log_count (areas_over after base) ≡ 0 = log_count-areas after base still program ∙ ap (λ l. word_in l 0) is ∙ word-stored a.log 0 0 (omega arith) (omega arith) in
    ap (entries_at (areas_over after base)) none
