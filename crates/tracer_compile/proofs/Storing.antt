-- Stores into the program's memory, with what stood there written into the log before.
use Rattle.std.specs.Prelude.{Option, IsTrue, IsSome, is_some, unwrap_or, nat_lt, slice_get, ◌⊎◌}
use Rattle.std.specs.FinMap.{get}
use Rattle.std.specs.Option.{option_map}
use Rattle.std.proofs.Common.{◌≡◌, ℕ, ◌+◌, ◌-◌, ◌*◌, ◌/◌, ◌%◌, ◌^◌, ◌<◌, ◌≤◌, inl, inr, true, false, List, ◌++◌, [], ◌∷◌, length, Some, None, refl, ap, ◌∙◌, sym, subst, arith}
use Rattle.std.proofs.lemmas.Bool.{cases_lt}
use Rattle.sl_model.specs.declared.bank.TheConstants.{CODE_START, FRAMES_START, FRAMES_SIZE, LOG_START, LOG_SIZE, OUTPUT_START, OUTPUT_SIZE, ENTRY_SIZE, MOST_ENTRIES, MOST_OUTPUT_WORDS}
use Rattle.sl_model.specs.declared.instr.BranchOp.TheVariants.{Bltu}
use Rattle.sl_model.specs.declared.instr.Instr.{Instr}
use Rattle.sl_model.specs.declared.instr.StoreOp.{StoreOp}
use Rattle.sl_model.specs.declared.instr.StoreOp.TheVariants.{Sb, Sh, Sw}
use Rattle.sl_model.specs.declared.layout.TheConstants.{MEMORY_END, PROGRAM_PAGES}
use Rattle.sl_model.specs.Arithmetic.{word_add, immediate_word, load_width, load_value, store_width}
use Rattle.sl_model.specs.Bank.{code_size, output_count, output_of}
use Rattle.sl_model.specs.Pages.{Pages, ArePages, byte_at, bytes_at, from_bytes, load_at, store_at}
use Rattle.sl_model.specs.Stores.{IsStored}
use Rattle.sl_model.specs.Undo.{UndoEntry, is_width, word_at, entry_address, entry_at, log_count, log_of}
use Rattle.sl_model.proofs.PagesLaws.{bytes_at-mapped}
use Rattle.sl_model.proofs.Memory.{is_some-store_at, IsStored-stored, ArePages-stored}
use Rattle.tracer_lang.specs.declared.record.TracerEnd.TheVariants.{StoreFault, TooManyStores}
use Rattle.tracer_lang.specs.Meaning.{Now, Outcome, Goes, Ended, stored, store_meaning, most_stores}
use Rattle.tracer_code.specs.declared.outcomes.TheConstants.{STORE_FAULT, TOO_MANY_STORES}
use Rattle.tracer_code.specs.Runs.{IsContained}
use Rattle.word_blocks.specs.Code.{HasBlock}
use Rattle.word_blocks.specs.Configuration.{Registers, Configuration, read, at_place}
use Rattle.word_blocks.specs.Ways.{Leads}
use Rattle.word_blocks.proofs.Blocks.{Does, Leads-block}
use Rattle.word_blocks.proofs.Bytes.{SameBytes, SameBytes-part, SameBytes-loaded, SameBytes-stored, load_at-same, load_at-elsewhere, load_at-word, SameMapped, SameMapped-stored}
use Rattle.word_blocks.proofs.CodeLaws.{HasBlock-parts, HasBlock-get}
use Rattle.word_blocks.proofs.Jumps.{Leads-taken, Leads-passed}
use Rattle.word_blocks.proofs.PuttingBack.{undone-elsewhere, undone-counted, undone-stored}
use Rattle.word_blocks.proofs.Ways.{Leads-stay}
use Rattle.tracer_compile.specs.declared.roles.Role.TheVariants.{Zero, First, Second, Third, Value, Detail, Fourth, Fifth, Sixth}
use Rattle.tracer_compile.specs.Blocks.{add_number, add, multiply, high_number, load_word, store_word, load_at_role, store_at_role, end_with, end_without, guard_block, old_load, room_block, log_block, store_block}
use Rattle.tracer_compile.proofs.Relation.{World, Holds, promise, Body, Room, Roles, Matches, Stands, Kept, Reaches, tells_nothing, Runs}
use Rattle.tracer_compile.proofs.Standing.{load_at-mapped, load_at-word_at, Mapped-same, word_at-same, words_at-same, code_size_fits, Holds-stored, Stands-beside, Kept-frames}
use Rattle.tracer_compile.proofs.Running.{Roles-kept, Leads-known, Leads-straight, HasBlock-inside}
use Rattle.tracer_compile.proofs.Values.{number_added, offset_added}
use Rattle.tracer_compile.proofs.Ends.{Leads-end_without}
use Rattle.tracer_compile.proofs.Loads.{load_at-beyond, load_at-program, less, not_less, Ends-trapped, Leads-guard}

-- ---- widths

store_width-some : (op : StoreOp) → (0 < store_width op) × (store_width op ≤ 4)
store_width-some Sb = (omega arith, omega arith)
store_width-some Sh = (omega arith, omega arith)
store_width-some Sw = (omega arith, omega arith)

is_width-store : (op : StoreOp) → IsTrue (is_width (store_width op))
is_width-store Sb = refl
is_width-store Sh = refl
is_width-store Sw = refl

-- the load of what a store overwrites takes its bytes as they are
load_width-old : (op : StoreOp) → load_width (old_load op) ≡ store_width op
load_width-old Sb = refl
load_width-old Sh = refl
load_width-old Sw = refl

load_value-old : (op : StoreOp) (n : ℕ) → load_value (old_load op) n ≡ n
load_value-old Sb n = refl
load_value-old Sh n = refl
load_value-old Sw n = refl

-- ---- the copy

-- where a load fails a store does
store_at-none : (m : Pages) (at width value : ℕ) → load_at m at width ≡ None → store_at m at width value ≡ None
store_at-none m at width value none = of (store_at m at width value) (is_some-store_at m at width value ∙ ap is_some none)
  where
    of : (o : Option Pages) → is_some o ≡ false → o ≡ None
    of None fails = refl
    of (Some n) fails = absurd cc

pub is_some-loaded : (m : Pages) (at width n : ℕ) → load_at m at width ≡ Some n → IsSome (bytes_at m at width)
unfolding load_at
is_some-loaded m at width n found = of (bytes_at m at width) found
  where
    of : (o : Option (List ℕ)) → option_map from_bytes o ≡ Some n → is_some o ≡ true
    of None none = absurd cc
    of (Some bytes) some = refl

-- bytes of the copy lie below the end of the program's memory
inside_program : (now : Now) (m : Pages) (at width n : ℕ) → Matches now m → at < MEMORY_END → load_at now.pages at width ≡ Some n → at + width ≤ MEMORY_END
inside_program now m at width n matches below found = of (cases_lt MEMORY_END (at + width))
  where
    of : (MEMORY_END < at + width) ⊎ (at + width ≤ MEMORY_END) → at + width ≤ MEMORY_END
    of (inr inside) = inside
    of (inl past) =
        let last : (at + (MEMORY_END - at)) / 4096 ≡ PROGRAM_PAGES = omega arith in
        let mapped : IsSome (get now.pages ((at + (MEMORY_END - at)) / 4096)) = bytes_at-mapped now.pages at width (is_some-loaded now.pages at width n found) (MEMORY_END - at) (omega arith) in
        let inside : (at + (MEMORY_END - at)) / 4096 < PROGRAM_PAGES = matches.below ((at + (MEMORY_END - at)) / 4096) mapped in
        absurd (omega arith)

-- ---- stores into the log

-- what lies outside of the log is the same
record BesideLog (m m' : Pages) : Type 0 where
  frames : SameBytes FRAMES_START FRAMES_SIZE m m'
  program : SameBytes 0 (MEMORY_END + 4) m m'
  output : SameBytes OUTPUT_START OUTPUT_SIZE m m'

beside_log : (at value : ℕ) (m m' : Pages) → IsStored at 4 value m m' → LOG_START ≤ at → at + 4 ≤ LOG_START + LOG_SIZE → BesideLog m m'
beside_log at value m m' is from to = record {
  frames = SameBytes-stored FRAMES_START FRAMES_SIZE at 4 value m m' is (inl (omega arith));
  program = SameBytes-stored 0 (MEMORY_END + 4) at 4 value m m' is (inl (omega arith));
  output = SameBytes-stored OUTPUT_START OUTPUT_SIZE at 4 value m m' is (inr (omega arith));
}

BesideLog-then : (m n o : Pages) → BesideLog m n → BesideLog n o → BesideLog m o
BesideLog-then m n o first second = record {
  frames = λ a from before. first.frames a from before ∙ second.frames a from before;
  program = λ a from before. first.program a from before ∙ second.program a from before;
  output = λ a from before. first.output a from before ∙ second.output a from before;
}

-- the words of output
output_count-beside : (m m' : Pages) → SameBytes OUTPUT_START OUTPUT_SIZE m m' → output_count m' ≡ output_count m
output_count-beside m m' same = word_at-same m m' OUTPUT_START (SameBytes-part OUTPUT_START OUTPUT_SIZE OUTPUT_START 4 m m' same (omega arith) (omega arith))

output_of-beside : (m m' : Pages) → SameBytes OUTPUT_START OUTPUT_SIZE m m' → output_count m ≤ MOST_OUTPUT_WORDS → output_of m' ≡ output_of m
output_of-beside m m' same few =
    rw (output_count-beside m m' same) (words_at-same m m' (OUTPUT_START + 4) (output_count m) (SameBytes-part OUTPUT_START OUTPUT_SIZE (OUTPUT_START + 4) (4 * output_count m) m m' same (omega arith) (omega arith)))

module _ (w : World) where
  -- a word written behind the entries
  written : (at value : ℕ) (m m' : Pages) → ArePages m → ArePages m' → IsStored at 4 value m m' → LOG_START + (4 + 12 * log_count m) ≤ at → at + 4 ≤ LOG_START + LOG_SIZE → Holds w m
      → Holds w m' × (log_count m' ≡ log_count m)
  written at value m m' are are' is behind to holds =
      let logs = undone-elsewhere at 4 value m m' are are' is (omega arith) (inl behind) in
      let beside : BesideLog m m' = beside_log at value m m' is (omega arith) to in
      let count : log_count m' ≡ log_count m = word_at-same m m' LOG_START (SameBytes-stored LOG_START 4 at 4 value m m' is (inl (omega arith))) in
      let small : code_size w.words ≤ 2 ^ 20 + 4096 = code_size_fits w in
      let contained : IsContained w.words w.s m' = record {
        undone = λ page below. logs.1 page below ∙ holds.contained.undone page below;
        few_entries = rw count holds.contained.few_entries;
        few_words = rw (output_count-beside m m' beside.output) holds.contained.few_words;
        code = λ index below. load_at-elsewhere (CODE_START + 4 * index) 4 at 4 value m m' is (inl (omega arith)) ∙ holds.contained.code index below;
      } in
      (Holds-stored w at 4 value m m' are are' is (omega arith) holds contained, count)

  -- the entry behind the others is counted
  counted_entry : (entry : UndoEntry) (m m' : Pages) → ArePages m → ArePages m' → IsStored LOG_START 4 (log_count m + 1) m m' → log_count m < MOST_ENTRIES → entry_at m (log_count m) ≡ entry → IsTrue (is_width entry.width) → load_at m entry.address entry.width ≡ Some entry.old → Holds w m
      → Holds w m' × (log_count m' ≡ log_count m + 1) × (log_of m' ≡ entry ∷ log_of m)
  counted_entry entry m m' are are' is few stands is_one held holds =
      let logs = undone-counted entry m m' are are' (omega arith) is stands is_one held in
      let beside : BesideLog m m' = beside_log LOG_START (log_count m + 1) m m' is (omega arith) (omega arith) in
      let count : log_count m' ≡ log_count m + 1 = ap (λ o. unwrap_or o 0) (load_at-word LOG_START (log_count m + 1) m m' is (omega arith)) in
      let small : code_size w.words ≤ 2 ^ 20 + 4096 = code_size_fits w in
      let contained : IsContained w.words w.s m' = record {
        undone = λ page below. logs.1 page below ∙ holds.contained.undone page below;
        few_entries = rw count (omega arith);
        few_words = rw (output_count-beside m m' beside.output) holds.contained.few_words;
        code = λ index below. load_at-elsewhere (CODE_START + 4 * index) 4 LOG_START 4 (log_count m + 1) m m' is (inl (omega arith)) ∙ holds.contained.code index below;
      } in
      (Holds-stored w LOG_START 4 (log_count m + 1) m m' are are' is (omega arith) holds contained, count, logs.0)

  -- ---- stores into the program

  -- what a store over the bytes of the newest entry leaves
  overwritten : (value : ℕ) (entry : UndoEntry) (older : List UndoEntry) (m m' : Pages) → ArePages m → ArePages m' → IsStored entry.address entry.width value m m' → entry.address + entry.width ≤ MEMORY_END → log_of m ≡ entry ∷ older → IsTrue (is_width entry.width) → load_at m entry.address entry.width ≡ Some entry.old → Holds w m
      → Holds w m' × (log_count m' ≡ log_count m) × SameBytes FRAMES_START FRAMES_SIZE m m' × SameBytes OUTPUT_START OUTPUT_SIZE m m'
  overwritten value entry older m m' are are' is inside log is_one held holds =
      let at : ℕ = entry.address in
      let width : ℕ = entry.width in
      let logs = undone-stored value entry older m m' are are' is inside log is_one held in
      let frames : SameBytes FRAMES_START FRAMES_SIZE m m' = SameBytes-stored FRAMES_START FRAMES_SIZE at width value m m' is (inr (omega arith)) in
      let output : SameBytes OUTPUT_START OUTPUT_SIZE m m' = SameBytes-stored OUTPUT_START OUTPUT_SIZE at width value m m' is (inr (omega arith)) in
      let count : log_count m' ≡ log_count m = word_at-same m m' LOG_START (SameBytes-stored LOG_START 4 at width value m m' is (inr (omega arith))) in
      let same : SameMapped m m' = SameMapped-stored at width value m m' are are' is in
      let contained : IsContained w.words w.s m' = record {
        undone = λ page below. logs.1 page below ∙ holds.contained.undone page below;
        few_entries = rw count holds.contained.few_entries;
        few_words = rw (output_count-beside m m' output) holds.contained.few_words;
        code = λ index below. load_at-elsewhere (CODE_START + 4 * index) 4 at width value m m' is (inr (omega arith)) ∙ holds.contained.code index below;
      } in
      let holds' : Holds w m' = record {
        contained = contained;
        frames = Mapped-same FRAMES_START FRAMES_SIZE m m' same holds.frames;
        log = Mapped-same LOG_START LOG_SIZE m m' same holds.log;
        output = Mapped-same OUTPUT_START OUTPUT_SIZE m m' same holds.output;
        copies = λ index below. load_at-elsewhere (FRAMES_START + 4 * index) 4 at width value m m' is (inr (omega arith)) ∙ holds.copies index below;
      } in
      (holds', count, frames, output)

-- The same store in two memories with the same program's bytes.
stored_alike : (at width value : ℕ) (m m' n n' : Pages) → ArePages m' → ArePages n' → IsStored at width value m m' → IsStored at width value n n' → SameBytes 0 (MEMORY_END + 4) m n → SameBytes 0 (MEMORY_END + 4) m' n'
stored_alike at width value m m' n n' are' aren' is isn same a from before = place (cases_lt a at) (cases_lt a (at + width))
  where
    place : (a < at) ⊎ (at ≤ a) → (a < at + width) ⊎ (at + width ≤ a) → byte_at m' a ≡ byte_at n' a
    place (inl below) side = is.elsewhere a (inl below) ∙ same a from before ∙ sym (isn.elsewhere a (inl below))
    place (inr behind) (inr past) = is.elsewhere a (inr past) ∙ same a from before ∙ sym (isn.elsewhere a (inr past))
    place (inr behind) (inl within) = SameBytes-loaded m' n' at width (value % 256 ^ width) are' aren' is.loaded isn.loaded a behind within

-- ---- the run

-- the block's instructions from the entry on
abbrev logging : StoreOp → List Instr
logging op =
    store_word Detail Fifth 4 ∷ add_number Sixth Zero (store_width op) ∷ store_word Sixth Fifth 8 ∷ store_word Third Fifth 12 ∷ add_number Fourth Fourth 1 ∷ store_word Fourth First 0 ∷ store_at_role op Second Detail ∷ []

-- what registers hold before these
record Logs (a v old count : ℕ) (y : Registers) : Type 0 where
  value : y 6 ≡ v
  old_is : y 7 ≡ old
  address : y 11 ≡ a
  count_is : y 28 ≡ count
  log : y 5 ≡ LOG_START

-- the words of an entry
entry_written : (a width old count : ℕ) (m m1 m2 m3 : Pages) → IsStored (LOG_START + 12 * count + 4) 4 a m m1 → IsStored (LOG_START + 12 * count + 8) 4 width m1 m2 → IsStored (LOG_START + 12 * count + 12) 4 old m2 m3 → a < 2 ^ 32 → width < 2 ^ 32 → old < 2 ^ 32
    → entry_at m3 count ≡ record { address = a; width = width; old = old }
entry_written a width old count m m1 m2 m3 is1 is2 is3 a_small width_small old_small =
    let at1 : entry_address count ≡ LOG_START + 12 * count + 4 = omega arith in
    let at2 : entry_address count + 4 ≡ LOG_START + 12 * count + 8 = omega arith in
    let at3 : entry_address count + 8 ≡ LOG_START + 12 * count + 12 = omega arith in
    let loaded1 : load_at m3 (LOG_START + 12 * count + 4) 4 ≡ Some a =
    load_at-elsewhere (LOG_START + 12 * count + 4) 4 (LOG_START + 12 * count + 12) 4 old m2 m3 is3 (inl (omega arith)) ∙ load_at-elsewhere (LOG_START + 12 * count + 4) 4 (LOG_START + 12 * count + 8) 4 width m1 m2 is2 (inl (omega arith)) ∙ load_at-word (LOG_START + 12 * count + 4) a m m1 is1 a_small in
    let loaded2 : load_at m3 (LOG_START + 12 * count + 8) 4 ≡ Some width =
    load_at-elsewhere (LOG_START + 12 * count + 8) 4 (LOG_START + 12 * count + 12) 4 old m2 m3 is3 (inl (omega arith)) ∙ load_at-word (LOG_START + 12 * count + 8) width m1 m2 is2 width_small in
    let loaded3 : load_at m3 (LOG_START + 12 * count + 12) 4 ≡ Some old = load_at-word (LOG_START + 12 * count + 12) old m2 m3 is3 old_small in
    let word1 : word_at m3 (entry_address count) ≡ a = ap (word_at m3) at1 ∙ ap (λ o. unwrap_or o 0) loaded1 in
    let word2 : word_at m3 (entry_address count + 4) ≡ width = ap (word_at m3) at2 ∙ ap (λ o. unwrap_or o 0) loaded2 in
    let word3 : word_at m3 (entry_address count + 8) ≡ old = ap (word_at m3) at3 ∙ ap (λ o. unwrap_or o 0) loaded3 in
    rw (word1, word2, word3) refl

module _ (w : World) (b : Body) where
  -- the old value goes into the log and the new one into memory
  logs : (op : StoreOp) (a v old place top depth : ℕ) (now : Now) (pages : Pages) (y : Registers) (m : Pages) → ((r : ℕ) → read y r < 2 ^ 32) → ArePages m → Room b top depth → Roles b top now y → Stands w b now m
      → Logs a v old (log_count m) y → y 29 ≡ LOG_START + 12 * log_count m → log_count m < 4096 → a < MEMORY_END → load_at now.pages a (store_width op) ≡ Some old → store_at now.pages a (store_width op) v ≡ Some pages
      → Does (promise w) place (logging op) y m (λ z n. Roles b top (record now { pages = pages; stores = now.stores + 1 }) z × Stands w b (record now { pages = pages; stores = now.stores + 1 }) n × tells_nothing 0 z × Kept b top m n)
  logs op a v old place top depth now pages y m small are room roles stands held entry few below loaded_old stored_new =
      let width : ℕ = store_width op in
      let count : ℕ = log_count m in
      let next : Now = record now { pages = pages; stores = now.stores + 1 } in
      let some = store_width-some op in
      let inside : a + width ≤ MEMORY_END = inside_program now m a width old stands.matches below loaded_old in
      let base : word_add (y 5) 0 ≡ LOG_START = omega (arith, held.log) in
      let old_small : old < 2 ^ 32 = subst (λ n. n < 2 ^ 32) held.old_is (small 7) in
      let here : (n : Pages) → BesideLog m n → load_at n a width ≡ Some old =
      λ n beside. sym (load_at-same m n a width (SameBytes-part 0 (MEMORY_END + 4) a width m n beside.program (omega arith) (omega arith))) ∙ load_at-program now m a width stands.matches below some.1 ∙ loaded_old in (
        LOG_START + 12 * count + 4,
        offset_added (y 29) (LOG_START + 12 * count) 4 entry (omega arith) (omega arith),
        inr (inl (omega arith, omega arith)),
        load_at-mapped m (LOG_START + 12 * count + 4) 4 (λ q from before. stands.holds.log q (omega arith) (omega arith)),
        λ m1 is1 are1.
            let holds1 = written w (LOG_START + 12 * count + 4) (y 11) m m1 are are1 is1 (omega arith) (omega arith) stands.holds in
            let beside1 : BesideLog m m1 = beside_log (LOG_START + 12 * count + 4) (y 11) m m1 is1 (omega arith) (omega arith) in (
              holds1.0,
              (
                LOG_START + 12 * count + 8,
                offset_added (y 29) (LOG_START + 12 * count) 8 entry (omega arith) (omega arith),
                inr (inl (omega arith, omega arith)),
                load_at-mapped m1 (LOG_START + 12 * count + 8) 4 (λ q from before. holds1.0.log q (omega arith) (omega arith)),
                λ m2 is2 are2.
                    let holds2 = written w (LOG_START + 12 * count + 8) _ m1 m2 are1 are2 is2 (omega (arith, holds1.1)) (omega arith) holds1.0 in
                    let beside2 : BesideLog m1 m2 = beside_log (LOG_START + 12 * count + 8) _ m1 m2 is2 (omega arith) (omega arith) in (
                      holds2.0,
                      (
                        LOG_START + 12 * count + 12,
                        offset_added (y 29) (LOG_START + 12 * count) 12 entry (omega arith) (omega arith),
                        inr (inl (omega arith, omega arith)),
                        load_at-mapped m2 (LOG_START + 12 * count + 12) 4 (λ q from before. holds2.0.log q (omega arith) (omega arith)),
                        λ m3 is3 are3.
                            let holds3 = written w (LOG_START + 12 * count + 12) (y 7) m2 m3 are2 are3 is3 (omega (arith, holds1.1, holds2.1)) (omega arith) holds2.0 in
                            let beside3 : BesideLog m2 m3 = beside_log (LOG_START + 12 * count + 12) (y 7) m2 m3 is3 (omega arith) (omega arith) in (
                              holds3.0,
                              (
                                LOG_START,
                                base,
                                inr (inl (omega arith, omega arith)),
                                load_at-mapped m3 LOG_START 4 (λ q from before. holds3.0.log q (omega arith) (omega arith)),
                                λ m4 is4 are4.
                                    let entry_is : UndoEntry = record { address = a; width = width; old = old } in
                                    let before4 : BesideLog m m3 = BesideLog-then m m2 m3 (BesideLog-then m m1 m2 beside1 beside2) beside3 in
                                    let same_count : log_count m3 ≡ count = holds3.1 ∙ holds2.1 ∙ holds1.1 in
                                    let raised : word_add (y 28) (immediate_word 1) ≡ log_count m3 + 1 = omega (arith, held.count_is, same_count, few) in
                                    let counted : IsStored LOG_START 4 (log_count m3 + 1) m3 m4 = subst (λ n. IsStored LOG_START 4 n m3 m4) raised is4 in
                                    let stands_there : entry_at m3 (log_count m3) ≡ entry_is = ap (entry_at m3) same_count ∙ entry_written a width old count m m1 m2 m3 (subst (λ n. IsStored (LOG_START + 12 * count + 4) 4 n m m1) held.address is1) (subst (λ n. IsStored (LOG_START + 12 * count + 8) 4 n m1 m2) (number_added width (omega (arith, some.1))) is2) (subst (λ n. IsStored (LOG_START + 12 * count + 12) 4 n m2 m3) held.old_is is3) (omega arith) (omega (arith, some.1)) old_small in
                                    let held3 : load_at m3 a width ≡ Some old = here m3 before4 in
                                    let holds4 = counted_entry w entry_is m3 m4 are3 are4 counted (omega (arith, same_count)) stands_there (is_width-store op) held3 holds3.0 in
                                    let beside4 : BesideLog m m4 = BesideLog-then m m3 m4 before4 (beside_log LOG_START _ m3 m4 is4 (omega arith) (omega arith)) in
                                    let held4 : load_at m4 a width ≡ Some old = here m4 beside4 in
                                    let there : word_add (y 11) 0 ≡ a = omega (arith, held.address, below) in (
                                      holds4.0,
                                      (
                                        a,
                                        there,
                                        inr (inr (inr (inside, ap is_some held4))),
                                        ap is_some held4,
                                        λ m5 is5 are5.
                                            let new : IsStored a width v m4 m5 = subst (λ n. IsStored a width n m4 m5) held.value is5 in
                                            let holds5 = overwritten w v entry_is (log_of m3) m4 m5 are4 are5 new inside holds4.2 (is_width-store op) held4 holds4.0 in
                                            let frames : SameBytes FRAMES_START FRAMES_SIZE m m5 = λ q from before. beside4.frames q from before ∙ holds5.2 q from before in
                                            let output : SameBytes OUTPUT_START OUTPUT_SIZE m m5 = λ q from before. beside4.output q from before ∙ holds5.3 q from before in
                                            let copied : IsStored a width v now.pages pages = IsStored-stored now.pages a width v pages stored_new in
                                            let are_new : ArePages pages = ArePages-stored now.pages a width v pages stored_new stands.matches.are in
                                            let matches : Matches next m5 = record {
                                              words = output_of-beside m m5 output stands.holds.contained.few_words ∙ stands.matches.words;
                                              stores = omega (arith, holds5.1, holds4.1, same_count, stands.matches.stores);
                                              program = stored_alike a width v m4 m5 now.pages pages are5 are_new new copied (λ q from before. sym (beside4.program q from before) ∙ stands.matches.program q from before);
                                              are = are_new;
                                              below = λ page mapped. stands.matches.below page (sym (copied.mapped page) ∙ mapped);
                                            } in
                                            let roles' : Roles b top next y = record { top_is = roles.top_is; frame_is = roles.frame_is; units_is = roles.units_is; calls_is = roles.calls_is; break_is = roles.break_is } in
                                            (holds5.0, (Roles-kept b top next y _ roles' (refl, refl, refl, refl, refl), Stands-beside w b now next m m5 frames refl holds5.0 matches stands, tt, Kept-frames w b top depth m m5 stands.body room frames)),
                                      ),
                                    ),
                              ),
                            ),
                      ),
                    ),
              ),
            ),
      )

  -- memory at the address in x11 becomes x10
  pub store-runs : (depth : ℕ) (op : StoreOp) (a v : ℕ) → Runs w b (λ x. (x 11 ≡ a) × (x 10 ≡ v)) tells_nothing depth (store_block op) (store_meaning op a v)
  unfolding store_block guard_block room_block log_block end_without end_with
  store-runs depth op a v place top limit after now x m has given room roles stands enough =
      Leads-known w limit (at_place place x m) _ (λ small are.
      let copied : word_add (x 10) 0 ≡ v = omega (arith, given.1, small 10) in
      Leads-block (promise w) (add_number Second Value 0 ∷ []) place limit x m (λ y n. (n ≡ m) × Roles b top now y × (y 11 ≡ a) × (y 6 ≡ v)) (goal (store_meaning op a v now)) stands.holds (has.0, tt) (omega (arith, enough))
      (refl, Roles-kept b top now x _ roles (refl, refl, refl, refl, refl), given.0, copied)
      (λ left y n counted holds reached. rw reached.0 (guarded left y counted reached.1 reached.2 reached.3)))
    where
      width : ℕ
      width = store_width op

      rest : List Instr
      rest = load_at_role (old_load op) Third Detail ∷ (room_block ++ (log_block (store_width op) ++ store_at_role op Second Detail ∷ []))

      goal : Outcome → ℕ → Configuration → Type 0
      goal outcome = Reaches w b tells_nothing (place + 23) top after m now.units outcome

      next : Pages → Now
      next pages = record now { pages = pages; stores = now.stores + 1 }

      here : HasBlock w.code (place + 5) rest
      here =
          let there : place + 1 + 4 ≡ place + 5 = omega arith in
          subst (λ q. HasBlock w.code q rest) there (HasBlock-parts w.code (place + 1) (guard_block STORE_FAULT) rest has.1).1

      full : HasBlock w.code (place + 10) (end_without TOO_MANY_STORES)
      full =
          let there : place + 5 + 1 + 1 + 1 + 1 + 1 ≡ place + 10 = omega arith in
          (subst (λ q. HasBlock w.code q (end_without TOO_MANY_STORES)) there (here.1.1.1.1.1.0, (here.1.1.1.1.1.1.0, (here.1.1.1.1.1.1.1.0, tt))))

      logged : HasBlock w.code (place + 13) (log_block (store_width op) ++ store_at_role op Second Detail ∷ [])
      logged =
          let there : place + 5 + 1 + 1 + 1 + 1 + 1 + 1 + 1 + 1 ≡ place + 13 = omega arith in
          subst (λ q. HasBlock w.code q (log_block (store_width op) ++ store_at_role op Second Detail ∷ [])) there here.1.1.1.1.1.1.1.1

      -- the entry, and the store
      entered : (old : ℕ) (pages : Pages) (left : ℕ) (y : Registers) → left + 9 ≡ limit → Roles b top now y → Logs a v old (log_count m) y → log_count m < 4096 → a < MEMORY_END → load_at now.pages a width ≡ Some old → store_at now.pages a width v ≡ Some pages
          → Leads (promise w) left (at_place (place + 13) y m) (goal (Goes 0 (next pages)))
      entered old pages left y counted roles' held few below loaded_old stored_new =
          let entry : word_add (12 * y 28 % 2 ^ 32) (y 5) ≡ LOG_START + 12 * log_count m = omega (arith, held.count_is, held.log, few) in
          Leads-block (promise w) (add_number Fifth Zero ENTRY_SIZE ∷ multiply Fifth Fifth Fourth ∷ add Fifth Fifth First ∷ []) (place + 13) left y m
          (λ z n. (n ≡ m) × Roles b top now z × Logs a v old (log_count m) z × (z 29 ≡ LOG_START + 12 * log_count m)) (goal (Goes 0 (next pages))) stands.holds (logged.0, (logged.1.0, (logged.1.1.0, tt))) (omega (arith, enough, counted))
          (refl, Roles-kept b top now y _ roles' (refl, refl, refl, refl, refl), record { value = held.value; old_is = held.old_is; address = held.address; count_is = held.count_is; log = held.log }, entry)
          (λ rest_left z n fewer holds reached. rw reached.0 (
          Leads-known w rest_left (at_place (place + 13 + 3) z m) (goal (Goes 0 (next pages))) (λ small are.
          let there : place + 13 + 1 + 1 + 1 ≡ place + 13 + 3 = omega arith in
          Leads-straight w b tells_nothing (logging op) (place + 13 + 3) (place + 23) top after 0 rest_left z m m now.units (next pages) (omega arith) stands.holds (subst (λ q. HasBlock w.code q (logging op)) there logged.1.1.1) (omega arith) (omega (arith, enough, counted, fewer))
          (logs op a v old (place + 13 + 3) top depth now pages z m small are room reached.1 stands reached.2 reached.3 few below loaded_old stored_new))))

      -- the log has room, or not
      room_left : (old : ℕ) (pages : Pages) (left : ℕ) (y : Registers) → left + 8 ≡ limit → Roles b top now y → Logs a v old (log_count m) y → y 29 ≡ 4096 → a < MEMORY_END → load_at now.pages a width ≡ Some old → store_at now.pages a width v ≡ Some pages
          → (now.stores < most_stores) ⊎ (most_stores ≤ now.stores) → Leads (promise w) left (at_place (place + 9) y m) (goal (stored a now (Some pages)))
      room_left old pages left y counted roles' held most below loaded_old stored_new (inl few) =
          let inside : place + 23 ≤ length w.code = HasBlock-inside w.code place (store_block op) has (omega arith) in
          let count : log_count m < 4096 = omega (arith, stands.matches.stores, few) in
          let taken : nat_lt (y 28) (y 29) ≡ true = less (y 28) (y 29) (omega (arith, held.count_is, most, count)) in
          let there : place + 9 + 4 ≡ place + 13 = omega arith in
          let skip : place + 5 + 4 ≡ place + 9 = omega arith in
          rw (less now.stores most_stores few) (
          Leads-taken (promise w) (place + 9) left y m (goal (Goes 0 (next pages))) stands.holds (omega (arith, enough, counted)) Bltu 28 29 4 (ap (slice_get w.code) (sym skip) ∙ HasBlock-get w.code (place + 5) rest 4 _ here refl) (omega arith) (omega (arith, inside)) taken
          (λ rest_left one. subst (λ q. Leads (promise w) rest_left (at_place q y m) (goal (Goes 0 (next pages)))) (sym there) (entered old pages rest_left y (omega (arith, counted, one)) roles' held count below loaded_old stored_new)))
      room_left old pages left y counted roles' held most below loaded_old stored_new (inr many) =
          let inside : place + 23 ≤ length w.code = HasBlock-inside w.code place (store_block op) has (omega arith) in
          let passed : nat_lt (y 28) (y 29) ≡ false = not_less (y 28) (y 29) (omega (arith, held.count_is, most, stands.matches.stores, many)) in
          let there : place + 9 + 1 ≡ place + 10 = omega arith in
          let skip : place + 5 + 4 ≡ place + 9 = omega arith in
          rw (not_less now.stores most_stores many) (
          Leads-passed (promise w) (place + 9) left y m (goal (Ended TooManyStores now)) stands.holds (omega (arith, enough, counted)) Bltu 28 29 4 (ap (slice_get w.code) (sym skip) ∙ HasBlock-get w.code (place + 5) rest 4 _ here refl) (omega arith) (omega (arith, inside)) passed
          (λ rest_left one. subst (λ q. Leads (promise w) rest_left (at_place q y m) (goal (Ended TooManyStores now))) (sym there)
          (Leads-end_without w b TooManyStores TOO_MANY_STORES (place + 10) rest_left after tells_nothing (place + 23) top now y m m now.units refl refl full stands.holds stands.matches (omega (arith, enough, counted, one)))))

      -- where the old value can be loaded
      replaced : (old : ℕ) (o : Option Pages) → store_at now.pages a width v ≡ o → is_some o ≡ true → load_at now.pages a width ≡ Some old → a < MEMORY_END → (left : ℕ) (y : Registers) → left + 4 ≡ limit → Roles b top now y → y 11 ≡ a → y 6 ≡ v
          → Leads (promise w) left (at_place (place + 5) y m) (goal (stored a now o))
      replaced old None stored_new some found below left y counted roles' address value = absurd cc
      replaced old (Some pages) stored_new some found below left y counted roles' address value =
          let added : word_add (y 11) 0 ≡ a = omega (arith, address, below) in
          let loaded : load_at m a (load_width (old_load op)) ≡ Some old = ap (load_at m a) (load_width-old op) ∙ load_at-program now m a width stands.matches below (store_width-some op).1 ∙ found in
          Leads-block (promise w) (load_at_role (old_load op) Third Detail ∷ high_number First LOG_START ∷ load_word Fourth First 0 ∷ high_number Fifth MOST_ENTRIES ∷ []) (place + 5) left y m
          (λ z n. (n ≡ m) × Roles b top now z × Logs a v old (log_count m) z × (z 29 ≡ 4096)) (goal (stored a now (Some pages))) stands.holds (here.0, (here.1.0, (here.1.1.0, (here.1.1.1.0, tt)))) (omega (arith, enough, counted)) (
            a,
            added,
            old,
            loaded,
            (
              LOG_START,
              refl,
              log_count m,
              load_at-word_at m LOG_START (λ q from before. stands.holds.log q from (omega arith)),
              (refl, Roles-kept b top now y _ roles' (refl, refl, refl, refl, refl), record { value = value; old_is = load_value-old op old; address = address; count_is = refl; log = refl }, refl),
            ),
          )
          (λ rest_left z n fewer holds reached.
          let there : place + 5 + 4 ≡ place + 9 = omega arith in
          rw (reached.0, there) (room_left old pages rest_left z (omega (arith, counted, fewer)) reached.1 reached.2 reached.3 below found stored_new (cases_lt now.stores most_stores)))

      -- the old value
      fetched : (o : Option ℕ) → load_at now.pages a width ≡ o → a < MEMORY_END → (left : ℕ) (y : Registers) → left + 4 ≡ limit → Roles b top now y → y 10 ≡ STORE_FAULT → y 11 ≡ a → y 6 ≡ v
          → Leads (promise w) left (at_place (place + 5) y m) (goal (store_meaning op a v now))
      fetched None found below left y counted roles' number address value =
          let none : store_meaning op a v now ≡ Ended (StoreFault a) now = ap (stored a now) (store_at-none now.pages a width v found) in
          let fails : load_at m a (load_width (old_load op)) ≡ None = ap (load_at m a) (load_width-old op) ∙ load_at-program now m a width stands.matches below (store_width-some op).1 ∙ found in
          subst (λ o. Leads (promise w) left (at_place (place + 5) y m) (goal o)) (sym none)
          (Leads-stay (promise w) left (at_place (place + 5) y m) (goal (Ended (StoreFault a) now))
          (Ends-trapped w (StoreFault a) now (old_load op) 7 (place + 5) y m here.0 stands.holds stands.matches (inr refl) number address below fails))
      fetched (Some old) found below left y counted roles' number address value =
          replaced old (store_at now.pages a width v) refl (is_some-store_at now.pages a width v ∙ ap is_some found) found below left y counted roles' address value

      guarded : (left : ℕ) (y : Registers) → left + 1 ≡ limit → Roles b top now y → y 11 ≡ a → y 6 ≡ v → Leads (promise w) left (at_place (place + 1) y m) (goal (store_meaning op a v now))
      guarded left y counted roles' address value =
          let there : place + 1 + 4 ≡ place + 5 = omega arith in
          Leads-guard w b (StoreFault a) STORE_FAULT (place + 1) left after tells_nothing (place + 23) top top now y m m now.units (store_meaning op a v now) refl (omega arith) address (HasBlock-parts w.code (place + 1) (guard_block STORE_FAULT) rest has.1).0 roles' stands.holds stands.matches (omega (arith, enough, counted))
          (λ beyond. ap (stored a now) (store_at-none now.pages a width v (load_at-beyond now m a width stands.matches beyond (store_width-some op).0)))
          (λ below rest_left z fewer roles'' number same kept.
          subst (λ q. Leads (promise w) rest_left (at_place q z m) (goal (store_meaning op a v now))) (sym there)
          (fetched (load_at now.pages a width) refl below rest_left z (omega (arith, counted, fewer)) roles'' number (same ∙ address) (kept ∙ value)))
