-- The log put back: what stores do to the memory that it gives.
use Rattle.std.specs.Prelude.{Option, Bool, IfSome, IsTrue, is_some, unwrap_or, ◌⊎◌, if◌then◌else◌}
use Rattle.std.proofs.Common.{◌≡◌, ℕ, zero, suc, ◌+◌, ◌-◌, ◌*◌, ◌%◌, ◌^◌, ◌<◌, ◌≤◌, inl, inr, List, [], ◌∷◌, Some, None, true, false, refl, ap, ◌∙◌, sym, subst, arith, add-one}
use Rattle.std.proofs.Math.Nat.{mod-eq_of_lt}
use Rattle.std.proofs.lemmas.Bool.{cases_lt}
use Rattle.sl_model.specs.declared.bank.TheConstants.{LOG_START}
use Rattle.sl_model.specs.declared.layout.TheConstants.{MEMORY_END}
use Rattle.sl_model.specs.Bank.{HaveOneProgram}
use Rattle.sl_model.specs.Pages.{Pages, ArePages, byte_at, load_at, store_at}
use Rattle.sl_model.specs.Stores.{IsElsewhere, IsStored}
use Rattle.sl_model.specs.Undo.{UndoEntry, is_width, put_back, undone, word_at, entry_address, entry_at, entries_at, log_count, log_of}
use Rattle.sl_model.proofs.Memory.{load_at-small, is_some-store_at, IsStored-stored, ArePages-stored}
use Rattle.word_blocks.proofs.Bytes.{SameBytes, SameBytes-part, load_at-same, SameBytes-loaded, SameBytes-stored, load_at-word, SameMapped, SameMapped-stored, is_some-load_at, get-same}

-- ---- memories that are one to a program

-- the same bytes below the end of a program's memory, and the same bytes mapped
pub record Alike (m m' : Pages) : Type 0 where
  pub bytes : SameBytes 0 MEMORY_END m m'
  pub mapped : SameMapped m m'

Alike-then : (m n o : Pages) → Alike m n → Alike n o → Alike m o
Alike-then m n o first second = record {
  bytes = λ a after before. first.bytes a after before ∙ second.bytes a after before;
  mapped = λ a. first.mapped a ∙ second.mapped a;
}

Alike-turned : (m n : Pages) → Alike m n → Alike n m
Alike-turned m n same = record { bytes = λ a after before. sym (same.bytes a after before); mapped = λ a. sym (same.mapped a) }

pub HaveOneProgram-alike : (m m' : Pages) → ArePages m → ArePages m' → Alike m m' → HaveOneProgram m m'
HaveOneProgram-alike m m' are are' same page below =
    get-same page m m' are are' (λ a after before. same.bytes a (omega arith) (omega arith))

-- ---- one entry

ArePages-put_back : (entry : UndoEntry) (m : Pages) → ArePages m → ArePages (put_back entry m)
ArePages-put_back entry m are = chosen (is_width entry.width)
  where
    of : (o : Option Pages) → store_at m entry.address entry.width entry.old ≡ o → ArePages (unwrap_or o m)
    of None found = are
    of (Some n) found = ArePages-stored m entry.address entry.width entry.old n found are

    chosen : (b : Bool) → ArePages (if b then unwrap_or (store_at m entry.address entry.width entry.old) m else m)
    chosen true = of (store_at m entry.address entry.width entry.old) refl
    chosen false = are

-- the same value stored in both
Alike-stored : (address width value : ℕ) (m m' n n' : Pages) → ArePages m → ArePages m' → ArePages n → ArePages n' → IsStored address width value m n → IsStored address width value m' n' → Alike m m' → Alike n n'
Alike-stored address width value m m' n n' are are' aren aren' is is' same = record {
  bytes = λ a after before. place a after before (cases_lt a address) (cases_lt a (address + width));
  mapped = λ a. sym (SameMapped-stored address width value m n are aren is a) ∙ same.mapped a ∙ SameMapped-stored address width value m' n' are' aren' is' a;
}
  where
    outside : (a : ℕ) → 0 ≤ a → a < 0 + MEMORY_END → IsElsewhere address width a → byte_at n a ≡ byte_at n' a
    outside a after before apart = is.elsewhere a apart ∙ same.bytes a after before ∙ sym (is'.elsewhere a apart)

    place : (a : ℕ) → 0 ≤ a → a < 0 + MEMORY_END → (a < address) ⊎ (address ≤ a) → (a < address + width) ⊎ (address + width ≤ a) → byte_at n a ≡ byte_at n' a
    place a after before (inl below) side = outside a after before (inl below)
    place a after before (inr from) (inr past) = outside a after before (inr past)
    place a after before (inr from) (inl inside) = SameBytes-loaded n n' address width (value % 256 ^ width) aren aren' is.loaded is'.loaded a from inside

pub Alike-put_back : (entry : UndoEntry) (m m' : Pages) → ArePages m → ArePages m' → Alike m m' → Alike (put_back entry m) (put_back entry m')
Alike-put_back entry m m' are are' same = chosen (is_width entry.width)
  where
    both : is_some (store_at m entry.address entry.width entry.old) ≡ is_some (store_at m' entry.address entry.width entry.old)
    both = is_some-store_at m entry.address entry.width entry.old ∙ is_some-load_at m m' entry.address entry.width same.mapped ∙ sym (is_some-store_at m' entry.address entry.width entry.old)

    of : (o o' : Option Pages) → store_at m entry.address entry.width entry.old ≡ o → store_at m' entry.address entry.width entry.old ≡ o' → is_some o ≡ is_some o' → Alike (unwrap_or o m) (unwrap_or o' m')
    of None None found found' e = same
    of None (Some n') found found' e = absurd cc
    of (Some n) None found found' e = absurd cc
    of (Some n) (Some n') found found' e =
        Alike-stored entry.address entry.width entry.old m m' n n' are are'
        (ArePages-stored m entry.address entry.width entry.old n found are) (ArePages-stored m' entry.address entry.width entry.old n' found' are')
        (IsStored-stored m entry.address entry.width entry.old n found) (IsStored-stored m' entry.address entry.width entry.old n' found') same

    chosen : (b : Bool) → Alike (if b then unwrap_or (store_at m entry.address entry.width entry.old) m else m) (if b then unwrap_or (store_at m' entry.address entry.width entry.old) m' else m')
    chosen true = of _ _ refl refl both
    chosen false = same

-- ---- all entries

pub ArePages-undone : (log : List UndoEntry) (m : Pages) → ArePages m → ArePages (undone log m)
unfolding undone
ArePages-undone [] m are = are
ArePages-undone (newest ∷ older) m are = ArePages-undone older (put_back newest m) (ArePages-put_back newest m are)

pub Alike-undone : (log : List UndoEntry) (m m' : Pages) → ArePages m → ArePages m' → Alike m m' → Alike (undone log m) (undone log m')
unfolding undone
Alike-undone [] m m' are are' same = same
Alike-undone (newest ∷ older) m m' are are' same =
    Alike-undone older (put_back newest m) (put_back newest m') (ArePages-put_back newest m are) (ArePages-put_back newest m' are') (Alike-put_back newest m m' are are' same)

-- ---- the log as it stands

word_at-same : (m m' : Pages) (address : ℕ) → SameBytes address 4 m m' → word_at m address ≡ word_at m' address
word_at-same m m' address same = ap (λ o. unwrap_or o 0) (load_at-same m m' address 4 same)

-- the bytes of an entry hold it
pub entry_at-same : (m m' : Pages) (index : ℕ) → SameBytes (entry_address index) 12 m m' → entry_at m index ≡ entry_at m' index
entry_at-same m m' index same =
    let word : (k : ℕ) → k ≤ 8 → word_at m (entry_address index + k) ≡ word_at m' (entry_address index + k) =
    λ k below. word_at-same m m' (entry_address index + k) (SameBytes-part (entry_address index) 12 (entry_address index + k) 4 m m' same (omega arith) (omega arith)) in
    let first : word_at m (entry_address index) ≡ word_at m' (entry_address index) = word_at-same m m' (entry_address index) (SameBytes-part (entry_address index) 12 (entry_address index) 4 m m' same (omega arith) (omega arith)) in
    rw (first, word 4 (omega arith), word 8 (omega arith)) refl

-- the bytes of some entries hold them
pub entries_at-same : (m m' : Pages) (count : ℕ) → SameBytes (LOG_START + 4) (12 * count) m m' → entries_at m count ≡ entries_at m' count
unfolding entries_at
entries_at-same m m' zero same = refl
entries_at-same m m' (suc count) same =
    let last : entry_at m count ≡ entry_at m' count = entry_at-same m m' count (SameBytes-part (LOG_START + 4) (12 * suc count) (entry_address count) 12 m m' same (omega arith) (omega arith)) in
    let others : entries_at m count ≡ entries_at m' count = entries_at-same m m' count (SameBytes-part (LOG_START + 4) (12 * suc count) (LOG_START + 4) (12 * count) m m' same (omega arith) (omega arith)) in
    rw (last, others) refl

-- the bytes of a log hold it
pub log_of-same : (m m' : Pages) → SameBytes LOG_START (4 + 12 * log_count m) m m' → log_of m ≡ log_of m'
log_of-same m m' same =
    let counts : log_count m ≡ log_count m' = word_at-same m m' LOG_START (SameBytes-part LOG_START (4 + 12 * log_count m) LOG_START 4 m m' same (omega arith) (omega arith)) in
    let entries : entries_at m (log_count m) ≡ entries_at m' (log_count m) = entries_at-same m m' (log_count m) (SameBytes-part LOG_START (4 + 12 * log_count m) (LOG_START + 4) (12 * log_count m) m m' same (omega arith) (omega arith)) in
    entries ∙ ap (entries_at m') counts

-- ---- what stores do

Alike-elsewhere : (at width value : ℕ) (m m' : Pages) → ArePages m → ArePages m' → IsStored at width value m m' → MEMORY_END ≤ at → Alike m m'
Alike-elsewhere at width value m m' are are' is beyond = record {
  bytes = SameBytes-stored 0 MEMORY_END at width value m m' is (inl (omega arith));
  mapped = SameMapped-stored at width value m m' are are' is;
}

one_program : (log : List UndoEntry) (m m' : Pages) → ArePages m → ArePages m' → Alike m' m → HaveOneProgram (undone log m') (undone log m)
one_program log m m' are are' same =
    HaveOneProgram-alike (undone log m') (undone log m) (ArePages-undone log m' are') (ArePages-undone log m are) (Alike-undone log m' m are' are same)

-- A store beside the program and the log changes nothing.
pub undone-elsewhere : (at width value : ℕ) (m m' : Pages) → ArePages m → ArePages m' → IsStored at width value m m' → MEMORY_END ≤ at → (LOG_START + (4 + 12 * log_count m) ≤ at) ⊎ (at + width ≤ LOG_START)
    → (log_of m' ≡ log_of m) × HaveOneProgram (undone (log_of m') m') (undone (log_of m) m)
undone-elsewhere at width value m m' are are' is beyond apart =
    let logs : log_of m' ≡ log_of m = sym (log_of-same m m' (SameBytes-stored LOG_START (4 + 12 * log_count m) at width value m m' is apart)) in
    (logs, rw logs (one_program (log_of m) m m' are are' (Alike-turned m m' (Alike-elsewhere at width value m m' are are' is beyond))))

-- An entry puts back what stands in another memory, from one that differs from it in the entry's
-- bytes alone.
restored : (entry : UndoEntry) (m n : Pages) → ArePages m → ArePages n → IsTrue (is_width entry.width) → load_at m entry.address entry.width ≡ Some entry.old → SameMapped n m
    → ((a : ℕ) → a < MEMORY_END → IsElsewhere entry.address entry.width a → byte_at n a ≡ byte_at m a) → Alike (put_back entry n) m
restored entry m n are aren is_one held mapped elsewhere = chosen (is_width entry.width) is_one
  where
    small : entry.old < 256 ^ entry.width
    small = subst (λ o. IfSome o (λ x. x < 256 ^ entry.width)) held (load_at-small m entry.address entry.width are)

    some : is_some (store_at n entry.address entry.width entry.old) ≡ true
    some = is_some-store_at n entry.address entry.width entry.old ∙ is_some-load_at n m entry.address entry.width mapped ∙ ap is_some held

    put : (n' : Pages) → store_at n entry.address entry.width entry.old ≡ Some n' → Alike n' m
    put n' found =
        let is : IsStored entry.address entry.width entry.old n n' = IsStored-stored n entry.address entry.width entry.old n' found in
        let are' : ArePages n' = ArePages-stored n entry.address entry.width entry.old n' found aren in
        let loaded : load_at n' entry.address entry.width ≡ Some entry.old = is.loaded ∙ ap Some (mod-eq_of_lt small) in
        record {
          bytes = λ a after before. place n' is (SameBytes-loaded n' m entry.address entry.width entry.old are' are loaded held) a before (cases_lt a entry.address) (cases_lt a (entry.address + entry.width));
          mapped = λ a. sym (SameMapped-stored entry.address entry.width entry.old n n' aren are' is a) ∙ mapped a;
        }
      where
        place : (n' : Pages) → IsStored entry.address entry.width entry.old n n' → SameBytes entry.address entry.width n' m → (a : ℕ) → a < 0 + MEMORY_END → (a < entry.address) ⊎ (entry.address ≤ a) → (a < entry.address + entry.width) ⊎ (entry.address + entry.width ≤ a) → byte_at n' a ≡ byte_at m a
        place n' is within a before (inl below) side = is.elsewhere a (inl below) ∙ elsewhere a (omega arith) (inl below)
        place n' is within a before (inr from) (inr past) = is.elsewhere a (inr past) ∙ elsewhere a (omega arith) (inr past)
        place n' is within a before (inr from) (inl inside) = within a from inside

    of : (o : Option Pages) → store_at n entry.address entry.width entry.old ≡ o → is_some o ≡ true → Alike (unwrap_or o n) m
    of None found is = absurd cc
    of (Some n') found is = put n' found

    chosen : (b : Bool) → IsTrue b → Alike (if b then unwrap_or (store_at n entry.address entry.width entry.old) n else n) m
    chosen true is = of (store_at n entry.address entry.width entry.old) refl some
    chosen false is = absurd cc

-- The entry behind the log, with what stands at its bytes now, is counted: the log is longer by it,
-- and put back it gives what it gave before.
pub undone-counted : (entry : UndoEntry) (m m' : Pages) → ArePages m → ArePages m' → log_count m < 2 ^ 32 - 1 → IsStored LOG_START 4 (log_count m + 1) m m'
    → entry_at m (log_count m) ≡ entry → IsTrue (is_width entry.width) → load_at m entry.address entry.width ≡ Some entry.old
    → (log_of m' ≡ entry ∷ log_of m) × HaveOneProgram (undone (log_of m') m') (undone (log_of m) m)
unfolding entries_at undone
undone-counted entry m m' are are' small is written is_one held =
    let count : ℕ = log_count m in
    let raised : log_count m' ≡ suc count = ap (λ o. unwrap_or o 0) (load_at-word LOG_START (count + 1) m m' is (omega arith)) ∙ add-one count in
    let kept : SameBytes (LOG_START + 4) (12 * suc count) m m' = SameBytes-stored (LOG_START + 4) (12 * suc count) LOG_START 4 (count + 1) m m' is (inr (omega arith)) in
    let entries : entries_at m (suc count) ≡ entries_at m' (suc count) = entries_at-same m m' (suc count) kept in
    let logs : log_of m' ≡ entry ∷ log_of m = ap (entries_at m') raised ∙ sym entries ∙ ap (λ e. e ∷ log_of m) written in
    let beyond : Alike m m' = Alike-elsewhere LOG_START 4 (count + 1) m m' are are' is (omega arith) in
    let same : Alike (put_back entry m') m = restored entry m m' are are' is_one held (λ a. sym (beyond.mapped a)) (λ a before apart. sym (beyond.bytes a (omega arith) (omega arith))) in
    (logs, rw logs (one_program (log_of m) m (put_back entry m') are (ArePages-put_back entry m' are') same))

-- A store over bytes whose old value the newest entry holds is put back by it.
pub undone-stored : (value : ℕ) (entry : UndoEntry) (older : List UndoEntry) (m m' : Pages) → ArePages m → ArePages m' → IsStored entry.address entry.width value m m' → entry.address + entry.width ≤ MEMORY_END
    → log_of m ≡ entry ∷ older → IsTrue (is_width entry.width) → load_at m entry.address entry.width ≡ Some entry.old
    → (log_of m' ≡ log_of m) × HaveOneProgram (undone (log_of m') m') (undone (log_of m) m)
unfolding undone
undone-stored value entry older m m' are are' is inside log is_one held =
    let kept : log_of m' ≡ log_of m = sym (log_of-same m m' (SameBytes-stored LOG_START (4 + 12 * log_count m) entry.address entry.width value m m' is (inr (omega arith)))) in
    let mapped : SameMapped m' m = λ a. sym (SameMapped-stored entry.address entry.width value m m' are are' is a) in
    let now : Alike (put_back entry m) m = restored entry m m are are is_one held (λ a. refl) (λ a before apart. refl) in
    let after : Alike (put_back entry m') m = restored entry m m' are are' is_one held mapped (λ a before apart. is.elsewhere a apart) in
    let same : Alike (put_back entry m') (put_back entry m) = Alike-then (put_back entry m') m (put_back entry m) after (Alike-turned (put_back entry m) m now) in
    (kept, rw (kept, log) (one_program older (put_back entry m) (put_back entry m') (ArePages-put_back entry m are) (ArePages-put_back entry m' are') same))
