-- The log put back over a bank and a program: the program's memory is what it is alone.
use Rattle.std.specs.Prelude.{Option, Bool, is_some, unwrap_or, ◌⊎◌, slice_get, slice_set}
use Rattle.std.specs.Option.{option_and_then, option_map}
use Rattle.std.specs.FinMap.{get, insert, gets}
use Rattle.std.proofs.Common.{◌≡◌, ◌≢◌, ℕ, zero, suc, ◌+◌, ◌-◌, ◌/◌, ◌%◌, ◌<◌, ◌≤◌, List, [], ◌∷◌, length, Some, None, true, false, refl, ap, ◌∙◌, sym, subst, arith, inl, inr, ⊎_elim, ne_eqb}
use Rattle.std.proofs.lemmas.Bool.{cases_eq, cases_lt}
use Rattle.std.proofs.lemmas.Grind.{common_steps}
use Rattle.sl_model.specs.declared.layout.TheConstants.{PROGRAM_PAGES, MEMORY_END}
use Rattle.sl_model.specs.Pages.{Pages, byte_at, bytes_at, set_byte, set_bytes, store_at, low_bytes}
use Rattle.sl_model.specs.Bank.{HaveOneProgram}
use Rattle.sl_model.specs.Undo.{UndoEntry, is_width, put_back, undone}
use Rattle.sl_model.proofs.PagesLaws.{length-low_bytes, get-set_byte_other, bytes_at-mapped, is_some-set_bytes}
use Rattle.undo_bank.specs.Areas.{Areas, areas_over, IsProgram}
use Rattle.undo_bank.proofs.AreasLaws.{get-below, bytes-same}
use Rattle.undo_bank.proofs.BankLaws.{HaveOneProgram-over}

-- memory that is a program's with more above it, where the last page below the areas stays free
record IsOver (whole program : Pages) : Type 0 where
  same : HaveOneProgram whole program
  last : get whole PROGRAM_PAGES ≡ None
  only : IsProgram program

unmapped : (program : Pages) → IsProgram program → (page : ℕ) → PROGRAM_PAGES ≤ page → get program page ≡ None
unmapped program only page above = of (get program page) refl
  where
    of : (o : Option (List ℕ)) → get program page ≡ o → get program page ≡ None
    of None found = found
    of (Some bytes) found = let below = only page (ap is_some found) in absurd (omega arith)

-- ---- bytes that are written

set_page : (p q : Pages) (number k offset b : ℕ) (page : Option (List ℕ)) → get p k ≡ get q k
    → get (unwrap_or (option_map (λ l. insert p number (slice_set l offset b)) page) p) k ≡ get (unwrap_or (option_map (λ l. insert q number (slice_set l offset b)) page) q) k
set_page p q number k offset b None same = same
set_page p q number k offset b (Some page) same = ⊎_elim
    (λ (here : k ≡ number).
    let left : get (insert p number (slice_set page offset b)) k ≡ Some (slice_set page offset b) = grind (arith, gets, common_steps, here) in
    let right : get (insert q number (slice_set page offset b)) k ≡ Some (slice_set page offset b) = grind (arith, gets, common_steps, here) in
    left ∙ sym right)
    (λ (apart : k ≢ number).
    let left : get (insert p number (slice_set page offset b)) k ≡ get p k = grind (arith, gets, common_steps, apart) in
    let right : get (insert q number (slice_set page offset b)) k ≡ get q k = grind (arith, gets, common_steps, apart) in
    left ∙ same ∙ sym right)
    (cases_eq k number)

-- the same byte of the program in both
set_byte-both : (whole program : Pages) (address b : ℕ) → HaveOneProgram whole program → address < MEMORY_END → HaveOneProgram (set_byte whole address b) (set_byte program address b)
unfolding set_byte
set_byte-both whole program address b same below page inside =
    ap (λ o. get (unwrap_or (option_map (λ l. insert whole (address / 4096) (slice_set l (address % 4096) b)) o) whole) page) (same (address / 4096) (omega arith))
    ∙ set_page whole program (address / 4096) page (address % 4096) b (get program (address / 4096)) (same page inside)

set_bytes-both : (whole program : Pages) (address : ℕ) (bytes : List ℕ) → HaveOneProgram whole program → address + length bytes ≤ MEMORY_END → HaveOneProgram (set_bytes whole address bytes) (set_bytes program address bytes)
unfolding set_bytes
set_bytes-both whole program address [] same below = same
set_bytes-both whole program address (b ∷ bs) same below =
    set_bytes-both (set_byte whole address b) (set_byte program address b) (address + 1) bs (set_byte-both whole program address b same (omega arith)) (omega arith)

-- bytes above the program change nothing of it
set_bytes-above : (whole : Pages) (address : ℕ) (bytes : List ℕ) → MEMORY_END ≤ address → HaveOneProgram (set_bytes whole address bytes) whole
unfolding set_bytes
set_bytes-above whole address [] above page inside = refl
set_bytes-above whole address (b ∷ bs) above page inside =
    set_bytes-above (set_byte whole address b) (address + 1) bs (omega arith) page inside
    ∙ get-set_byte_other whole address b page (ne_eqb (address / 4096) page (λ same. omega arith))

-- ---- a store

byte-both : (whole program : Pages) (address : ℕ) → HaveOneProgram whole program → address < MEMORY_END → byte_at whole address ≡ byte_at program address
unfolding byte_at
byte-both whole program address same below = ap (option_and_then (λ page. slice_get page (address % 4096))) (same (address / 4096) (omega arith))

-- bytes of which one is not mapped
no_bytes : (pages : Pages) (address count k : ℕ) → k < count → get pages ((address + k) / 4096) ≡ None → bytes_at pages address count ≡ None
no_bytes pages address count k below none = of (bytes_at pages address count) refl
  where
    of : (o : Option (List ℕ)) → bytes_at pages address count ≡ o → bytes_at pages address count ≡ None
    of None found = found
    of (Some bytes) found =
        let mapped : is_some (get pages ((address + k) / 4096)) ≡ true = bytes_at-mapped pages address count (ap is_some found) k below in
        let free : is_some (get pages ((address + k) / 4096)) ≡ false = ap is_some none in
        absurd cc

abbrev stored : Pages → ℕ → List ℕ → Option (List ℕ) → Pages
stored pages address new found = unwrap_or (option_map (λ _. set_bytes pages address new) found) pages

IsOver-stored : (whole program : Pages) (address : ℕ) (new : List ℕ) → 0 < length new → IsOver whole program
    → HaveOneProgram (stored whole address new (bytes_at whole address (length new))) (stored program address new (bytes_at program address (length new)))
IsOver-stored whole program address new some over = ⊎_elim
    (λ (inside : address + length new ≤ MEMORY_END).
    let found : bytes_at whole address (length new) ≡ bytes_at program address (length new) =
    bytes-same whole program address (length new) (λ k below. byte-both whole program (address + k) over.same (omega arith)) in
    rw found (chosen inside (bytes_at program address (length new))))
    (λ (past : MEMORY_END < address + length new). ⊎_elim
    (λ (before : address < MEMORY_END).
    let last : (address + (MEMORY_END - address)) / 4096 ≡ PROGRAM_PAGES = omega arith in
    let free : get program PROGRAM_PAGES ≡ None = unmapped program over.only PROGRAM_PAGES (omega arith) in
    let none : bytes_at whole address (length new) ≡ None = no_bytes whole address (length new) (MEMORY_END - address) (omega arith) (ap (get whole) last ∙ over.last) in
    let none' : bytes_at program address (length new) ≡ None = no_bytes program address (length new) (MEMORY_END - address) (omega arith) (ap (get program) last ∙ free) in
    rw (none, none') over.same)
    (λ (above : MEMORY_END ≤ address).
    let none : bytes_at program address (length new) ≡ None = no_bytes program address (length new) 0 some (unmapped program over.only ((address + 0) / 4096) (omega arith)) in
    rw none (kept above (bytes_at whole address (length new))))
    (cases_lt address MEMORY_END))
    (sides (address + length new) MEMORY_END)
  where
    sides : (n m : ℕ) → (n ≤ m) ⊎ (m < n)
    sides n m = ⊎_elim (λ (h : m < n). inr h) (λ (h : n ≤ m). inl h) (cases_lt m n)

    chosen : address + length new ≤ MEMORY_END → (found : Option (List ℕ)) → HaveOneProgram (stored whole address new found) (stored program address new found)
    chosen inside None = over.same
    chosen inside (Some bytes) = set_bytes-both whole program address new over.same inside

    kept : MEMORY_END ≤ address → (found : Option (List ℕ)) → HaveOneProgram (stored whole address new found) program
    kept above None = over.same
    kept above (Some bytes) = λ page inside. set_bytes-above whole address new above page inside ∙ over.same page inside

mapped-stored : (pages : Pages) (address : ℕ) (new : List ℕ) (found : Option (List ℕ)) (page : ℕ) → is_some (get (stored pages address new found) page) ≡ is_some (get pages page)
mapped-stored pages address new None page = refl
mapped-stored pages address new (Some bytes) page = is_some-set_bytes pages address new page

-- ---- an entry, and all of them

none_from : {A : Type 0} (o : Option A) → is_some o ≡ false → o ≡ None
none_from None e = refl
none_from (Some x) e = absurd cc

IsOver-put : (entry : UndoEntry) (whole program : Pages) → is_width entry.width ≡ true → IsOver whole program
    → IsOver (unwrap_or (store_at whole entry.address entry.width entry.old) whole) (unwrap_or (store_at program entry.address entry.width entry.old) program)
unfolding store_at
IsOver-put entry whole program is over =
    let new : List ℕ = low_bytes entry.width entry.old in
    let long : length (low_bytes entry.width entry.old) ≡ entry.width = length-low_bytes entry.width entry.old in
    let some : 0 < entry.width = width_some entry.width is in
    record {
      same = subst (λ (n : ℕ). HaveOneProgram (stored whole entry.address (low_bytes entry.width entry.old) (bytes_at whole entry.address n)) (stored program entry.address (low_bytes entry.width entry.old) (bytes_at program entry.address n))) long
          (IsOver-stored whole program entry.address (low_bytes entry.width entry.old) (omega arith) over);
      last = none_from _ (mapped-stored whole entry.address (low_bytes entry.width entry.old) (bytes_at whole entry.address entry.width) PROGRAM_PAGES ∙ ap is_some over.last);
      only = λ page some_page. over.only page (sym (mapped-stored program entry.address (low_bytes entry.width entry.old) (bytes_at program entry.address entry.width) page) ∙ some_page);
    }
  where
    width_some : (width : ℕ) → is_width width ≡ true → 0 < width
    width_some zero h = absurd cc
    width_some (suc width) h = omega arith

IsOver-put_back : (entry : UndoEntry) (whole program : Pages) → IsOver whole program → IsOver (put_back entry whole) (put_back entry program)
IsOver-put_back entry whole program over = of (is_width entry.width) refl
  where
    of : (b : Bool) → is_width entry.width ≡ b → IsOver (put_back entry whole) (put_back entry program)
    of true is = rw is (IsOver-put entry whole program is over)
    of false is = rw is over

IsOver-undone : (log : List UndoEntry) (whole program : Pages) → IsOver whole program → IsOver (undone log whole) (undone log program)
unfolding undone
IsOver-undone [] whole program over = over
IsOver-undone (newest ∷ older) whole program over = IsOver-undone older (put_back newest whole) (put_back newest program) (IsOver-put_back newest whole program over)

-- whatever the entries are
pub HaveOneProgram-undone : (log : List UndoEntry) (a : Areas) (base : Pages) → IsProgram base → HaveOneProgram (undone log (areas_over a base)) (undone log base)
HaveOneProgram-undone log a base program =
    (IsOver-undone log (areas_over a base) base (record {
      same = HaveOneProgram-over a base;
      last = get-below a base PROGRAM_PAGES (omega arith) ∙ unmapped base program PROGRAM_PAGES (omega arith);
      only = program;
    })).same

-- and what is put back is a program's memory still
pub IsProgram-undone : (log : List UndoEntry) (a : Areas) (base : Pages) → IsProgram base → IsProgram (undone log base)
IsProgram-undone log a base program =
    (IsOver-undone log (areas_over a base) base (record {
      same = HaveOneProgram-over a base;
      last = get-below a base PROGRAM_PAGES (omega arith) ∙ unmapped base program PROGRAM_PAGES (omega arith);
      only = program;
    })).only
