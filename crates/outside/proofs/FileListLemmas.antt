-- A list of files is looked through from the front for a name.
use Rattle.std.proofs.Common.{◌≡◌, ◌≢◌, ℕ, zero, suc, ◌<◌, Bool, true, false, cond, List, [], ◌∷◌, ◌++◌, map, length, get_or, set, Option, Some, None, string_bytes, arith, refl, sym, ap, ◌∙◌}
use Rattle.std.specs.Ordering.{nat_cmp, eq_by_cmp}
use Rattle.std.specs.Cmp.Lexicographic.{slice_cmp}
use Rattle.std.proofs.lemmas.Cmp.{nat_list_cmp_total}
use Rattle.std.proofs.lemmas.List.{map-append}
use Rattle.std.proofs.lemmas.Slice.Eq.{bytes_eq-Decides}
use Rattle.std.proofs.lemmas.Map.Text.{is_eq-slice_cmp}
use Rattle.std.specs.FinMap.{find, get, insert, from_entries, get-insert, get-from_entries, from_entries_push, same_map, nat_cmp-IsAntisymmetric, slice_cmp-IsAntisymmetric, IsAntisymmetric}
use Rattle.outside.specs.FileList.{NamedFile, files_of, NoneNamed, IsFirstNamed}

abbrev by_name : List ℕ → List ℕ → Bool
by_name = eq_by_cmp (slice_cmp nat_cmp)

abbrev entry_of : NamedFile → List ℕ × List ℕ
entry_of file = (string_bytes file.0, file.1.items)

abbrev find_in : List ℕ → List NamedFile → Option (List ℕ)
find_in name files = find (slice_cmp nat_cmp) name (map entry_of files)

-- a name is found under itself
tied : (name key : List ℕ) → key ≡ name → by_name name key ≡ true
tied name key e = is_eq-slice_cmp name key ∙ (bytes_eq-Decides name key).1 (sym e)

same_of_tied : (name key : List ℕ) → by_name name key ≡ true → name ≡ key
same_of_tied name key t = (bytes_eq-Decides name key).0 (sym (is_eq-slice_cmp name key) ∙ t)

-- and under no other
untied : (name key : List ℕ) → key ≢ name → by_name name key ≡ false
untied name key e =
    elim (by_name name key) as (λ b. by_name name key ≡ b → by_name name key ≡ false) [
      | true ↦ λ t. absurd (e (sym (same_of_tied name key t)))
      | false ↦ λ f. f
    ] refl

-- two tests that don't both hold, in either order
apart : {A : Type 0} (a b : Bool) (x y z : A) → (a ≡ true → b ≡ true → ⊥) → cond a x (cond b y z) ≡ cond b y (cond a x z)
apart true true x y z h = absurd (h refl refl)
apart true false x y z h = refl
apart false b x y z h = refl

-- a test that is repeated
repeated : {A : Type 0} (b : Bool) (x y z : A) → cond b x z ≡ cond b x (cond b y z)
repeated true x y z = refl
repeated false x y z = refl

find_none : (name : List ℕ) (files : List NamedFile) → NoneNamed files name (length files) → find_in name files ≡ None
find_none name [] others = refl
find_none name (file ∷ files) others =
    ap (λ b. cond b (Some file.1.items) (find_in name files)) (untied name (string_bytes file.0) (others 0 file (omega arith)))
    ∙ find_none name files (λ k d h. others (suc k) d (omega arith))

find_first : (name : List ℕ) (files : List NamedFile) (i : ℕ) (d : NamedFile) → i < length files → NoneNamed files name i → string_bytes (get_or files i d).0 ≡ name
    → find_in name files ≡ Some (get_or files i d).1.items
find_first name [] i d h others here = absurd (omega arith)
find_first name (file ∷ files) zero d h others here = ap (λ b. cond b (Some file.1.items) (find_in name files)) (tied name (string_bytes file.0) here)
find_first name (file ∷ files) (suc i) d h others here =
    ap (λ b. cond b (Some file.1.items) (find_in name files)) (untied name (string_bytes file.0) (others 0 file (omega arith)))
    ∙ find_first name files i d (omega arith) (λ k d less. others (suc k) d (omega arith)) here

-- the first file of a name is replaced by another of that name
find-set : (name : List ℕ) (files : List NamedFile) (i : ℕ) (d new : NamedFile) → i < length files → NoneNamed files name i → string_bytes (get_or files i d).0 ≡ name
    → string_bytes new.0 ≡ name → (q : List ℕ) → find_in q (set files i new) ≡ cond (by_name q name) (Some new.1.items) (find_in q files)
find-set name [] i d new h others here same q = absurd (omega arith)
find-set name (file ∷ files) zero d new h others here same q =
    ap (λ key. cond (by_name q key) (Some new.1.items) (find_in q files)) same
    ∙ repeated (by_name q name) (Some new.1.items) (Some file.1.items) (find_in q files)
    ∙ ap (λ key. cond (by_name q name) (Some new.1.items) (cond (by_name q key) (Some file.1.items) (find_in q files))) (sym here)
find-set name (file ∷ files) (suc i) d new h others here same q =
    ap (cond (by_name q (string_bytes file.0)) (Some file.1.items)) (find-set name files i d new (omega arith) (λ k d less. others (suc k) d (omega arith)) here same q)
    ∙ apart (by_name q (string_bytes file.0)) (by_name q name) (Some file.1.items) (Some new.1.items) (find_in q files)
    (λ a b. others 0 file (omega arith) (sym (same_of_tied q (string_bytes file.0) a) ∙ same_of_tied q name b))

exact_names : IsAntisymmetric (slice_cmp nat_cmp)
exact_names = slice_cmp-IsAntisymmetric nat_cmp-IsAntisymmetric

-- a name that no file has
pub get-none : (files : List NamedFile) (name : List ℕ) → NoneNamed files name (length files) → get (files_of files) name ≡ None
get-none files name none = get-from_entries nat_list_cmp_total (map entry_of files) name ∙ find_none name files none

-- the first file of a name counts
pub get-first : (files : List NamedFile) (name : List ℕ) (i : ℕ) (d : NamedFile) → IsFirstNamed files name i → get (files_of files) name ≡ Some (get_or files i d).1.items
get-first files name i d is =
    get-from_entries nat_list_cmp_total (map entry_of files) name ∙ find_first name files i d is.within is.before (is.here d)

-- to replace it is to insert
pub files_of-set : (files : List NamedFile) (name : List ℕ) (i : ℕ) (new : NamedFile) → IsFirstNamed files name i → string_bytes new.0 ≡ name
    → files_of (set files i new) ≡ insert (files_of files) name new.1.items
files_of-set files name i new is same = same_map nat_list_cmp_total exact_names _ _ (λ q.
    get-from_entries nat_list_cmp_total (map entry_of (set files i new)) q
    ∙ find-set name files i new new is.within is.before (is.here new) same q
    ∙ ap (cond (by_name q name) (Some new.1.items)) (sym (get-from_entries nat_list_cmp_total (map entry_of files) q))
    ∙ sym (get-insert nat_list_cmp_total (files_of files) name new.1.items q))

-- to push a file of a new name is to insert it
pub files_of-push : (files : List NamedFile) (name : List ℕ) (new : NamedFile) → NoneNamed files name (length files) → string_bytes new.0 ≡ name
    → files_of (files ++ new ∷ []) ≡ insert (files_of files) name new.1.items
files_of-push files name new none same =
    ap from_entries (map-append entry_of files (new ∷ []))
    ∙ ap (λ key. from_entries (map entry_of files ++ (key, new.1.items) ∷ [])) same
    ∙ from_entries_push nat_list_cmp_total exact_names (map entry_of files) name new.1.items (find_none name files none)
