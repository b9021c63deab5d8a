-- What follows from the definitions of the areas of a bank.
use Rattle.std.specs.Prelude.{Option, is_some, ◌⊎◌}
use Rattle.std.specs.Option.{option_and_then, option_map}
use Rattle.std.specs.FinMap.{get}
use Rattle.std.proofs.Common.{◌≡◌, ℕ, zero, suc, ◌+◌, ◌-◌, ◌/◌, ◌%◌, ◌^◌, ◌<◌, ◌≤◌, List, [], ◌∷◌, length, take, drop, Some, None, refl, ap, ◌∙◌, sym, arith, inl, inr, ⊎_elim, slice_get, drop-cons, add-one, add-zero}
use Rattle.std.proofs.lemmas.Bool.{cases_lt}
use Rattle.std.proofs.lemmas.Option.{slice_get-get_or, slice_get_past}
use Rattle.sl_model.specs.declared.bank.TheConstants.{CODE_START, FRAMES_START, LOG_START, OUTPUT_START}
use Rattle.sl_model.specs.Pages.{Pages, byte_at, bytes_at, set_bytes, put_bytes, low_bytes, from_bytes, load_at, store_at}
use Rattle.sl_model.specs.Stores.{IsElsewhere}
use Rattle.sl_model.proofs.PagesLaws.{AreWhole, byte_at-none, length-low_bytes}
use Rattle.undo_bank.specs.Dense.{load_in, store_in}
use Rattle.undo_bank.specs.Areas.{Areas, AreAreas, lay_at, areas_over, IsProgram, load_from, store_to}
use Rattle.undo_bank.proofs.DenseLaws.{load_in-within, load_in-past, store_in-within, store_in-past}
use Rattle.undo_bank.proofs.LayLaws.{AreWhole-lay_at, get-lay_elsewhere, byte_at-lay_at, byte_at-lay_elsewhere, set_bytes-lay_at, set_bytes-lay_elsewhere}

-- ---- an area in memory

-- every byte of a region of the address space is that of an area, or is not mapped
pub record IsLaid (start : ℕ) (area : List ℕ) (pages : Pages) : Type 0 where
  pub stands : (i : ℕ) → i < 2 ^ 28 → byte_at pages (start + i) ≡ slice_get area i
  pub short : length area + 4 ≤ 2 ^ 28

taken : (page : List ℕ) (offset count : ℕ) → offset < length page
    → option_and_then (λ b. option_map (λ bs. b ∷ bs) (Some (take count (drop (offset + 1) page)))) (slice_get page offset) ≡ Some (take (suc count) (drop offset page))
taken page offset count within = rw (slice_get-get_or page offset 0 within, add-one, drop-cons page offset 0) refl

bytes-laid : (start : ℕ) (area : List ℕ) (pages : Pages) (offset count : ℕ) → IsLaid start area pages → offset + count ≤ length area → bytes_at pages (start + offset) count ≡ Some (take count (drop offset area))
unfolding bytes_at
bytes-laid start area pages offset zero laid within = refl
bytes-laid start area pages offset (suc count) laid within =
    let next : start + offset + 1 ≡ start + (offset + 1) = omega arith in
    let short = laid.short in
    rw (laid.stands offset (omega arith), next, bytes-laid start area pages (offset + 1) count laid (omega arith)) (taken area offset count (omega arith))

no_first : (b : Option ℕ) (bs : Option (List ℕ)) → b ≡ None → option_and_then (λ x. option_map (λ xs. x ∷ xs) bs) b ≡ None
no_first None bs none = refl
no_first (Some b) bs none = absurd cc

no_rest : (b : Option ℕ) (bs : Option (List ℕ)) → bs ≡ None → option_and_then (λ x. option_map (λ xs. x ∷ xs) bs) b ≡ None
no_rest None bs none = refl
no_rest (Some b) None none = refl
no_rest (Some b) (Some bs) none = absurd cc

bytes-past : (start : ℕ) (area : List ℕ) (pages : Pages) (offset count : ℕ) → IsLaid start area pages → 0 < count → offset < 2 ^ 28 → length area < offset + count → bytes_at pages (start + offset) count ≡ None
unfolding bytes_at
bytes-past start area pages offset zero laid some inside over = absurd (omega arith)
bytes-past start area pages offset (suc count) laid some inside over = ⊎_elim
    (λ (here : offset < length area).
    let next : start + offset + 1 ≡ start + (offset + 1) = omega arith in
    let short = laid.short in
    rw next (no_rest (byte_at pages (start + offset)) (bytes_at pages (start + (offset + 1)) count) (bytes-past start area pages (offset + 1) count laid (omega arith) (omega arith) (omega arith))))
    (λ (past : length area ≤ offset).
    no_first (byte_at pages (start + offset)) (bytes_at pages (start + offset + 1) count) (laid.stands offset inside ∙ slice_get_past area offset past))
    (cases_lt offset (length area))

-- a load of bytes of a region is one of bytes of its area
pub load-laid : (start : ℕ) (area : List ℕ) (pages : Pages) (offset width : ℕ) → IsLaid start area pages → 0 < width → offset < 2 ^ 28 → load_at pages (start + offset) width ≡ load_in area offset width
unfolding load_at
load-laid start area pages offset width laid some inside = ⊎_elim
    (λ (over : length area < offset + width).
    ap (option_map from_bytes) (bytes-past start area pages offset width laid some inside over) ∙ sym (load_in-past area offset width over))
    (λ (within : offset + width ≤ length area).
    ap (option_map from_bytes) (bytes-laid start area pages offset width laid within) ∙ sym (load_in-within area offset width within))
    (cases_lt (length area) (offset + width))

-- and so is a store, where the bytes of the area are known to be written
pub store-laid : (start : ℕ) (area : List ℕ) (pages : Pages) (next : List ℕ → Pages) (offset width value : ℕ) → IsLaid start area pages → 0 < width → offset < 2 ^ 28
    → (offset + width ≤ length area → set_bytes pages (start + offset) (low_bytes width value) ≡ next (put_bytes area offset (low_bytes width value)))
    → store_at pages (start + offset) width value ≡ option_map next (store_in area offset width value)
unfolding store_at
store-laid start area pages next offset width value laid some inside written = ⊎_elim
    (λ (over : length area < offset + width).
    ap (option_map (λ _. set_bytes pages (start + offset) (low_bytes width value))) (bytes-past start area pages offset width laid some inside over)
    ∙ ap (option_map next) (sym (store_in-past area offset width value over)))
    (λ (within : offset + width ≤ length area).
    ap (option_map (λ _. set_bytes pages (start + offset) (low_bytes width value))) (bytes-laid start area pages offset width laid within)
    ∙ ap Some (written within) ∙ ap (option_map next) (sym (store_in-within area offset width value within)))
    (cases_lt (length area) (offset + width))

-- ---- the four areas over a program's memory

-- a byte that is no program's is not mapped in a program's memory
byte_at-no_program : (pages : Pages) (address : ℕ) → IsProgram pages → CODE_START ≤ address → byte_at pages address ≡ None
byte_at-no_program pages address program above = byte_at-none pages address (of (get pages (address / 4096)) refl)
  where
    of : (o : Option (List ℕ)) → get pages (address / 4096) ≡ o → get pages (address / 4096) ≡ None
    of None found = found
    of (Some page) found = let below = program (address / 4096) (ap is_some found) in absurd (omega arith)

-- a region in which no byte is mapped
abbrev IsBare : ℕ → Pages → Type 0
IsBare start pages = IsLaid start [] pages

bare : (start : ℕ) (base : Pages) → IsProgram base → CODE_START ≤ start → IsBare start base
bare start base program above = record {
  stands = λ i inside. byte_at-no_program base (start + i) program (omega arith);
  short = omega arith;
}

-- an area that is laid where no byte was mapped
laid-here : (start : ℕ) (area : List ℕ) (pages : Pages) → start % 4096 ≡ 0 → length area % 4096 ≡ 0 → length area + 4 ≤ 2 ^ 28 → IsBare start pages → IsLaid start area (lay_at start area pages)
laid-here start area pages aligned whole short bare = record {
  stands = λ i inside. ⊎_elim
      (λ (here : i < length area). byte_at-lay_at start area pages i aligned whole here)
      (λ (past : length area ≤ i).
      byte_at-lay_elsewhere start area pages (start + i) aligned whole (inr (omega arith)) ∙ bare.stands i inside ∙ sym (slice_get_past area i past))
      (cases_lt i (length area));
  short = short;
}

-- an area stays where another one is laid elsewhere
laid-under : (start : ℕ) (area : List ℕ) (other : ℕ) (laid_later : List ℕ) (pages : Pages) → other % 4096 ≡ 0 → length laid_later % 4096 ≡ 0
    → (start + 2 ^ 28 ≤ other) ⊎ (other + length laid_later ≤ start) → IsLaid start area pages → IsLaid start area (lay_at other laid_later pages)
laid-under start area other laid_later pages aligned whole outside laid = record {
  stands = λ i inside.
      let apart : IsElsewhere other (length laid_later) (start + i) = ⊎_elim
      (λ (before : start + 2 ^ 28 ≤ other). inl (omega arith)) (λ (behind : other + length laid_later ≤ start). inr (omega arith)) outside in
      byte_at-lay_elsewhere other laid_later pages (start + i) aligned whole apart ∙ laid.stands i inside;
  short = laid.short;
}

-- the memory below each area
abbrev over_output : Areas → Pages → Pages
over_output a base = lay_at OUTPUT_START a.output base

abbrev over_log : Areas → Pages → Pages
over_log a base = lay_at LOG_START a.log (over_output a base)

abbrev over_frames : Areas → Pages → Pages
over_frames a base = lay_at FRAMES_START a.frames (over_log a base)

under_output : (start : ℕ) (area : List ℕ) (a : Areas) (base : Pages) → AreAreas a → start + 2 ^ 28 ≤ OUTPUT_START → IsLaid start area base → IsLaid start area (over_output a base)
under_output start area a base are before laid = laid-under start area OUTPUT_START a.output base refl are.output.whole (inl before) laid

under_log : (start : ℕ) (area : List ℕ) (a : Areas) (base : Pages) → AreAreas a → (start + 2 ^ 28 ≤ LOG_START) ⊎ (OUTPUT_START ≤ start) → IsLaid start area (over_output a base) → IsLaid start area (over_log a base)
under_log start area a base are outside laid =
    let size = are.log_size in
    laid-under start area LOG_START a.log (over_output a base) refl are.log.whole (⊎_elim (λ (before : start + 2 ^ 28 ≤ LOG_START). inl before) (λ (behind : OUTPUT_START ≤ start). inr (omega arith)) outside) laid

under_frames : (start : ℕ) (area : List ℕ) (a : Areas) (base : Pages) → AreAreas a → (start + 2 ^ 28 ≤ FRAMES_START) ⊎ (LOG_START ≤ start) → IsLaid start area (over_log a base) → IsLaid start area (over_frames a base)
under_frames start area a base are outside laid =
    let size = are.frames_size in
    laid-under start area FRAMES_START a.frames (over_log a base) refl are.frames.whole (⊎_elim (λ (before : start + 2 ^ 28 ≤ FRAMES_START). inl before) (λ (behind : LOG_START ≤ start). inr (omega arith)) outside) laid

under_code : (start : ℕ) (area : List ℕ) (a : Areas) (base : Pages) → AreAreas a → FRAMES_START ≤ start → IsLaid start area (over_frames a base) → IsLaid start area (areas_over a base)
unfolding areas_over
under_code start area a base are behind laid =
    let size = are.code_size in
    laid-under start area CODE_START a.code (over_frames a base) refl are.code.whole (inr (omega arith)) laid

pub code-laid : (a : Areas) (base : Pages) → AreAreas a → IsProgram base → IsLaid CODE_START a.code (areas_over a base)
unfolding areas_over
code-laid a base are program =
    let size = are.code_size in
    laid-here CODE_START a.code (over_frames a base) refl are.code.whole (omega arith)
    (under_frames CODE_START [] a base are (inl (omega arith)) (under_log CODE_START [] a base are (inl (omega arith)) (under_output CODE_START [] a base are (omega arith) (bare CODE_START base program (omega arith)))))

pub frames-laid : (a : Areas) (base : Pages) → AreAreas a → IsProgram base → IsLaid FRAMES_START a.frames (areas_over a base)
frames-laid a base are program =
    let size = are.frames_size in
    under_code FRAMES_START a.frames a base are (omega arith) (laid-here FRAMES_START a.frames (over_log a base) refl are.frames.whole (omega arith)
    (under_log FRAMES_START [] a base are (inl (omega arith)) (under_output FRAMES_START [] a base are (omega arith) (bare FRAMES_START base program (omega arith)))))

pub log-laid : (a : Areas) (base : Pages) → AreAreas a → IsProgram base → IsLaid LOG_START a.log (areas_over a base)
log-laid a base are program =
    let size = are.log_size in
    under_code LOG_START a.log a base are (omega arith) (under_frames LOG_START a.log a base are (inr (omega arith))
    (laid-here LOG_START a.log (over_output a base) refl are.log.whole (omega arith) (under_output LOG_START [] a base are (omega arith) (bare LOG_START base program (omega arith)))))

pub output-laid : (a : Areas) (base : Pages) → AreAreas a → IsProgram base → IsLaid OUTPUT_START a.output (areas_over a base)
output-laid a base are program =
    let size = are.output_size in
    under_code OUTPUT_START a.output a base are (omega arith) (under_frames OUTPUT_START a.output a base are (inr (omega arith)) (under_log OUTPUT_START a.output a base are (inr (omega arith))
    (laid-here OUTPUT_START a.output base refl are.output.whole (omega arith) (bare OUTPUT_START base program (omega arith)))))

-- ---- bytes that are written to an area

AreWhole-over_output : (a : Areas) (base : Pages) → AreAreas a → AreWhole base → AreWhole (over_output a base)
AreWhole-over_output a base are whole = AreWhole-lay_at OUTPUT_START a.output base are.output.whole whole

AreWhole-over_log : (a : Areas) (base : Pages) → AreAreas a → AreWhole base → AreWhole (over_log a base)
AreWhole-over_log a base are whole = AreWhole-lay_at LOG_START a.log (over_output a base) are.log.whole (AreWhole-over_output a base are whole)

AreWhole-over_frames : (a : Areas) (base : Pages) → AreAreas a → AreWhole base → AreWhole (over_frames a base)
AreWhole-over_frames a base are whole = AreWhole-lay_at FRAMES_START a.frames (over_log a base) are.frames.whole (AreWhole-over_log a base are whole)

set-code : (a : Areas) (base : Pages) (i : ℕ) (new : List ℕ) → AreAreas a → AreWhole base → i + length new ≤ length a.code
    → set_bytes (areas_over a base) (CODE_START + i) new ≡ areas_over (record a { code = put_bytes a.code i new }) base
unfolding areas_over
set-code a base i new are whole within = set_bytes-lay_at CODE_START a.code (over_frames a base) i new refl are.code.whole (AreWhole-over_frames a base are whole) within

-- bytes behind the code
set-behind_code : (a : Areas) (base : Pages) (address : ℕ) (new : List ℕ) → AreAreas a → FRAMES_START ≤ address → set_bytes (areas_over a base) address new ≡ lay_at CODE_START a.code (set_bytes (over_frames a base) address new)
unfolding areas_over
set-behind_code a base address new are behind =
    let size = are.code_size in
    set_bytes-lay_elsewhere CODE_START a.code (over_frames a base) address new refl are.code.whole (inr (omega arith))

set-frames : (a : Areas) (base : Pages) (i : ℕ) (new : List ℕ) → AreAreas a → AreWhole base → i + length new ≤ length a.frames
    → set_bytes (areas_over a base) (FRAMES_START + i) new ≡ areas_over (record a { frames = put_bytes a.frames i new }) base
unfolding areas_over
set-frames a base i new are whole within =
    set-behind_code a base (FRAMES_START + i) new are (omega arith)
    ∙ ap (lay_at CODE_START a.code) (set_bytes-lay_at FRAMES_START a.frames (over_log a base) i new refl are.frames.whole (AreWhole-over_log a base are whole) within)

set-behind_frames : (a : Areas) (base : Pages) (address : ℕ) (new : List ℕ) → AreAreas a → LOG_START ≤ address
    → set_bytes (areas_over a base) address new ≡ lay_at CODE_START a.code (lay_at FRAMES_START a.frames (set_bytes (over_log a base) address new))
set-behind_frames a base address new are behind =
    let size = are.frames_size in
    set-behind_code a base address new are (omega arith)
    ∙ ap (lay_at CODE_START a.code) (set_bytes-lay_elsewhere FRAMES_START a.frames (over_log a base) address new refl are.frames.whole (inr (omega arith)))

set-log : (a : Areas) (base : Pages) (i : ℕ) (new : List ℕ) → AreAreas a → AreWhole base → i + length new ≤ length a.log
    → set_bytes (areas_over a base) (LOG_START + i) new ≡ areas_over (record a { log = put_bytes a.log i new }) base
unfolding areas_over
set-log a base i new are whole within =
    set-behind_frames a base (LOG_START + i) new are (omega arith)
    ∙ ap (λ (p : Pages). lay_at CODE_START a.code (lay_at FRAMES_START a.frames p)) (set_bytes-lay_at LOG_START a.log (over_output a base) i new refl are.log.whole (AreWhole-over_output a base are whole) within)

set-output : (a : Areas) (base : Pages) (i : ℕ) (new : List ℕ) → AreAreas a → AreWhole base → i + length new ≤ length a.output
    → set_bytes (areas_over a base) (OUTPUT_START + i) new ≡ areas_over (record a { output = put_bytes a.output i new }) base
unfolding areas_over
set-output a base i new are whole within =
    let size = are.log_size in
    set-behind_frames a base (OUTPUT_START + i) new are (omega arith)
    ∙ ap (λ (p : Pages). lay_at CODE_START a.code (lay_at FRAMES_START a.frames p))
    (set_bytes-lay_elsewhere LOG_START a.log (over_output a base) (OUTPUT_START + i) new refl are.log.whole (inr (omega arith))
    ∙ ap (lay_at LOG_START a.log) (set_bytes-lay_at OUTPUT_START a.output base i new refl are.output.whole whole within))

-- ---- loads and stores of a bank

-- the region of an address, with the place in it
data Region (address : ℕ) : Type 0 where
  InCode : (i : ℕ) → address ≡ CODE_START + i → i < 2 ^ 28 → Region address
  InFrames : (i : ℕ) → address ≡ FRAMES_START + i → i < 2 ^ 28 → Region address
  InLog : (i : ℕ) → address ≡ LOG_START + i → i < 2 ^ 28 → Region address
  InOutput : (i : ℕ) → address ≡ OUTPUT_START + i → i < 2 ^ 28 → Region address

region : (address : ℕ) → CODE_START ≤ address → address < 2 ^ 32 → Region address
region address from to = ⊎_elim
    (λ (h : address < FRAMES_START). InCode (address - CODE_START) (omega arith) (omega arith))
    (λ (h : FRAMES_START ≤ address). ⊎_elim
    (λ (k : address < LOG_START). InFrames (address - FRAMES_START) (omega arith) (omega arith))
    (λ (k : LOG_START ≤ address). ⊎_elim
    (λ (l : address < OUTPUT_START). InLog (address - LOG_START) (omega arith) (omega arith))
    (λ (l : OUTPUT_START ≤ address). InOutput (address - OUTPUT_START) (omega arith) (omega arith))
    (cases_lt address OUTPUT_START))
    (cases_lt address LOG_START))
    (cases_lt address FRAMES_START)

load_from-code : (a : Areas) (i width : ℕ) → i < 2 ^ 28 → load_from a (CODE_START + i) width ≡ load_in a.code i width
unfolding load_from
load_from-code a i width inside =
    let quotient : (CODE_START + i) / 268435456 ≡ 12 = omega arith in
    let rest : (CODE_START + i) % 268435456 ≡ i = omega arith in
    rw (quotient, rest) refl

load_from-frames : (a : Areas) (i width : ℕ) → i < 2 ^ 28 → load_from a (FRAMES_START + i) width ≡ load_in a.frames i width
unfolding load_from
load_from-frames a i width inside =
    let quotient : (FRAMES_START + i) / 268435456 ≡ 13 = omega arith in
    let rest : (FRAMES_START + i) % 268435456 ≡ i = omega arith in
    rw (quotient, rest) refl

load_from-log : (a : Areas) (i width : ℕ) → i < 2 ^ 28 → load_from a (LOG_START + i) width ≡ load_in a.log i width
unfolding load_from
load_from-log a i width inside =
    let quotient : (LOG_START + i) / 268435456 ≡ 14 = omega arith in
    let rest : (LOG_START + i) % 268435456 ≡ i = omega arith in
    rw (quotient, rest) refl

load_from-output : (a : Areas) (i width : ℕ) → i < 2 ^ 28 → load_from a (OUTPUT_START + i) width ≡ load_in a.output i width
unfolding load_from
load_from-output a i width inside =
    let quotient : (OUTPUT_START + i) / 268435456 ≡ 15 = omega arith in
    let rest : (OUTPUT_START + i) % 268435456 ≡ i = omega arith in
    rw (quotient, rest) refl

-- a load above a program's memory is one of the areas
pub load-above : (a : Areas) (base : Pages) (address width : ℕ) → AreAreas a → IsProgram base → 0 < width → CODE_START ≤ address → address < 2 ^ 32 → load_at (areas_over a base) address width ≡ load_from a address width
load-above a base address width are program some from to = of (region address from to)
  where
    of : Region address → load_at (areas_over a base) address width ≡ load_from a address width
    of (InCode i at inside) = rw at (load-laid CODE_START a.code (areas_over a base) i width (code-laid a base are program) some inside ∙ sym (load_from-code a i width inside))
    of (InFrames i at inside) = rw at (load-laid FRAMES_START a.frames (areas_over a base) i width (frames-laid a base are program) some inside ∙ sym (load_from-frames a i width inside))
    of (InLog i at inside) = rw at (load-laid LOG_START a.log (areas_over a base) i width (log-laid a base are program) some inside ∙ sym (load_from-log a i width inside))
    of (InOutput i at inside) = rw at (load-laid OUTPUT_START a.output (areas_over a base) i width (output-laid a base are program) some inside ∙ sym (load_from-output a i width inside))

map_map : {A B C : Type 0} (f : A → B) (g : B → C) (o : Option A) → option_map g (option_map f o) ≡ option_map (λ x. g (f x)) o
map_map f g None = refl
map_map f g (Some x) = refl

abbrev over : Pages → Areas → Pages
over base a = areas_over a base

store_to-code : (a : Areas) (i width value : ℕ) → i < 2 ^ 28 → store_to a (CODE_START + i) width value ≡ option_map (λ bytes. record a { code = bytes }) (store_in a.code i width value)
unfolding store_to
store_to-code a i width value inside =
    let quotient : (CODE_START + i) / 268435456 ≡ 12 = omega arith in
    let rest : (CODE_START + i) % 268435456 ≡ i = omega arith in
    rw (quotient, rest) refl

store_to-frames : (a : Areas) (i width value : ℕ) → i < 2 ^ 28 → store_to a (FRAMES_START + i) width value ≡ option_map (λ bytes. record a { frames = bytes }) (store_in a.frames i width value)
unfolding store_to
store_to-frames a i width value inside =
    let quotient : (FRAMES_START + i) / 268435456 ≡ 13 = omega arith in
    let rest : (FRAMES_START + i) % 268435456 ≡ i = omega arith in
    rw (quotient, rest) refl

store_to-log : (a : Areas) (i width value : ℕ) → i < 2 ^ 28 → store_to a (LOG_START + i) width value ≡ option_map (λ bytes. record a { log = bytes }) (store_in a.log i width value)
unfolding store_to
store_to-log a i width value inside =
    let quotient : (LOG_START + i) / 268435456 ≡ 14 = omega arith in
    let rest : (LOG_START + i) % 268435456 ≡ i = omega arith in
    rw (quotient, rest) refl

store_to-output : (a : Areas) (i width value : ℕ) → i < 2 ^ 28 → store_to a (OUTPUT_START + i) width value ≡ option_map (λ bytes. record a { output = bytes }) (store_in a.output i width value)
unfolding store_to
store_to-output a i width value inside =
    let quotient : (OUTPUT_START + i) / 268435456 ≡ 15 = omega arith in
    let rest : (OUTPUT_START + i) % 268435456 ≡ i = omega arith in
    rw (quotient, rest) refl

-- and so is a store
pub store-above : (a : Areas) (base : Pages) (address width value : ℕ) → AreAreas a → IsProgram base → AreWhole base → 0 < width → CODE_START ≤ address → address < 2 ^ 32
    → store_at (areas_over a base) address width value ≡ option_map (λ (b : Areas). areas_over b base) (store_to a address width value)
store-above a base address width value are program whole some from to = of (region address from to)
  where
    long : length (low_bytes width value) ≡ width
    long = length-low_bytes width value

    of : Region address → store_at (areas_over a base) address width value ≡ option_map (λ (b : Areas). areas_over b base) (store_to a address width value)
    of (InCode i at inside) = rw at
        (store-laid CODE_START a.code (areas_over a base) (λ bytes. areas_over (record a { code = bytes }) base) i width value (code-laid a base are program) some inside
        (λ within. set-code a base i (low_bytes width value) are whole (omega (arith, long)))
        ∙ sym (ap (option_map (over base)) (store_to-code a i width value inside) ∙ map_map (λ bytes. record a { code = bytes }) (over base) (store_in a.code i width value)))
    of (InFrames i at inside) = rw at
        (store-laid FRAMES_START a.frames (areas_over a base) (λ bytes. areas_over (record a { frames = bytes }) base) i width value (frames-laid a base are program) some inside
        (λ within. set-frames a base i (low_bytes width value) are whole (omega (arith, long)))
        ∙ sym (ap (option_map (over base)) (store_to-frames a i width value inside) ∙ map_map (λ bytes. record a { frames = bytes }) (over base) (store_in a.frames i width value)))
    of (InLog i at inside) = rw at
        (store-laid LOG_START a.log (areas_over a base) (λ bytes. areas_over (record a { log = bytes }) base) i width value (log-laid a base are program) some inside
        (λ within. set-log a base i (low_bytes width value) are whole (omega (arith, long)))
        ∙ sym (ap (option_map (over base)) (store_to-log a i width value inside) ∙ map_map (λ bytes. record a { log = bytes }) (over base) (store_in a.log i width value)))
    of (InOutput i at inside) = rw at
        (store-laid OUTPUT_START a.output (areas_over a base) (λ bytes. areas_over (record a { output = bytes }) base) i width value (output-laid a base are program) some inside
        (λ within. set-output a base i (low_bytes width value) are whole (omega (arith, long)))
        ∙ sym (ap (option_map (over base)) (store_to-output a i width value inside) ∙ map_map (λ bytes. record a { output = bytes }) (over base) (store_in a.output i width value)))

-- ---- and below it, of the program's memory

pub get-below : (a : Areas) (base : Pages) (page : ℕ) → page < 0xC0000 → get (areas_over a base) page ≡ get base page
unfolding areas_over
get-below a base page below =
    get-lay_elsewhere 0xC0000 (length a.code / 4096) a.code (over_frames a base) page (inl (omega arith))
    ∙ get-lay_elsewhere 0xD0000 (length a.frames / 4096) a.frames (over_log a base) page (inl (omega arith))
    ∙ get-lay_elsewhere 0xE0000 (length a.log / 4096) a.log (over_output a base) page (inl (omega arith))
    ∙ get-lay_elsewhere 0xF0000 (length a.output / 4096) a.output base page (inl (omega arith))

-- memories with the same bytes give the same ones
pub bytes-same : (first second : Pages) (address count : ℕ) → ((k : ℕ) → k < count → byte_at first (address + k) ≡ byte_at second (address + k)) → bytes_at first address count ≡ bytes_at second address count
unfolding bytes_at
bytes-same first second address zero same = refl
bytes-same first second address (suc count) same =
    let here : byte_at first address ≡ byte_at second address = ap (byte_at first) (sym (add-zero address)) ∙ same 0 (omega arith) ∙ ap (byte_at second) (add-zero address) in
    let rest : bytes_at first (address + 1) count ≡ bytes_at second (address + 1) count = bytes-same first second (address + 1) count (λ k below.
    let next : address + 1 + k ≡ address + (k + 1) = omega arith in
    ap (byte_at first) next ∙ same (k + 1) (omega arith) ∙ ap (byte_at second) (sym next)) in
    rw (here, rest) refl

byte-below : (a : Areas) (base : Pages) (address : ℕ) → address < CODE_START → byte_at (areas_over a base) address ≡ byte_at base address
unfolding byte_at
byte-below a base address below = ap (option_and_then (λ page. slice_get page (address % 4096))) (get-below a base (address / 4096) (omega arith))

-- the last page below the areas is never mapped
no_last_page : (base : Pages) (address : ℕ) → IsProgram base → 0xBFFFF000 ≤ address → get base (address / 4096) ≡ None
no_last_page base address program above = of (get base (address / 4096)) refl
  where
    of : (o : Option (List ℕ)) → get base (address / 4096) ≡ o → get base (address / 4096) ≡ None
    of None found = found
    of (Some page) found = let below = program (address / 4096) (ap is_some found) in absurd (omega arith)

no_bytes : (pages : Pages) (address count : ℕ) → 0 < count → get pages (address / 4096) ≡ None → bytes_at pages address count ≡ None
unfolding bytes_at
no_bytes pages address zero some none = absurd (omega arith)
no_bytes pages address (suc count) some none = no_first (byte_at pages address) (bytes_at pages (address + 1) count) (byte_at-none pages address none)

bytes-below : (a : Areas) (base : Pages) (address width : ℕ) → IsProgram base → 0 < width → width ≤ 4 → address < CODE_START → bytes_at (areas_over a base) address width ≡ bytes_at base address width
bytes-below a base address width program some few below = ⊎_elim
    (λ (inside : address < 0xBFFFF000). bytes-same (areas_over a base) base address width (λ k within. byte-below a base (address + k) (omega arith)))
    (λ (last : 0xBFFFF000 ≤ address).
    no_bytes (areas_over a base) address width some (get-below a base (address / 4096) (omega arith) ∙ no_last_page base address program last)
    ∙ sym (no_bytes base address width some (no_last_page base address program last)))
    (cases_lt address 0xBFFFF000)

pub load-below : (a : Areas) (base : Pages) (address width : ℕ) → IsProgram base → 0 < width → width ≤ 4 → address < CODE_START → load_at (areas_over a base) address width ≡ load_at base address width
unfolding load_at
load-below a base address width program some few below = ap (option_map from_bytes) (bytes-below a base address width program some few below)

set-below : (a : Areas) (base : Pages) (address : ℕ) (new : List ℕ) → AreAreas a → address + length new ≤ CODE_START → set_bytes (areas_over a base) address new ≡ areas_over a (set_bytes base address new)
unfolding areas_over
set-below a base address new are before =
    set_bytes-lay_elsewhere CODE_START a.code (over_frames a base) address new refl are.code.whole (inl before)
    ∙ ap (lay_at CODE_START a.code) (set_bytes-lay_elsewhere FRAMES_START a.frames (over_log a base) address new refl are.frames.whole (inl (omega arith))
    ∙ ap (lay_at FRAMES_START a.frames) (set_bytes-lay_elsewhere LOG_START a.log (over_output a base) address new refl are.log.whole (inl (omega arith))
    ∙ ap (lay_at LOG_START a.log) (set_bytes-lay_elsewhere OUTPUT_START a.output base address new refl are.output.whole (inl (omega arith)))))

pub store-below : (a : Areas) (base : Pages) (address width value : ℕ) → AreAreas a → IsProgram base → 0 < width → width ≤ 4 → address < CODE_START
    → store_at (areas_over a base) address width value ≡ option_map (areas_over a) (store_at base address width value)
unfolding store_at
store-below a base address width value are program some few below =
    ap (option_map (λ _. set_bytes (areas_over a base) address (low_bytes width value))) (bytes-below a base address width program some few below)
    ∙ ⊎_elim
    (λ (inside : address < 0xBFFFF000).
    ap (λ (p : Pages). option_map {T = List ℕ} (λ _. p) (bytes_at base address width)) (set-below a base address (low_bytes width value) are (omega (arith, length-low_bytes width value)))
    ∙ sym (map_map {A = List ℕ} (λ _. set_bytes base address (low_bytes width value)) (areas_over a) (bytes_at base address width)))
    (λ (last : 0xBFFFF000 ≤ address).
    let none : bytes_at base address width ≡ None = no_bytes base address width some (no_last_page base address program last) in
    rw none refl)
    (cases_lt address 0xBFFFF000)
