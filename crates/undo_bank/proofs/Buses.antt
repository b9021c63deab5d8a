-- What a bus needs of the areas: what its loads and stores give, in terms of memory.
use Rattle.std.specs.Prelude.{Option, is_some, unwrap_or, Contains}
use Rattle.std.specs.Option.{option_map}
use Rattle.std.specs.Ordering.{nat_cmp}
use Rattle.std.specs.FinMap.{get, empty, get-empty}
use Rattle.std.proofs.Common.{◌≡◌, ℕ, ◌+◌, ◌/◌, ◌%◌, ◌^◌, ◌<◌, ◌≤◌, List, length, Some, None, Bool, true, false, refl, ap, ◌∙◌, sym, arith, inl, inr, ⊎_elim, ne_eqb, ◌≢◌, [], append-nil}
use Rattle.std.proofs.lemmas.Bool.{cases_lt}
use Rattle.sl_model.specs.declared.bank.TheConstants.{CODE_START}
use Rattle.sl_model.specs.Pages.{Pages, IsWidth, load_at, store_at}
use Rattle.sl_model.specs.Marks.{MarksGoOn}
use Rattle.sl_model.proofs.PagesLaws.{load_at-none}
use Rattle.sl_model.proofs.Memory.{is_some-store_at}
use Rattle.undo_bank.specs.Dense.{store_in}
use Rattle.undo_bank.specs.Areas.{Areas, AreAreas, IsDense, areas_over, bank_pages, load_from, store_to}
use Rattle.undo_bank.proofs.DenseLaws.{store_in-within, store_in-past, length-stored, All-stored}
use Rattle.undo_bank.proofs.AreasLaws.{load-above, store-above, load-below, store-below, get-below}
use Rattle.undo_bank.proofs.LogLaws.{IsProgram-empty, AreWhole-empty}

pub is_some-map : {A B : Type 0} (f : A → B) (o : Option A) → is_some (option_map f o) ≡ is_some o
is_some-map f None = refl
is_some-map f (Some x) = refl

pub unwrap_or-map : {A B : Type 0} (f : A → B) (o : Option A) (d : A) → unwrap_or (option_map f o) (f d) ≡ f (unwrap_or o d)
unwrap_or-map f None d = refl
unwrap_or-map f (Some x) d = refl

pub width_some : (width : ℕ) → IsWidth width → 0 < width
width_some width is = grind arith

pub width_few : (width : ℕ) → IsWidth width → width ≤ 4
width_few width is = grind arith

-- ---- an area after a store

pub IsDense-stored : (area : List ℕ) (offset width value : ℕ) → IsDense area → IsDense (unwrap_or (store_in area offset width value) area)
IsDense-stored area offset width value is = ⊎_elim
    (λ (over : length area < offset + width). rw (store_in-past area offset width value over) is)
    (λ (within : offset + width ≤ length area). rw (store_in-within area offset width value within)
    (record { whole = ap (λ n. n % 4096) (length-stored area offset width value) ∙ is.whole; bytes = All-stored area offset width value is.bytes }))
    (cases_lt (length area) (offset + width))

pub length-store_in : (area : List ℕ) (offset width value : ℕ) → length (unwrap_or (store_in area offset width value) area) ≡ length area
length-store_in area offset width value = ⊎_elim
    (λ (over : length area < offset + width). rw (store_in-past area offset width value over) refl)
    (λ (within : offset + width ≤ length area). rw (store_in-within area offset width value within) (length-stored area offset width value))
    (cases_lt (length area) (offset + width))

pub AreAreas-code : (a : Areas) (area : List ℕ) → AreAreas a → IsDense area → length area ≡ length a.code → AreAreas (record a { code = area })
AreAreas-code a area are is size = record {
  code = is;
  frames = are.frames;
  log = are.log;
  output = are.output;
  code_size = let before = are.code_size in omega arith;
  frames_size = are.frames_size;
  log_size = are.log_size;
  output_size = are.output_size;
}

pub AreAreas-frames : (a : Areas) (area : List ℕ) → AreAreas a → IsDense area → length area ≡ length a.frames → AreAreas (record a { frames = area })
AreAreas-frames a area are is size = record {
  code = are.code;
  frames = is;
  log = are.log;
  output = are.output;
  code_size = are.code_size;
  frames_size = size ∙ are.frames_size;
  log_size = are.log_size;
  output_size = are.output_size;
}

pub AreAreas-log : (a : Areas) (area : List ℕ) → AreAreas a → IsDense area → length area ≡ length a.log → AreAreas (record a { log = area })
AreAreas-log a area are is size = record {
  code = are.code;
  frames = are.frames;
  log = is;
  output = are.output;
  code_size = are.code_size;
  frames_size = are.frames_size;
  log_size = size ∙ are.log_size;
  output_size = are.output_size;
}

pub AreAreas-output : (a : Areas) (area : List ℕ) → AreAreas a → IsDense area → length area ≡ length a.output → AreAreas (record a { output = area })
AreAreas-output a area are is size = record {
  code = are.code;
  frames = are.frames;
  log = are.log;
  output = is;
  code_size = are.code_size;
  frames_size = are.frames_size;
  log_size = are.log_size;
  output_size = size ∙ are.output_size;
}

-- ---- a store, region by region

-- what a store to an area makes of all
pub record Stores (a after : Areas) (address width value : ℕ) (b : Bool) : Type 0 where
  pub done : b ≡ is_some (store_to a address width value)
  pub areas : after ≡ unwrap_or (store_to a address width value) a

stores : (a : Areas) (address width value : ℕ) (area new : List ℕ) (put : List ℕ → Areas) (b : Bool) → put area ≡ a
    → store_to a address width value ≡ option_map put (store_in area (address % 268435456) width value)
    → b ≡ is_some (store_in area (address % 268435456) width value) → new ≡ unwrap_or (store_in area (address % 268435456) width value) area
    → Stores a (put new) address width value b
stores a address width value area new put b same is done bytes = record {
  done = done ∙ sym (ap is_some is ∙ is_some-map put (store_in area (address % 268435456) width value));
  areas = ap put bytes ∙ sym (ap (λ o. unwrap_or o a) is ∙ ap (unwrap_or (option_map put (store_in area (address % 268435456) width value))) (sym same)
      ∙ unwrap_or-map put (store_in area (address % 268435456) width value) area);
}

pub stores-code : (a : Areas) (address width value : ℕ) (new : List ℕ) (b : Bool) → address / 268435456 ≡ 12
    → b ≡ is_some (store_in a.code (address % 268435456) width value) → new ≡ unwrap_or (store_in a.code (address % 268435456) width value) a.code
    → Stores a (record a { code = new }) address width value b
unfolding store_to
stores-code a address width value new b at done bytes = stores a address width value a.code new (λ area. record a { code = area }) b refl (rw at refl) done bytes

pub stores-frames : (a : Areas) (address width value : ℕ) (new : List ℕ) (b : Bool) → address / 268435456 ≡ 13
    → b ≡ is_some (store_in a.frames (address % 268435456) width value) → new ≡ unwrap_or (store_in a.frames (address % 268435456) width value) a.frames
    → Stores a (record a { frames = new }) address width value b
unfolding store_to
stores-frames a address width value new b at done bytes = stores a address width value a.frames new (λ area. record a { frames = area }) b refl (rw at refl) done bytes

pub stores-log : (a : Areas) (address width value : ℕ) (new : List ℕ) (b : Bool) → address / 268435456 ≡ 14
    → b ≡ is_some (store_in a.log (address % 268435456) width value) → new ≡ unwrap_or (store_in a.log (address % 268435456) width value) a.log
    → Stores a (record a { log = new }) address width value b
unfolding store_to
stores-log a address width value new b at done bytes = stores a address width value a.log new (λ area. record a { log = area }) b refl (rw at refl) done bytes

pub stores-output : (a : Areas) (address width value : ℕ) (new : List ℕ) (b : Bool) → address / 268435456 ≡ 15
    → b ≡ is_some (store_in a.output (address % 268435456) width value) → new ≡ unwrap_or (store_in a.output (address % 268435456) width value) a.output
    → Stores a (record a { output = new }) address width value b
unfolding store_to
stores-output a address width value new b at done bytes = stores a address width value a.output new (λ area. record a { output = area }) b refl (rw at refl) done bytes

-- ---- addresses below the areas

pub no_region : (a : Areas) (address width : ℕ) → address < CODE_START → load_from a address width ≡ None
unfolding load_from
no_region a address width below =
    let q : ℕ = address / 268435456 in
    let small : address / 268435456 < 12 = omega arith in
    rw (ne_eqb (address / 268435456) 12 (λ e. omega arith), ne_eqb (address / 268435456) 13 (λ e. omega arith), ne_eqb (address / 268435456) 14 (λ e. omega arith), ne_eqb (address / 268435456) 15 (λ e. omega arith)) refl

pub no_store : (a : Areas) (address width value : ℕ) → address / 268435456 ≢ 12 → address / 268435456 ≢ 13 → address / 268435456 ≢ 14 → address / 268435456 ≢ 15 → store_to a address width value ≡ None
unfolding store_to
no_store a address width value first second third fourth =
    rw (ne_eqb (address / 268435456) 12 first, ne_eqb (address / 268435456) 13 second, ne_eqb (address / 268435456) 14 third, ne_eqb (address / 268435456) 15 fourth) refl

nothing : (width address : ℕ) → 0 < width → load_at empty address width ≡ None
nothing width address some = load_at-none empty address width (get-empty nat_cmp (address / 4096)) some

no_store_at : (width address value : ℕ) → 0 < width → store_at empty address width value ≡ None
no_store_at width address value some = of (store_at empty address width value) (is_some-store_at empty address width value ∙ ap is_some (nothing width address some))
  where
    of : (o : Option Pages) → is_some o ≡ false → o ≡ None
    of None e = refl
    of (Some p) e = absurd cc

-- ---- the bank alone

pub load-bank : (a : Areas) (address width : ℕ) → AreAreas a → IsWidth width → address < 2 ^ 32 → load_at (bank_pages a) address width ≡ load_from a address width
load-bank a address width are is to = ⊎_elim
    (λ (below : address < CODE_START). load-below a empty address width IsProgram-empty (width_some width is) (width_few width is) below
    ∙ nothing width address (width_some width is) ∙ sym (no_region a address width below))
    (λ (from : CODE_START ≤ address). load-above a empty address width are IsProgram-empty (width_some width is) from to)
    (cases_lt address CODE_START)

pub store-bank : (a : Areas) (address width value : ℕ) → AreAreas a → IsWidth width → address < 2 ^ 32 → store_at (bank_pages a) address width value ≡ option_map bank_pages (store_to a address width value)
store-bank a address width value are is to = ⊎_elim
    (λ (below : address < CODE_START).
    let small : address / 268435456 < 12 = omega arith in
    store-below a empty address width value are IsProgram-empty (width_some width is) (width_few width is) below
    ∙ ap (option_map (areas_over a)) (no_store_at width address value (width_some width is))
    ∙ sym (ap (option_map bank_pages) (no_store a address width value (λ e. omega arith) (λ e. omega arith) (λ e. omega arith) (λ e. omega arith))))
    (λ (from : CODE_START ≤ address). store-above a empty address width value are IsProgram-empty AreWhole-empty (width_some width is) from to)
    (cases_lt address CODE_START)

-- ---- marks

-- what is written to the areas marks no page of the program
pub MarksGoOn-areas : (a b : Areas) (base : Pages) (marked : List ℕ) → MarksGoOn true (areas_over a base) marked (areas_over b base) marked
MarksGoOn-areas a b base marked = record {
  keeps = ([], sym (append-nil marked));
  marks = λ marking page below. inl (get-below b base page (omega arith) ∙ sym (get-below a base page (omega arith)));
}

-- and what is written to the program marks the same pages under the areas
pub MarksGoOn-program : (a : Areas) (base after : Pages) (marked marked_after : List ℕ) → MarksGoOn true base marked after marked_after → MarksGoOn true (areas_over a base) marked (areas_over a after) marked_after
MarksGoOn-program a base after marked marked_after on = record {
  keeps = on.keeps;
  marks = λ marking page below. ⊎_elim
      (λ (same : get after page ≡ get base page). inl (get-below a after page (omega arith) ∙ same ∙ sym (get-below a base page (omega arith))))
      (λ (now : Contains marked_after page). inr now)
      (on.marks marking page below);
}
