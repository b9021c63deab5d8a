-- A number from its bytes, the first one and the others.
use Rattle.std.proofs.Common.{◌≡◌, ℕ, suc, ◌+◌, ◌-◌, ◌*◌, ◌/◌, ◌%◌, ◌^◌, ◌<◌, ◌≤◌, Some, None, refl, ap, ◌∙◌, sym, arith, take, drop, lit<}
use Rattle.std.specs.Option.{option_map, option_and_then}
use Rattle.std.specs.Ordering.{nat_cmp}
use Rattle.std.specs.BTreeMap.{get}
use Rattle.std.specs.FinMap as map
use Rattle.std.proofs.Math.Nat.{pow-succ', pow-le-pow_right}
use Rattle.sl_model.specs.Pages.{Pages, IsPage, byte_at, load_at, bytes_at, from_bytes}
use Rattle.sl_model.proofs.PagesLaws.{load_at-suc, load_at-in_page, load_at-none}
use Rattle.tree_frames.specs.declared.frame.Frame.{Frame}
use Rattle.tree_frames.specs.declared.frames.TreeFrames.TheInside.{Inside}
use Rattle.page_frames.specs.MarkedPages.{MarkedPages}
use Rattle.tree_frames.specs.Fields.{AreFields, marked_pages_of}
use Rattle.tree_frames.proofs.Views.{get-pages_of}

pub no_bytes : (pages : Pages) (address count : ℕ) → count ≡ 0 → Some 0 ≡ load_at pages address count
unfolding load_at bytes_at
no_bytes pages address count none = rw none refl

parts : (pages : Pages) (address count : ℕ) → 0 < count → load_at pages address count ≡ option_and_then (λ b. option_map (λ n. b + 256 * n) (load_at pages (address + 1) (count - 1))) (byte_at pages address)
parts pages address count some =
    let split : count ≡ suc (count - 1) = omega arith in
    ap (load_at pages address) split ∙ load_at-suc pages address (count - 1)

pub no_first : (pages : Pages) (address count : ℕ) → 0 < count → None ≡ byte_at pages address → None ≡ load_at pages address count
no_first pages address count some none = rw (parts pages address count some, ← none) refl

pub no_rest : (pages : Pages) (address count b : ℕ) → 0 < count → Some b ≡ byte_at pages address → None ≡ load_at pages (address + 1) (count - 1) → None ≡ load_at pages address count
no_rest pages address count b some first none = rw (parts pages address count some, ← first, ← none) refl

pub number : (pages : Pages) (address count b n : ℕ) → 0 < count → Some b ≡ byte_at pages address → Some n ≡ load_at pages (address + 1) (count - 1) → Some (b + 256 * n) ≡ load_at pages address count
number pages address count b n some first rest = rw (parts pages address count some, ← first, ← rest) refl

pub number_fits : (count b n : ℕ) → 0 < count → b < 256 → n < 256 ^ (count - 1) → b + 256 * n < 256 ^ count
number_fits count b n some first rest =
    let split : count ≡ suc (count - 1) = omega arith in
    let power : 256 ^ count ≡ 256 * 256 ^ (count - 1) = ap (λ k. 256 ^ k) split ∙ pow-succ' 256 (count - 1) in
    omega arith

-- four bytes fit a word
pub word_fits : (count n : ℕ) → count ≤ 4 → n < 256 ^ count → n < 2 ^ 32
word_fits count n few fits =
    let power : 256 ^ count ≤ 256 ^ 4 = pow-le-pow_right (lit< tt) few in
    omega arith

-- ---- in one page

pub load_at-unmapped : (a : Inside) (m : MarkedPages) (address count : ℕ) → marked_pages_of a ≡ m → 0 < count → None ≡ get nat_cmp a.frames (address / 4096) → None ≡ load_at m.pages address count
load_at-unmapped a m address count view some none =
    let unmapped : map.get m.pages (address / 4096) ≡ None = ap (λ v. map.get v.pages (address / 4096)) (sym view) ∙ get-pages_of a.frames (address / 4096) ∙ ap (option_map (λ f. f.bytes)) (sym none) in
    sym (load_at-none m.pages address count unmapped some)

pub load_at-mapped : (a : Inside) (m : MarkedPages) (address count : ℕ) (frame : Frame) → AreFields a → marked_pages_of a ≡ m → Some frame ≡ get nat_cmp a.frames (address / 4096) → address % 4096 + count ≤ 4096
    → Some (from_bytes (take count (drop (address % 4096) frame.bytes))) ≡ load_at m.pages address count
load_at-mapped a m address count frame are view found within =
    let mapped : map.get m.pages (address / 4096) ≡ Some frame.bytes = ap (λ v. map.get v.pages (address / 4096)) (sym view) ∙ get-pages_of a.frames (address / 4096) ∙ ap (option_map (λ f. f.bytes)) (sym found) in
    let is : IsPage frame.bytes = rw (← found) at (are.whole (address / 4096)) in
    sym (load_at-in_page m.pages address count frame.bytes mapped is.whole within)
