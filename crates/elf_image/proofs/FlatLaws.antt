-- A flat image can be loaded.
use Rattle.std.specs.Prelude.{◌^◌, nat_lt, ◌==◌, ◌||◌, Result, Ok, Err, IfOk, if◌then◌else◌}
use Rattle.std.specs.List.{All, range_with_len}
use Rattle.std.proofs.Common.{◌≡◌, ℕ, ◌+◌, ◌/◌, ◌<◌, ◌≤◌, Bool, true, false, cond, List, [], length, refl, ap, subst, arith, ltb-false, lt-ltb, length-append, ◌++◌}
use Rattle.std.proofs.lemmas.Bool.{eqb-false}
use Rattle.std.proofs.lemmas.List.FromFn.{length-range_with_len}
use Rattle.sl_base.specs.declared.refused.Refused.{Refused}
use Rattle.elf_image.specs.declared.image.Image.{Image}
use Rattle.elf_image.specs.declared.image.Segment.{Segment}
use Rattle.elf_image.specs.declared.fault.ImageFault.{ImageFault}
use Rattle.elf_image.specs.declared.fault.ImageCause.TheVariants.{SegmentRange, Overlap}
use Rattle.elf_image.specs.Reading.{Gives}
use Rattle.sl_model.specs.declared.layout.TheConstants.{MEMORY_END, MOST_LOADED_PAGES, STACK_PAGES}
use Rattle.elf_image.specs.Flat.{page_count, meets_stack, one_segment, flat_fault, flat_image}
use Rattle.elf_image.specs.Loadable.{segment_pages, page_set, number_of_pages, IsPlaced, IsLoadable}
use Rattle.elf_image.proofs.PageSet.{len-from_list-le}

-- what is tried of a flat image
record IsFlat (address : ℕ) (bytes : List ℕ) : Type 0 where
  some : (length bytes == 0) ≡ false
  below_end : nat_lt MEMORY_END (address + length bytes) ≡ false
  few : nat_lt MOST_LOADED_PAGES (page_count address (length bytes) + STACK_PAGES) ≡ false
  beside_stack : meets_stack address (length bytes) ≡ false

tried : (address : ℕ) (bytes : List ℕ) (image : Image) (none past many over : Bool)
    → (length bytes == 0) ≡ none → nat_lt MEMORY_END (address + length bytes) ≡ past → nat_lt MOST_LOADED_PAGES (page_count address (length bytes) + STACK_PAGES) ≡ many → meets_stack address (length bytes) ≡ over
    → (if none then flat_fault SegmentRange else if past then flat_fault SegmentRange else if many then flat_fault SegmentRange else if over then flat_fault Overlap else Ok (one_segment address bytes)) ≡ Ok image
    → IsFlat address bytes × (one_segment address bytes ≡ image)
tried address bytes image true past many over empty within few apart is = absurd cc
tried address bytes image false true many over empty within few apart is = absurd cc
tried address bytes image false false true over empty within few apart is = absurd cc
tried address bytes image false false false true empty within few apart is = absurd cc
tried address bytes image false false false false empty within few apart is =
    (record { some = empty; below_end = within; few = few; beside_stack = apart }, cc)

module _ (address : ℕ) (bytes : List ℕ) (start : address < 2 ^ 32) (each : All (λ b. b < 256) bytes) (flat : IsFlat address bytes) where
  abbrev segment : Segment
  segment = record { vaddr = address; memsz = length bytes; bytes = bytes }

  takes : 0 < length bytes
  takes =
      let apart = eqb-false (length bytes) 0 flat.some in
      omega arith

  end : address + length bytes ≤ MEMORY_END
  end = ltb-false MEMORY_END (address + length bytes) flat.below_end

  placed : IsPlaced (record { vaddr = address; memsz = length bytes; bytes = bytes })
  placed = record {
    vaddr = start;
    memsz = omega (arith, end);
    bytes = each;
    size = omega arith;
    below_end = λ _. end;
    beside_stack = λ _. flat.beside_stack;
  }

  pages : number_of_pages (one_segment address bytes).segments ≤ page_count address (length bytes)
  unfolding page_set
  pages = le_trans (len-from_list-le (segment_pages segment ++ [])) (all (nat_lt 0 (length bytes)) (range_with_len (address / 4096) (page_count address (length bytes))) (length-range_with_len (address / 4096) (page_count address (length bytes))))
    where
      all : (b : Bool) (xs : List ℕ) → length xs ≡ page_count address (length bytes) → length (cond b xs [] ++ []) ≤ page_count address (length bytes)
      all true xs is = omega (arith, length-append xs [])
      all false xs is = omega arith

      le_trans : {a b c : ℕ} → a ≤ b → b ≤ c → a ≤ c
      le_trans first then_ = omega arith

  loaded : IsLoadable (one_segment address bytes)
  loaded = record {
    entry = start;
    some = ap (λ b. b || false) (lt-ltb 0 (length bytes) takes);
    placed = (placed, tt);
    apart = λ i j d before within. absurd (omega arith);
    few = omega (arith, pages, ltb-false MOST_LOADED_PAGES (page_count address (length bytes) + STACK_PAGES) flat.few);
    named = tt;
  }

pub IsLoadable-flat : (address : ℕ) (bytes : List ℕ) (image : Image) → address < 2 ^ 32 → All (λ b. b < 256) bytes → flat_image address bytes ≡ Ok image → IsLoadable image
unfolding flat_image
IsLoadable-flat address bytes image start each is =
    let found = tried address bytes image (length bytes == 0) (nat_lt MEMORY_END (address + length bytes)) (nat_lt MOST_LOADED_PAGES (page_count address (length bytes) + STACK_PAGES)) (meets_stack address (length bytes)) refl refl refl refl is in
    subst IsLoadable found.1 (loaded address bytes start each found.0)

-- what the call gives, where it gives one
pub loadable-flat : (address : ℕ) (bytes : List ℕ) (r : Result Image (Refused ImageFault)) → address < 2 ^ 32 → All (λ b. b < 256) bytes → Gives (λ image. image) r (flat_image address bytes) → IfOk r IsLoadable
loadable-flat address bytes (Ok image) start each is = IsLoadable-flat address bytes image start each is
loadable-flat address bytes (Err e) start each is = tt
