-- Frames that are copied one after the other.
use Rattle.std.proofs.Common.{◌≡◌, ℕ, suc, ◌+◌, ◌<◌, Bool, true, false, cond, Some}
use Rattle.std.proofs.Common.{None, refl, ap, ◌∙◌, sym, arith, eqb, slice_get}
use Rattle.std.specs.Prelude.{Option}
use Rattle.std.specs.Option.{option_map, option_and_then}
use Rattle.std.specs.FinMap.{get, insert}
use Rattle.page_frames.specs.declared.frame.Frame.{Frame}
use Rattle.page_frames.specs.declared.table.Table.{Table}
use Rattle.page_frames.specs.Linked.{IsTable, IsGrown, Puts, frame_of, place_of}
use Rattle.page_frames.specs.Linked.{pages_of, pages_below, with_frame}
use Rattle.page_frames.proofs.Tables.{get-pages_of, get-pages_below, frame-linked}
use Rattle.page_frames.proofs.Changes.{IsTable-grown, frame_of-grown, pages_of-grown, pages_of-empty, frame_of-empty}
use Rattle.page_frames.proofs.Changed.{pages-put, place-put}

-- the first n frames of a source stand in a table, and no page is dirty
pub record IsCopied (source : Table) (n : ℕ) (t : Table) : Type 0 where
  pub table : IsTable t
  pub used : t.used ≡ n
  pub pages : pages_of t ≡ pages_below source.frames.items n
  pub clean : (page : ℕ) → place_of t page ≡ None

pub IsCopied-none : (source t : Table) → IsTable t → t.used ≡ 0 → IsCopied source 0 t
IsCopied-none source t is none = record {
  table = is;
  used = none;
  pages = pages_of-empty t none;
  clean = λ page. ap (option_and_then (λ f. f.place)) (frame_of-empty t page none);
}

pub IsCopied-grown : (source t u : Table) (n : ℕ) → IsGrown t u → IsCopied source n t → IsCopied source n u
IsCopied-grown source t u n more is = record {
  table = IsTable-grown t u more is.table;
  used = more.used ∙ is.used;
  pages = pages_of-grown t u more is.table ∙ is.pages;
  clean = λ page. ap (option_and_then (λ f. f.place)) (frame_of-grown t u more is.table page) ∙ is.clean page;
}

none_by : (o : Option Frame) → option_map (λ f. f.bytes) o ≡ None → o ≡ None
none_by None is = refl
none_by (Some f) is = absurd cc

-- a frame of the source is not among the copies of those below it
pub not_copied : (source t : Table) (n : ℕ) (f : Frame) → IsTable source → n < source.used
    → slice_get source.frames.items n ≡ Some f → IsCopied source n t → frame_of t f.page ≡ None
not_copied source t n f are lt at is =
    let alone = (frame-linked source n f are lt at).alone in
    none_by (frame_of t f.page)
    (sym (get-pages_of t f.page) ∙ ap (λ p. get p f.page) is.pages
    ∙ get-pages_below source.frames.items n f.page
    ∙ ap (λ o. option_map (λ f. f.bytes) (option_and_then (λ i. slice_get source.frames.items i) o)) alone)

place_if : (b : Bool) (o : Option ℕ) → o ≡ None → cond b None o ≡ None
place_if true o is = refl
place_if false o is = is

pub IsCopied-more : (source t u : Table) (n : ℕ) (f new : Frame) → slice_get source.frames.items n ≡ Some f
    → IsCopied source n t → IsTable u → u.used ≡ t.used + 1 → Puts t f.page new u
    → new.bytes ≡ f.bytes → new.place ≡ None → IsCopied source (n + 1) u
IsCopied-more source t u n f new at is table used puts bytes place = record {
  table = table;
  used = used ∙ omega (arith, is.used);
  pages =
      let one : n + 1 ≡ suc n = omega arith in
      pages-put puts ∙ ap (insert (pages_of t) f.page) bytes ∙ ap (λ p. insert p f.page f.bytes) is.pages
      ∙ ap (λ o. with_frame o (pages_below source.frames.items n)) (sym at)
      ∙ ap (pages_below source.frames.items) (sym one);
  clean = λ page. place-put puts page ∙ ap (λ o. cond (eqb f.page page) o (place_of t page)) place
      ∙ place_if (eqb f.page page) (place_of t page) (is.clean page);
}
