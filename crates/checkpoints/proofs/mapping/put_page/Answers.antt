use Rattle.std.proofs.Common.{◌≡◌, ◌*◌, true, false, ap, sym, ◌∙◌, eqb}
use Rattle.std.specs.Prelude.{is_some, length}
use Rattle.std.specs.List.{list_any}
use Rattle.std.specs.FinMap.{get, contains_key}
use Rattle.page_frames.specs.MarkedPages.{with_bytes}
use Rattle.sl_model.proofs.WholePages.{page_mapped}
use Rattle.checkpoints.proofs.Options.{is_some-copied}
use Rattle.checkpoints.proofs.Puts.{put-written, put-later, put-unmapped, some_page}
use Rattle.checkpoints.proofs.mapping.put_page.Goals as goal
use Rattle.checkpoints.proofs.mapping.put_page.Goals.{else-is_mapped-via-then-is_mapped+else-not-is_dirty, else-is_mapped-via-else-is_mapped}

pub copy_in-requires : goal.copy_in-requires
copy_in-requires c =
    let pages = c.args.frames.now.pages in
    let number = c.args.page.now.number in
    let mapped : is_some (get pages number) ≡ true =
    ap is_some (sym c.page.ensures.bytes) ∙ is_some-copied c.page.result ∙ sym c.is_some-is_mapped.ensures ∙ c.if-is_mapped.true in
    let page = some_page (get pages number) mapped in
    page_mapped pages number page.0 c.as_slice.result.now c.page.ensures.kept.whole page.1
    (ap length c.as_slice.ensures ∙ c.requires.bytes)

pub returns-then-not-is_dirty : goal.returns-then-not-is_dirty
returns-then-not-is_dirty c = λ before later are.
    let old = c.args.frames.now in
    let number = c.args.page.now.number in
    let mapped : contains_key old.pages number ≡ true =
    ap is_some (sym c.page.ensures.bytes) ∙ is_some-copied c.page.result ∙ sym c.is_some-is_mapped.ensures ∙ c.if-is_mapped.true in
    let clean : list_any (eqb number) old.dirty ≡ false = sym c.is_dirty.ensures ∙ c.if-not-is_dirty.true in
    put-written before c.args.page.now later old c.copy_in.new.self are c.page.ensures.kept.whole mapped clean c.requires.bytes
    (c.copy_in.ensures ∙ ap (with_bytes old (number * 4096)) c.as_slice.ensures)

pub returns-else-is_mapped : goal.returns-else-is_mapped
returns-else-is_mapped c = λ before later are.
    let old = c.args.frames.now in
    let number = c.args.page.now.number in
    elim c.else-is_mapped.branch [
      | else-is_mapped-via-then-is_mapped+else-not-is_dirty w ↦
          put-later before c.args.page.now later old are (sym w.is_dirty.ensures ∙ w.if-not-is_dirty.false)
      | else-is_mapped-via-else-is_mapped w ↦
          put-unmapped before c.args.page.now later old are
          (ap is_some (sym c.page.ensures.bytes) ∙ is_some-copied c.page.result ∙ sym c.is_some-is_mapped.ensures ∙ w.if-is_mapped.false)
    ]
