use Rattle.std.proofs.Common.{◌≡◌, ◌-◌, ◌++◌, length, length-append, arith, refl, ap, sym, ◌∙◌}
use Rattle.std.proofs.lemmas.List.{take-append-drop}
use Rattle.std.proofs.lemmas.Bool.{eqb-true}
use Rattle.sl_model.proofs.PagesLaws.{bytes_at-mapped}
use Rattle.page_frames.specs.MarkedPages.{with_bytes}
use Rattle.page_frames.proofs.Copied.{with_bytes-append, with_bytes-nil, AreMapped-rest}
use Rattle.tree_frames.proofs.frames.TreeFrames.copy_in.Goals as goal

pub loop-rest-init : goal.loop-rest-init
loop-rest-init c = record {
  same = rw c.from-addr.ensures refl;
  mapped = rw c.from-addr.ensures (bytes_at-mapped c.args.self.now.pages c.args.addr (length c.args.bytes.now) c.requires);
  address = omega (arith, c.from-addr.ensures);
}

pub loop-rest-preserved : goal.loop-rest-preserved
loop-rest-preserved c =
    let whole : c.split_at.result.0.now ++ c.split_at.result.1.now ≡ c.loop-rest.rest.now = rw (c.split_at.ensures.front, c.split_at.ensures.back) (take-append-drop _ c.loop-rest.rest.now) in
    let here : length c.split_at.result.0.now ≡ c.in_page-count.result = c.split_at.ensures.front_len in
    let left : length c.loop-rest.rest.now - length c.split_at.result.0.now ≡ length c.split_at.result.1.now = omega (arith, length-append c.split_at.result.0.now c.split_at.result.1.now, ap length whole) in
    record {
      same = rw (c.copy_into_page.ensures.bytes, ← here) (sym (with_bytes-append c.loop-rest.self c.loop-rest.addr c.split_at.result.0.now c.split_at.result.1.now) ∙ ap (with_bytes c.loop-rest.self c.loop-rest.addr) whole ∙ c.loop-rest.invariant.same);
      mapped = rw (c.copy_into_page.ensures.bytes, ← here, ← left) (AreMapped-rest c.loop-rest.self.pages c.loop-rest.addr (length c.loop-rest.rest.now) c.split_at.result.0.now c.loop-rest.invariant.mapped);
      address = omega (arith, c.copy_into_page.ensures.address, c.in_page-count.ensures);
    }

pub returns : goal.returns
returns c = sym (with_bytes-nil c.loop-rest.self c.loop-rest.addr c.loop-rest.rest.now (eqb-true (length c.loop-rest.rest.now) 0 (sym c.loop-rest-test.ensures))) ∙ c.loop-rest.invariant.same
