use Rattle.std.specs.Prelude.{IsSome, option_copied, Some}
use Rattle.std.proofs.Common.{◌≡◌, ◌+◌, ◌-◌, ◌%◌, List, ℕ, ◌++◌, take, drop, sym, ap, subst, ◌∙◌, arith}
use Rattle.replay.proofs.Copied.{copied_none, page_there, copied_on}
use Rattle.replay.proofs.copying.bytes_in.Goals as goal

pub loop-at-init : goal.loop-at-init
loop-at-init c = record {
  end = omega (arith, c.from.ensures, c.from-2.ensures);
  from = omega (arith, c.from-at.ensures);
  to = omega (arith, c.from.ensures, c.from-at.ensures);
  copied = copied_none c.args.f.now.pages c.args.addr c.from-at.result c.new-bytes.result.items c.from-at.ensures c.new-bytes.ensures.items;
}

pub unreachable-requires : goal.unreachable-requires
unreachable-requires c =
    let kept = c.loop-at.invariant in
    let there = page_there c.args.f.now.pages c.args.addr c.args.len c.loop-at.at c.requires.mapped kept.from (omega (arith, kept.end, c.loop-at-test.true)) in
    let none = subst IsSome (sym c.page.ensures.bytes ∙ ap option_copied c.in_default.is) there in
    cc

pub loop-at-preserved : goal.loop-at-preserved
loop-at-preserved c =
    let kept = c.loop-at.invariant in
    let offset = c.loop-at.at % 4096 in
    let count : offset + c.in_page-count.result - offset ≡ c.in_page-count.result = omega arith in
    record {
      end = kept.end;
      from = omega (arith, kept.from);
      to = omega (arith, kept.to, c.in_page-count.ensures);
      copied = copied_on c.args.f.now.pages c.args.addr c.loop-at.at (c.from.result + c.from-2.result) c.in_page-count.result c.loop-at.bytes.items c.in-Some.page.now c.page.ensures.kept.whole
          (sym c.page.ensures.bytes ∙ ap option_copied c.in-Some.is) kept.from c.in_page-count.ensures kept.copied
          ∙ ap (λ (bs : List ℕ). Some bs) (sym (c.in_ok-extend_from_slice.ensures.items ∙ ap (λ n. c.loop-at.bytes.items ++ take n (drop offset c.in-Some.page.now)) count));
    }
