use Rattle.std.proofs.Common.{◌≡◌, ◌%◌, ◌/◌, arith, rules, refl, Some, length, ap, sym, ◌∙◌}
use Rattle.std.specs.FinMap.{get}
use Rattle.std.specs.Option.{option_map}
use Rattle.std.proofs.lemmas.Option.{slice_get-get_or}
use Rattle.sl_model.specs.Pages.{byte_at}
use Rattle.tree_frames.proofs.Views.{get-pages_of}
use Rattle.tree_frames.proofs.frames.TreeFrames.byte.Goals as goal

pub returns : goal.returns
unfolding byte_at
returns c =
    let whole : length c.in_ok-frame.frame.now.bytes ≡ 4096 = search rules in
    let found : get c.args.self.now.pages (c.args.addr / 4096) ≡ Some c.in_ok-frame.frame.now.bytes =
    ap (λ m. get m.pages (c.args.addr / 4096)) (sym c.self.view_is) ∙ get-pages_of c.self.inside.frames (c.args.addr / 4096) ∙ ap (option_map (λ f. f.bytes)) (sym c.in_ok-frame.ensures.value) in
    rw (found, slice_get-get_or c.in_ok-frame.frame.now.bytes (c.args.addr % 4096) 0 (omega (arith, whole))) refl
