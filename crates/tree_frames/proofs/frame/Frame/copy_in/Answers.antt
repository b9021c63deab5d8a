use Rattle.std.proofs.Common.{◌≡◌, ◌+◌, ◌-◌, length, sym, arith, rules}
use Rattle.std.proofs.lemmas.List.{drop-drop}
use Rattle.sl_model.proofs.PagesLaws.{put_bytes-between}
use Rattle.tree_frames.proofs.frame.Frame.copy_in.Goals as goal

pub returns-clause-bytes : goal.returns-clause-bytes
returns-clause-bytes c =
    let whole : length c.args.self.now.bytes ≡ 4096 = search rules in
    let count : c.args.offset + length c.args.bytes.now - c.args.offset ≡ length c.args.bytes.now = omega arith in
    rw (c.copy_from_slice.ensures.after, count, drop-drop) (sym (put_bytes-between c.args.self.now.bytes c.args.offset c.args.bytes.now (omega arith)))
