use Rattle.std.proofs.Common.{◌≡◌, true, take, drop}
use Rattle.std.specs.List.{list_any}
use Rattle.analysers.specs.Pieces.{reads_records, parts_of, rows_of, in_one}
use Rattle.analysers.proofs.all_rows.each_rows.Given as goal

-- the parts of the kinds that are left are at hand, and so are the pieces where one of them needs
-- them
abbrev pub invariant-loop-i : goal.invariant-loop-i
invariant-loop-i l = record {
  parts : l.parts.items ≡ parts_of (drop l.i l.kinds) (in_one l.fn.pieces.items);
  pieces : list_any reads_records (drop l.i l.kinds) ≡ true
      → l.pieces.items ≡ l.fn.pieces.items;
  rows : l.rows.items ≡ rows_of (take l.i l.kinds) (in_one l.fn.pieces.items);
}
