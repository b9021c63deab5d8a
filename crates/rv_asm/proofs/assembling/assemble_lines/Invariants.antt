use Rattle.std.proofs.Common.{◌≡◌, ◌+◌, ◌^◌, ◌<◌, ◌≤◌, ◌++◌, length}
use Rattle.std.specs.Str.Lines.{lines}
use Rattle.asm_text.specs.declared.mnemonic.Section.TheVariants.{Text, Data}
use Rattle.rv_asm.specs.Places.{start}
use Rattle.rv_asm.specs.Lines.{first_fault}
use Rattle.rv_asm.specs.Output.{bytes_in}
use Rattle.rv_asm.proofs.assembling.assemble_lines.Given as goal

abbrev pub invariant-loop-rest : goal.invariant-loop-rest
invariant-loop-rest l = record {
  within : length l.rest ≤ length l.source;
  counted : l.number + length l.rest ≤ length l.source + 1;
  text_small : l.place.text_size ≤ 2 ^ 20;
  data_small : l.place.data_size ≤ 2 ^ 24;
  faults : first_fault l.table l.place l.number (lines l.rest) ≡ first_fault l.table start 1 (lines l.source);
  text : l.program.text_bytes.items ++ bytes_in Text l.table l.place (lines l.rest) ≡ bytes_in Text l.table start (lines l.source);
  in_data : l.program.data_bytes.items ++ bytes_in Data l.table l.place (lines l.rest) ≡ bytes_in Data l.table start (lines l.source);
}

abbrev pub decreases-loop-rest : goal.decreases-loop-rest
decreases-loop-rest l = length l.rest
