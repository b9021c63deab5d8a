use Rattle.std.proofs.Common.{◌≡◌, ◌<◌, ◌≤◌, ◌^◌, ◌∙◌, List, ℕ, length, sym, ap, subst, arith}
use Rattle.std.specs.Prelude.{◌==◌, Err, Ok}
use Rattle.sl_base.specs.declared.refused.Refused.{Refused}
use Rattle.sl_base.specs.Refusals.{Fails}
use Rattle.asm_text.specs.declared.fault.AsmFault.{AsmFault}
use Rattle.rv_asm.specs.Assembly.{assembly}
use Rattle.rv_asm.proofs.AssemblyLaws.{no_text, assembled, text_fits, data_fits}
use Rattle.rv_asm.proofs.WritableLaws.{made, made_writable, made_small}
use Rattle.elf_image.specs.Written.{IsWritable, written}
use Rattle.rv_asm.proofs.assembling.assemble.Goals as goal

pub image_from-requires-clause-text_fits : goal.image_from-requires-clause-text_fits
image_from-requires-clause-text_fits c = text_fits c.in_ok-table.table _ _ c.in_ok-program.ensures.fault c.in_ok-program.ensures.text_fits

pub image_from-requires-clause-data_fits : goal.image_from-requires-clause-data_fits
image_from-requires-clause-data_fits c = data_fits c.in_ok-table.table _ _ c.in_ok-program.ensures.fault c.in_ok-program.ensures.data_fits

pub returns-then-is_empty : goal.returns-then-is_empty
returns-then-is_empty c =
    let Due : Refused AsmFault → Type 0 = λ r. Fails r (assembly c.args.source.now) in
    record {
      image = subst Due (sym c.refusal-then-is_empty.ensures) (no_text c.args.source.now c.in_ok-table.table c.in_ok-program.program.text_bytes.items
          (omega arith) c.in_ok-table.ensures.table c.in_ok-program.ensures.fault c.in_ok-program.ensures.text_fits
          (ap (λ (t : List ℕ). length t == 0) (sym c.as_slice.ensures.value) ∙ sym c.is_empty.ensures ∙ c.if-is_empty.true));
      writable = tt;
      small = tt;
    }

pub returns : goal.returns
returns c = record {
  image = assembled c.args.source.now c.in_ok-table.table c.in_ok-program.program.text_bytes.items c.in_ok-program.program.data_bytes.items
      (omega arith) c.in_ok-table.ensures.table c.in_ok-program.ensures.fault c.in_ok-program.ensures.text_fits c.in_ok-program.ensures.data_fits
      (ap (λ (t : List ℕ). length t == 0) (sym c.as_slice.ensures.value) ∙ sym c.is_empty.ensures ∙ c.if-is_empty.false)
      ∙ ap Ok (sym c.in_ok-image_from.ensures.value);
  writable = subst IsWritable (sym c.in_ok-image_from.ensures.value) (made_writable c.in_ok-table.table c.in_ok-program.program.text_bytes.items c.in_ok-program.program.data_bytes.items
      (made c.args.source.now c.in_ok-table.table c.in_ok-program.program.text_bytes.items c.in_ok-program.program.data_bytes.items
      (omega arith) c.in_ok-table.ensures.table c.in_ok-program.ensures.fault c.in_ok-program.ensures.text_fits c.in_ok-program.ensures.data_fits
      (ap (λ (t : List ℕ). length t == 0) (sym c.as_slice.ensures.value) ∙ sym c.is_empty.ensures ∙ c.if-is_empty.false)
      c.in_ok-image_from.ensures.text_bytes c.in_ok-image_from.ensures.data_bytes));
  small = subst (λ image. length (written image) ≤ 2 ^ 26) (sym c.in_ok-image_from.ensures.value) (made_small c.in_ok-table.table c.in_ok-program.program.text_bytes.items c.in_ok-program.program.data_bytes.items
      (made c.args.source.now c.in_ok-table.table c.in_ok-program.program.text_bytes.items c.in_ok-program.program.data_bytes.items
      (omega arith) c.in_ok-table.ensures.table c.in_ok-program.ensures.fault c.in_ok-program.ensures.text_fits c.in_ok-program.ensures.data_fits
      (ap (λ (t : List ℕ). length t == 0) (sym c.as_slice.ensures.value) ∙ sym c.is_empty.ensures ∙ c.if-is_empty.false)
      c.in_ok-image_from.ensures.text_bytes c.in_ok-image_from.ensures.data_bytes));
}
