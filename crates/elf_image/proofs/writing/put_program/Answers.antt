use Rattle.std.specs.Prelude.{OnOk, ◌^◌}
use Rattle.std.proofs.Common.{◌≡◌, ◌+◌, ◌<◌, List, ◌++◌, ℕ, length, arith, subst, refl}
use Rattle.elf_image.specs.declared.layout.FileLayout.{FileLayout}
use Rattle.elf_image.specs.Written.{padding}
use Rattle.elf_image.proofs.WrittenLengths.{to_bytes, length-to_bytes}
use Rattle.elf_image.proofs.writing.put_program.Goals as goal

pub put_padding-requires : goal.put_padding-requires
put_padding-requires c =
    let to : c.put_segment_bytes.new.out.items ≡ to_bytes c.args.image.now = rw (c.in_ok-put_segment_bytes.ensures, c.in_ok-put_headers.ensures, c.in_ok-put_file_header.ensures, c.requires.start, c.requires.layout, c.as_slice-segments.ensures) refl in
    let size = subst (λ (at : FileLayout). at.sections + 120 < 2 ^ 32) c.requires.layout c.requires.size in
    rw (to, length-to_bytes c.args.image.now) (omega (arith, size))

pub returns : goal.returns
returns c =
    let to : c.put_segment_bytes.new.out.items ≡ to_bytes c.args.image.now = rw (c.in_ok-put_segment_bytes.ensures, c.in_ok-put_headers.ensures, c.in_ok-put_file_header.ensures, c.requires.start, c.requires.layout, c.as_slice-segments.ensures) refl in
    subst (λ (end : ℕ). OnOk c.put_padding.result (c.put_padding.new.out.items ≡ to_bytes c.args.image.now ++ padding end)) (length-to_bytes c.args.image.now)
    (subst (λ (xs : List ℕ). OnOk c.put_padding.result (c.put_padding.new.out.items ≡ xs ++ padding (length xs))) to c.put_padding.ensures)
