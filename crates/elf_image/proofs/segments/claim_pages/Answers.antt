use Rattle.std.specs.Prelude.{IfOk}
use Rattle.std.proofs.Common.{◌≡◌, ◌/◌, true, false, arith, lt-ltb, subst}
use Rattle.elf_image.specs.Flat.{page_count}
use Rattle.elf_image.specs.Ranges.{IsWithRow, IsWithin}
use Rattle.elf_image.proofs.PageLaws.{few_tells}
use Rattle.elf_image.proofs.segments.claim_pages.Goals as goal

pub returns-clause-few : goal.returns-clause-few
returns-clause-few c =
    let segment = c.args.segment.now in
    let old = c.args.pages.now in
    let new = c.add_pages.new.pages in
    let r = c.add_pages.result in
    let told = c.add_pages.ensures in
    let first : c.page_of.result ≡ segment.vaddr / 4096 = grind arith in
    let count : c.page_count-count.result ≡ page_count segment.vaddr segment.memsz = grind arith in
    let row : IfOk r (λ few. few ≡ true → IsWithRow old new (segment.vaddr / 4096) (page_count segment.vaddr segment.memsz)) =
    subst (λ n. IfOk r (λ few. few ≡ true → IsWithRow old new (segment.vaddr / 4096) n)) count
    (subst (λ n. IfOk r (λ few. few ≡ true → IsWithRow old new n c.page_count-count.result)) first told.added) in
    let within : IfOk r (λ few. few ≡ false → IsWithin old new (segment.vaddr / 4096) (page_count segment.vaddr segment.memsz)) =
    subst (λ n. IfOk r (λ few. few ≡ false → IsWithin old new (segment.vaddr / 4096) n)) count
    (subst (λ n. IfOk r (λ few. few ≡ false → IsWithin old new n c.page_count-count.result)) first told.part) in
    few_tells old new segment (lt-ltb 0 segment.memsz c.requires.takes) r row told.few within told.many told.ordered
