use Rattle.std.proofs.Common.{◌∙◌, ap}
use Rattle.replay.proofs.LoadedSteps.{strings_mapped, words_mapped}
use Rattle.replay.proofs.loading.fill_stack.Goals as goal

pub copy_in-requires : goal.copy_in-requires
copy_in-requires c =
    let bytes = c.as_slice.ensures.value ∙ c.in_ok-strings.ensures in
    rw (c.requires.filled, c.strings_start.ensures, bytes) (strings_mapped c.args.image.now c.args.args.now c.requires.args)

pub copy_in-requires-2 : goal.copy_in-requires-2
copy_in-requires-2 c =
    let bytes = c.as_slice.ensures.value ∙ c.in_ok-strings.ensures in
    let words = c.as_slice-2.ensures.value ∙ c.in_ok-words.ensures in
    rw (ap (λ m. m.pages) c.copy_in.ensures, c.requires.filled, c.strings_start.ensures, bytes, c.stack_pointer.ensures, words)
    (words_mapped c.args.image.now c.args.args.now c.requires.args)
