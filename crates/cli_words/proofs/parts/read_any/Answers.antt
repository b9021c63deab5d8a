use Rattle.std.proofs.Common.{◌≡◌, ℕ, List, true, false, codes, ap, sym, ◌∙◌}
use Rattle.std.proofs.lemmas.Str.Pattern.{starts_text}
use Rattle.std.specs.Str.{bytes_eq}
use Rattle.cli_words.specs.Parts.{Any, begins_with, is_plain}
use Rattle.cli_words.specs.Views.{parts_view, all_parts}
use Rattle.cli_words.proofs.Reading.{plain_read, plain_pushed}
use Rattle.cli_words.proofs.parts.read_any.Goals as goal

pub returns : goal.returns
returns c =
    let word = c.args.word.now in
    let old = parts_view c.args.parts.now in
    let longer : bytes_eq word (codes "--") ≡ false = sym c.eq.ensures ∙ c.if-eq.false in
    let option : begins_with (codes "--") word ≡ false = sym (starts_text c.starts_with.result (codes "--") word c.starts_with.ensures.cases) ∙ c.if-starts_with.false in
    let plain : is_plain word ≡ true = sym c.is_plain.ensures ∙ c.if-not-is_plain.false in
    let pushed = plain_pushed c.args.parts.now.plain.items c.push.new.self.items c.args.word c.in_ok-push.ensures.items in
    λ words. plain_read old word words longer option plain
    ∙ ap (λ (words' : List (List ℕ)). all_parts (record { plain = words'; settings = old.settings }) Any words) (sym pushed)
