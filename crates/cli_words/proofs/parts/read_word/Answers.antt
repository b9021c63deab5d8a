use Rattle.std.proofs.Common.{◌≡◌, List, ◌∷◌, false, codes, ap, sym, ◌∙◌}
use Rattle.std.proofs.lemmas.Str.Pattern.{starts_text}
use Rattle.cli_words.specs.declared.parts.Setting.{Setting as GivenSetting}
use Rattle.cli_words.specs.Parts.{Setting, Any, begins_with}
use Rattle.cli_words.specs.Views.{parts_view, next_view, all_parts}
use Rattle.cli_words.proofs.Reading.{value_read, settings_pushed}
use Rattle.cli_words.proofs.parts.read_word.Goals as goal

pub returns-in_ok-push-in-ValueOf : goal.returns-in_ok-push-in-ValueOf
returns-in_ok-push-in-ValueOf c =
    let word = c.args.word.now in
    let old = parts_view c.args.parts.now in
    let setting : GivenSetting = record { name = c.in-ValueOf.name; value = c.args.word } in
    let dash : begins_with (codes "-") word ≡ false = sym (starts_text c.starts_with.result (codes "-") word c.starts_with.ensures.cases) ∙ c.if-starts_with.false in
    let pushed = settings_pushed c.args.parts.now.settings.items c.push.new.self.items setting c.in_ok-push-in-ValueOf.ensures.items in
    λ words. ap (λ next. all_parts old (next_view next) (word ∷ words)) c.in-ValueOf.is ∙ value_read old c.in-ValueOf.name.now word words dash
    ∙ ap (λ (settings : List Setting). all_parts (record { plain = old.plain; settings = settings }) Any words) (sym pushed)
