use Rattle.std.proofs.Common.{◌≡◌, true, List, ◌++◌, ◌∷◌, [], lit<, ap, sym, ◌∙◌, arith}
use Rattle.std.proofs.lemmas.Bool.Decides.{nat_tests}
use Rattle.cli_words.specs.declared.parts.Setting.{Setting as GivenSetting}
use Rattle.cli_words.specs.Parts.{Setting, Any, has_value}
use Rattle.cli_words.specs.Views.{parts_view, all_parts}
use Rattle.cli_words.proofs.Reading.{option_read, settings_pushed, same_setting}
use Rattle.cli_words.proofs.parts.read_option.Goals as goal

pub returns-in_ok-push-in-Some : goal.returns-in_ok-push-in-Some
returns-in_ok-push-in-Some c =
    let word = c.args.word.now in
    let old = parts_view c.args.parts.now in
    let setting : GivenSetting = record { name = c.in-Some.name; value = c.in-Some.value } in
    let both = c.in-Some.ensures.byte (lit< tt) (λ w o h. h) in
    let has : has_value word ≡ true = grind (arith, nat_tests, both.2) in
    let pushed = settings_pushed c.args.parts.now.settings.items c.push.new.self.items setting c.in_ok-push-in-Some.ensures.items
    ∙ ap (λ (s : Setting). old.settings ++ s ∷ []) (same_setting word setting both.0 both.1) in
    λ words. option_read old word words c.requires.longer c.requires.option has
    ∙ ap (λ (settings : List Setting). all_parts (record { plain = old.plain; settings = settings }) Any words) (sym pushed)
