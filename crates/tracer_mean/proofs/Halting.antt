-- An end is passed on.
use Rattle.std.proofs.Common.{◌≡◌, ℕ, ◌∙◌}
use Rattle.tracer_lang.specs.Meaning.{Now, Outcome, then_do}
use Rattle.tracer_mean.specs.declared.progress.Halt.{Halt}
use Rattle.tracer_mean.specs.declared.progress.Halt.TheVariants.{Returned, Ended, Memory}
use Rattle.tracer_mean.specs.Evaluated.{HaltsAt}

pub passed_on : (o : Outcome) (follow : ℕ → Now → Outcome) (h : Halt) (now : Now)
    → HaltsAt o h now → HaltsAt (then_do o follow) h now
passed_on o follow (Returned value) now is = rw is
passed_on o follow (Ended end) now is = rw is
passed_on o follow Memory now is = tt

-- what is the same halts as well
pub halts_as : (whole o : Outcome) (h : Halt) (now : Now)
    → whole ≡ o → HaltsAt o h now → HaltsAt whole h now
halts_as whole o (Returned value) now same is = same ∙ is
halts_as whole o (Ended end) now same is = same ∙ is
halts_as whole o Memory now same is = tt

pub passed_from : (whole o : Outcome) (follow : ℕ → Now → Outcome) (h : Halt) (now : Now)
    → whole ≡ then_do o follow → HaltsAt o h now → HaltsAt whole h now
passed_from whole o follow h now same is = halts_as whole _ h now same (passed_on o follow h now is)

pub ruleset halt_laws = (passed_from, halts_as)
