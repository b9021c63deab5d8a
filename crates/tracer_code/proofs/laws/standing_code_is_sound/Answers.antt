use Rattle.std.proofs.Common.{ℕ, ◌<◌, subst}
use Rattle.tracer_code.proofs.laws.standing_code_is_sound.Goals as goal

pub returns : goal.returns
returns c code script stands point within s observed pages memory =
    let Below : ℕ → Type 0 = λ n. point < n in
    (stands.means point (subst Below stands.places within) s observed pages memory).well
