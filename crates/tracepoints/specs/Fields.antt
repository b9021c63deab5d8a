-- What holds of the fields of `Points`.
use Rattle.std.specs.Prelude.{◌≤◌, length, All}
use Rattle.tracer_lang.specs.Limits.{FitsPoint}
use Rattle.tracepoints.specs.Chains.{AreChains}
use Rattle.tracepoints.specs.declared.points.Points.TheInside.{Inside}

pub record AreFields (a : Inside) : Type 0 where
  pub few : length a.points ≤ 64
  pub fits : All FitsPoint a.points
  pub chains : AreChains a.points 0 a.heads a.next
