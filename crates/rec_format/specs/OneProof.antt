-- The rules of a recorded run have one proof at most, so that a type can keep them.
use Rattle.std.specs.Prelude.{ℕ, List, [], ◌∷◌, Option, Some, None}
use Rattle.std.proofs.Props.{props}
use mathlib.Core.HLevel.{×_prop, Unit-prop}
use Rattle.call_log.specs.declared.entry.End.{End}
use Rattle.call_log.specs.declared.entry.End.TheVariants as ends
use Rattle.rec_format.specs.Rules.{IsAbove, Rise, IsEnd, AreNeeded, IsRecordingValue}
use Rattle.rec_format.specs.declared.recording.ListedPage.{ListedPage}
use Rattle.rec_format.specs.declared.recording.Recording.{Recording}

pub IsAbove-prop : (before : Option ℕ) (n : ℕ) → IsProp (IsAbove before n)
IsAbove-prop None n = Unit-prop
IsAbove-prop (Some before) n = Prim.hlevel props

pub Rise-prop : (before : Option ℕ) (ns : List ℕ) → IsProp (Rise before ns)
Rise-prop before [] = Unit-prop
Rise-prop before (n ∷ ns) = ×_prop (IsAbove-prop before n) (Rise-prop (Some n) ns)

pub IsEnd-prop : (end : End) → IsProp (IsEnd end)
IsEnd-prop (ends.Exited code) = Prim.hlevel props
IsEnd-prop (ends.Trapped trap) = Prim.hlevel props
IsEnd-prop ends.Stopped = Unit-prop

pub AreNeeded-prop : (earlier pages : List ListedPage) → IsProp (AreNeeded earlier pages)
AreNeeded-prop earlier [] = Unit-prop
AreNeeded-prop earlier (page ∷ pages) = ×_prop (Prim.hlevel props) (AreNeeded-prop _ pages)

ruleset value_props = (props, IsAbove-prop, Rise-prop, IsEnd-prop, AreNeeded-prop)

pub IsRecordingValue-prop : (rec : Recording) → IsProp (IsRecordingValue rec)
IsRecordingValue-prop rec = Prim.hlevel value_props
