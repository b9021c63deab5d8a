-- The calls of a recording are what a replay needs.
use Rattle.std.specs.List.{AllByRecursion}
use Rattle.std.proofs.Common.{List, [], ◌∷◌, ◌++◌}
use Rattle.call_log.specs.declared.entry.CallEntry.{CallEntry}
use Rattle.rec_format.specs.Rules.{IsRecordingValue, IsCallEntry}
use Rattle.rec_format.specs.declared.recording.Recording.{Recording}
use Rattle.replay.specs.Advance.{IsShort, HasCalls}

short : (calls : List CallEntry) → AllByRecursion IsCallEntry calls → AllByRecursion IsShort calls
short [] each = tt
short (c ∷ cs) each = (each.0.bytes, short cs each.1)

pub HasCalls-value : (rec : Recording) → IsRecordingValue rec → HasCalls rec
HasCalls-value rec is = record { number = is.number_of_calls; each = short rec.calls is.each_call }

-- one more
pub short_push : (calls : List CallEntry) (entry : CallEntry) → AllByRecursion IsShort calls → IsShort entry → AllByRecursion IsShort (calls ++ entry ∷ [])
short_push [] entry each is = (is, tt)
short_push (c ∷ cs) entry each is = (each.0, short_push cs entry each.1 is)
