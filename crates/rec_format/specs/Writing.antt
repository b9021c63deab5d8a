-- Why a recording is not written.
use Rattle.std.specs.Prelude.{◌≡◌, ◌<◌, ◌≤◌, length}
use Rattle.sl_base.specs.declared.refused.Refused.{Refused}
use Rattle.sl_base.specs.declared.refused.Refused.TheVariants as refused
use Rattle.rec_format.specs.declared.fault.TooLarge.{TooLarge}
use Rattle.rec_format.specs.declared.limits.TheConstants.{MOST_BYTES}
use Rattle.rec_format.specs.declared.recording.Recording.{Recording}
use Rattle.rec_format.specs.Spelling.{spelling}

-- the spelling is too long and this is its length, or it is not too long and memory ran out
abbrev pub IsRefusedFor : Recording → Refused TooLarge → Type 0
IsRefusedFor rec refused.Memory = length (spelling rec) ≤ MOST_BYTES
IsRefusedFor rec (refused.Fault large) =
    (large.length ≡ length (spelling rec)) × (MOST_BYTES < length (spelling rec))
