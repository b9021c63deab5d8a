-- Where tracepoints fire, and what the tracers of a script leave there.
use Rattle.std.specs.Prelude.{ℕ, ◌+◌, ◌==◌, ◌&&◌, Bool, false, List, length, map, Option, Some, None, slice_index_or, nat_le, nat_lt}
use Rattle.std.specs.List.{list_any, filter, range_with_len}
use Rattle.sl_model.specs.NextStore.{next_store}
use Rattle.sl_model.specs.State.{State}
use Rattle.tracer_lang.specs.declared.record.Record.{Record}
use Rattle.tracer_lang.specs.declared.tree.Point.{Point}
use Rattle.tracer_lang.specs.declared.tree.Point.TheVariants.{Addr, Enter, Store}
use Rattle.tracer_lang.specs.Tree.{TracepointTree, ScriptTree}
use Rattle.tracer_lang.specs.Meaning.{record_of}

-- the points of a script, in its order
abbrev pub points_of : ScriptTree → List Point
points_of script = map (λ (t : TracepointTree). t.point) script.tracepoints

-- a byte lies among so many from an address on
abbrev pub is_among : ℕ → ℕ → ℕ → Bool
is_among address len byte = nat_le address byte && nat_lt byte (address + len)

-- A store writes one of the bytes from an address on. Its own bytes are counted up from its
-- address, past 2 ^ 32 too.
abbrev pub stores_among : ℕ → ℕ → Option (ℕ × ℕ) → Bool
stores_among address len None = false
stores_among address len (Some at) = list_any (is_among address len) (range_with_len at.0 at.1)

-- A tracepoint fires before the instruction at pc: at its address, or where the instruction is a
-- store into its range, also where that store will trap.
abbrev pub fires_at : ℕ → Option (ℕ × ℕ) → Point → Bool
fires_at pc at (Addr address) = pc == address
fires_at pc at (Enter address) = pc == address
fires_at pc at (Store address len) = stores_among address len at

abbrev pub fires : State → Point → Bool
fires s point = fires_at s.pc (next_store s) point

-- which of some points fire, by their numbers
abbrev pub firing : List Point → State → List ℕ
firing points s =
    filter (λ i. fires s (slice_index_or points i (Addr 0))) (range_with_len 0 (length points))

-- what the tracers of a script leave at a state, in the order of the script
abbrev pub records_at : ScriptTree → State → List Record
records_at script s = map (λ i. record_of script i s) (firing (points_of script) s)
