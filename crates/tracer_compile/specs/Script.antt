-- The code of a script: the end of all tracers, the functions and the tracers, one after the other.
use Rattle.std.specs.Prelude.{ℕ, ◌+◌, ◌*◌, List, [], ◌∷◌, ◌++◌, length, map, replicate}
use Rattle.sl_model.specs.declared.bank.TheConstants.{CODE_START}
use Rattle.sl_model.specs.declared.instr.Instr.{Instr}
use Rattle.tracer_code.specs.declared.outcomes.TheConstants.{DONE}
use Rattle.tracer_lang.specs.Tree.{ScriptTree}
use Rattle.tracer_compile.specs.Blocks.{end_without}
use Rattle.tracer_compile.specs.Code.{function_code, tracepoint_code}

-- codes one after the other
unfoldable pub joined : List (List Instr) → List Instr
joined [] = []
joined (first ∷ rest) = first ++ joined rest

-- the place of each of some codes, of which the first begins at a place
unfoldable pub places_from : ℕ → List (List Instr) → List ℕ
places_from place [] = []
places_from place (first ∷ rest) = place ∷ places_from (place + length first) rest

-- the address of the word at a place
abbrev pub address_of : ℕ → ℕ
address_of place = CODE_START + 4 * place

-- where a tracer's body returns to
unfoldable pub end_code : List Instr
end_code = end_without DONE

abbrev pub function_codes : ScriptTree → List ℕ → List (List Instr)
function_codes script addresses = map (function_code script.functions addresses) script.functions

-- the addresses of the functions, which are needed for calls
unfoldable pub addresses_of : ScriptTree → List ℕ
addresses_of script =
    map address_of
    (places_from (length end_code)
    (function_codes script (replicate (length script.functions) 0)))

abbrev pub tracepoint_codes : ScriptTree → List ℕ → List (List Instr)
tracepoint_codes script addresses =
    map (tracepoint_code script.functions addresses script.budget) script.tracepoints

-- the functions with the end before them
unfoldable pub functions_part : ScriptTree → List ℕ → List Instr
functions_part script addresses = end_code ++ joined (function_codes script addresses)

unfoldable pub script_code : ScriptTree → List Instr
script_code script =
    functions_part script (addresses_of script)
    ++ joined (tracepoint_codes script (addresses_of script))

-- the places of the tracers
unfoldable pub places_of : ScriptTree → List ℕ
places_of script =
    places_from (length (functions_part script (addresses_of script)))
    (tracepoint_codes script (addresses_of script))
