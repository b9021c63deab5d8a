-- The parts of a line: labels, a statement and a comment.
use Rattle.std.specs.Prelude.{ℕ, zero, suc, ◌+◌, ◌==◌, ◌&&◌, nat_lt, Bool, List, [], ◌∷◌, length, take, drop, slice_index, if◌then◌else◌}
use Rattle.std.specs.List.{before_first}
use Rattle.asm_text.specs.Bytes.{name_len, without_front_blanks}

-- what stands before the comment, which `#` starts
abbrev pub without_comment : List ℕ → List ℕ
without_comment line = before_first (λ b. b == 35) line

-- the same less the blanks at its front
abbrev pub code_of : List ℕ → List ℕ
code_of line = without_front_blanks (without_comment line)

-- a name and `:` stand at the front
abbrev pub has_label : List ℕ → Bool
has_label code = nat_lt 0 (name_len code) && slice_index code (name_len code) == 58

-- the name, and what stands behind the `:` and blanks
abbrev pub front_name : List ℕ → List ℕ
front_name code = take (name_len code) code

abbrev pub behind_label : List ℕ → List ℕ
behind_label code = without_front_blanks (drop (name_len code + 1) code)

-- the names of the labels at the front, and what stands behind them, of at most so many labels
unfoldable pub labels_within : ℕ → List ℕ → List (List ℕ)
labels_within zero code = []
labels_within (suc more) code =
    if has_label code then front_name code ∷ labels_within more (behind_label code) else []

unfoldable pub statement_within : ℕ → List ℕ → List ℕ
statement_within zero code = code
statement_within (suc more) code =
    if has_label code then statement_within more (behind_label code) else code

-- the names of a line's labels, of which there are fewer than bytes
abbrev pub labels_of : List ℕ → List (List ℕ)
labels_of line = labels_within (length line) (code_of line)

-- the directive or the instruction of a line, which may be empty
abbrev pub statement_text : List ℕ → List ℕ
statement_text line = statement_within (length line) (code_of line)

-- what stands behind the name at the front of a statement
abbrev pub operand_text : List ℕ → List ℕ
operand_text statement = drop (name_len statement) statement
