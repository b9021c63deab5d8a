-- The words that begin lists.
use Rattle.std.specs.Prelude.{ℕ, List, [], ◌∷◌, codes, Option, Some, None, if◌then◌else◌}
use Rattle.std.specs.Str.{bytes_eq}
use Rattle.std.specs.Option.{option_map, option_or}
use Rattle.sl_model.specs.declared.instr.BranchOp.{BranchOp}
use Rattle.sl_model.specs.declared.instr.BranchOp.TheVariants.{Beq, Bne, Bge, Bgeu}
use Rattle.sl_model.specs.declared.instr.LoadOp.{LoadOp}
use Rattle.sl_model.specs.declared.instr.LoadOp.TheVariants.{Lb, Lh, Lw, Lbu, Lhu}
use Rattle.sl_model.specs.declared.instr.StoreOp.{StoreOp}
use Rattle.sl_model.specs.declared.instr.StoreOp.TheVariants.{Sb, Sh, Sw}
use Rattle.sl_model.specs.declared.instr.RegisterOp.{RegisterOp}
use Rattle.sl_model.specs.declared.instr.RegisterOp.TheVariants.{Add, Sub, Sll, Slt, Sltu, Xor, Srl, Sra, Or, And}
use Rattle.sl_model.specs.declared.instr.MulDivOp.{MulDivOp}
use Rattle.sl_model.specs.declared.instr.MulDivOp.TheVariants.{Mul, Div, Divu, Rem, Remu}
use Rattle.tracer_lang.specs.declared.tree.Operator.{Operator}
use Rattle.tracer_lang.specs.declared.tree.Operator.TheVariants as operators
use Rattle.tracer_read.specs.declared.heads.ExpressionHead.{ExpressionHead}
use Rattle.tracer_read.specs.declared.heads.ExpressionHead.TheVariants.{Sym, Reg, Pc, Not, Call, Sys, Load, Operation}
use Rattle.tracer_read.specs.declared.heads.ValueHead.{ValueHead}
use Rattle.tracer_read.specs.declared.heads.ValueHead.TheVariants.{Emit, Return, Stop, Run}
use Rattle.tracer_read.specs.declared.heads.StatementHead.{StatementHead}
use Rattle.tracer_read.specs.declared.heads.StatementHead.TheVariants.{Var, Set, Do, If, While, Store, Value}
use Rattle.tracer_read.specs.declared.heads.ItemHead.{ItemHead}
use Rattle.tracer_read.specs.declared.heads.ItemHead.TheVariants.{Budget, Def, At}
use Rattle.tracer_read.specs.declared.heads.PointHead.{PointHead}
use Rattle.tracer_read.specs.declared.heads.PointHead.TheVariants as points

-- what the first row of this name has
abbrev pub named : {X : Type 0} → List ℕ → List (List ℕ × X) → Option X
named word [] = None
named word (row ∷ rows) = if bytes_eq row.0 word then Some row.1 else named word rows

-- ---- operators

-- operations of two registers
abbrev pub register_names : List (List ℕ × RegisterOp)
register_names =
    (codes "+", Add)
    ∷ (codes "-", Sub)
    ∷ (codes "&", And)
    ∷ (codes "|", Or)
    ∷ (codes "^", Xor)
    ∷ (codes "<<", Sll)
    ∷ (codes ">>", Sra)
    ∷ (codes ">>u", Srl)
    ∷ (codes "<", Slt)
    ∷ (codes "<u", Sltu)
    ∷ []

abbrev pub mul_div_names : List (List ℕ × MulDivOp)
mul_div_names =
    (codes "*", Mul)
    ∷ (codes "/", Div)
    ∷ (codes "%", Rem)
    ∷ (codes "/u", Divu)
    ∷ (codes "%u", Remu)
    ∷ []

-- conditions of two words
abbrev pub branch_names : List (List ℕ × BranchOp)
branch_names = (codes "=", Beq) ∷ (codes "!=", Bne) ∷ []

-- conditions of the second word and the first: a is at most b where b is at least a
abbrev pub exchanged_names : List (List ℕ × BranchOp)
exchanged_names = (codes "<=", Bge) ∷ (codes "<=u", Bgeu) ∷ []

abbrev pub operator_of : List ℕ → Option Operator
operator_of word =
    option_or (option_map operators.Register (named word register_names))
    (option_or (option_map operators.MulDiv (named word mul_div_names))
    (option_or (option_map operators.Branch (named word branch_names))
    (option_map operators.Exchanged (named word exchanged_names))))

-- ---- expressions

-- a narrow load is extended with zeros, or with its sign where an s stands
abbrev pub load_names : List (List ℕ × LoadOp)
load_names =
    (codes "load1", Lbu)
    ∷ (codes "load2", Lhu)
    ∷ (codes "load4", Lw)
    ∷ (codes "load1s", Lb)
    ∷ (codes "load2s", Lh)
    ∷ []

abbrev pub value_names : List (List ℕ × ExpressionHead)
value_names =
    (codes "sym", Sym)
    ∷ (codes "reg", Reg)
    ∷ (codes "pc", Pc)
    ∷ (codes "not", Not)
    ∷ (codes "call", Call)
    ∷ (codes "sys", Sys)
    ∷ []

abbrev pub expression_head : List ℕ → Option ExpressionHead
expression_head word =
    option_or (named word value_names)
    (option_or (option_map Load (named word load_names)) (option_map Operation (operator_of word)))

-- ---- statements

abbrev pub store_names : List (List ℕ × StoreOp)
store_names = (codes "store1", Sb) ∷ (codes "store2", Sh) ∷ (codes "store4", Sw) ∷ []

-- statements of one value
abbrev pub value_statement_names : List (List ℕ × ValueHead)
value_statement_names =
    (codes "emit", Emit) ∷ (codes "return", Return) ∷ (codes "stop", Stop) ∷ (codes "run", Run) ∷ []

abbrev pub step_names : List (List ℕ × StatementHead)
step_names =
    (codes "var", Var)
    ∷ (codes "set", Set)
    ∷ (codes "do", Do)
    ∷ (codes "if", If)
    ∷ (codes "while", While)
    ∷ []

abbrev pub statement_head : List ℕ → Option StatementHead
statement_head word =
    option_or (option_map Value (named word value_statement_names))
    (option_or (option_map Store (named word store_names)) (named word step_names))

-- ---- the top level, and points

abbrev pub item_names : List (List ℕ × ItemHead)
item_names = (codes "budget", Budget) ∷ (codes "def", Def) ∷ (codes "at", At) ∷ []

abbrev pub point_names : List (List ℕ × PointHead)
point_names =
    (codes "addr", points.Addr)
    ∷ (codes "enter", points.Enter)
    ∷ (codes "store", points.Store)
    ∷ []
