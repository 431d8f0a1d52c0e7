-- The memory of an output: its pointers are numbers of 64 bits.
use Rattle.std.specs.Prelude.{ℕ, ◌+◌, ◌-◌, ◌/◌, ◌%◌, ◌^◌, Bool, true, false, nat_eq, nat_lt, List, [], ◌∷◌, ◌++◌, map, slice_get, slice_set, slice_index, option_map, length, Option, Some, None, if◌then◌else◌}
use Rattle.std.specs.Prelude.{nat_le, not, ◌&&◌}
use Rattle.std.specs.Option.{option_or}
use Rattle.std.specs.Cmp.Lexicographic.{pointwise}
use Rattle.ir_values.specs.declared.types.Width.{Width}
use Rattle.ir_values.specs.declared.types.Width.TheVariants.{W64}
use Rattle.ir_values.specs.declared.types.Ty.{Ty, out-Ty}
use Rattle.ir_values.specs.declared.types.Ty.TheOpen.{Ty-F}
use Rattle.ir_numbers.specs.Layout.{width_bytes}
use Rattle.ir_values.specs.declared.modules.Block.{Block}
use Rattle.ir_values.specs.declared.modules.Var.{Var}
use Rattle.ir_values.specs.declared.modules.Func.{Func}
use Rattle.ir_values.specs.declared.modules.Jump.{Jump}
use Rattle.ir_values.specs.declared.modules.Module.{Module}
use Rattle.type_metadata.specs.Same.{same_flag}
use Rattle.type_metadata.specs.Items.{function_at}
use Rattle.ir_memories.specs.declared.values.Value.{Value}
use Rattle.ir_memories.specs.declared.values.Goal.{Goal}
use Rattle.ir_memories.specs.declared.values.Goal.TheVariants as goals
use Rattle.ir_memories.specs.declared.numeric.Row.{Row}
use Rattle.ir_memories.specs.declared.numeric.Numeric.{Numeric}
use Rattle.ir_memories.specs.declared.values.Value.TheVariants as value
use Rattle.ir_memories.specs.declared.symbolic.SPtr.{SPtr}
use Rattle.ir_memories.specs.declared.symbolic.SPtr.TheVariants.{Null}
use Rattle.ir_memories.specs.declared.cells.Cell.{Cell}
use Rattle.ir_memories.specs.Cells.{number as cells_number, window, low_part, cells_in, is_stored, written}
use Rattle.ir_memories.specs.Images.{Addresses, cells_of}
use Rattle.ir_memories.specs.Model.{Model}

-- What each object of an output is, in printed order.

abbrev pub has_none : List Block → Bool
has_none [] = true
has_none (block ∷ blocks) = false

-- a function without blocks is external
abbrev pub is_external : Func → Bool
is_external f = has_none f.blocks

-- what a call of function `index` leads to; an external one is told by its name
abbrev pub function_goal : ℕ → Func → Goal
function_goal index f = if is_external f then goals.External f.name else goals.Defined (function_at 1 index)

-- what a call of the function of this name leads to
abbrev pub named_goal : List ℕ → ℕ → List Func → Goal
named_goal name index [] = goals.External name
named_goal name index (f ∷ fs) = if pointwise nat_eq f.name name then function_goal index f else named_goal name (index + 1) fs

abbrev pub variable_row : ℕ → Var → Row
variable_row base v = record { name = v.name; base = base; constant = v.constant; leads = [] }

-- entry k of a table leads to its function k
abbrev pub table_row : List Func → ℕ → Jump → Row
table_row funcs base table = record {
  name = table.name;
  base = base;
  constant = true;
  leads = map (λ name. named_goal name 0 funcs) table.funcs;
}

abbrev pub function_row : ℕ → ℕ → Func → Row
function_row index base f = record { name = f.name; base = base; constant = true; leads = function_goal index f ∷ [] }

-- the address of the next row
abbrev pub next_base : List ℕ → List Row → ℕ
next_base at rows = slice_index at (length rows)

abbrev pub with_variables : List ℕ → List Row → List Var → List Row
with_variables at rows [] = rows
with_variables at rows (v ∷ vs) = with_variables at (rows ++ variable_row (next_base at rows) v ∷ []) vs

abbrev pub with_tables : List Func → List ℕ → List Row → List Jump → List Row
with_tables funcs at rows [] = rows
with_tables funcs at rows (table ∷ tables) = with_tables funcs at (rows ++ table_row funcs (next_base at rows) table ∷ []) tables

-- the functions from number `index` on that are external, or those that aren't
abbrev pub with_functions : Bool → List ℕ → ℕ → List Row → List Func → List Row
with_functions external at index rows [] = rows
with_functions external at index rows (f ∷ fs) = if same_flag (is_external f) external
    then with_functions external at (index + 1) (rows ++ function_row index (next_base at rows) f ∷ []) fs
    else with_functions external at (index + 1) rows fs

-- variables, tables, external functions, functions
abbrev pub rows_at : Module → List ℕ → List Row
rows_at m at = with_functions false at 0 (with_functions true at 0 (with_tables m.funcs at (with_variables at [] m.vars) m.jumps) m.funcs) m.funcs

-- What the operations give.

-- the address of the first row of this name
abbrev pub base_of : List ℕ → List Row → ℕ
base_of name [] = 0
base_of name (row ∷ rows) = if pointwise nat_eq row.name name then row.base else base_of name rows

abbrev pub address : Numeric → ℕ → List ℕ → ℕ → ℕ
address w file name offset = (base_of name w.rows + offset) % 2 ^ 64

-- what a call of `a` leads to in a row: entries are eight bytes apart
abbrev pub lead_in : ℕ → Row → Option Goal
lead_in a row = if nat_lt a row.base then None
    else if nat_eq ((a - row.base) % 8) 0 then slice_get row.leads ((a - row.base) / 8) else None

abbrev pub lead_of : ℕ → List Row → Option Goal
lead_of a [] = None
lead_of a (row ∷ rows) = option_or (lead_in a row) (lead_of a rows)

abbrev pub row_base : Option Row → ℕ
row_base None = 0
row_base (Some row) = row.base

abbrev pub base_at : List Row → ℕ → ℕ
base_at rows i = row_base (slice_get rows i)

abbrev pub row_is_constant : Option Row → Bool
row_is_constant None = true
row_is_constant (Some row) = row.constant

-- the number of the variable, from number i on, whose cells an address is among; variables come first among the rows
abbrev pub covering : ℕ → ℕ → List Row → List (List Cell) → Option ℕ
covering a i rows [] = None
covering a i rows (cells ∷ more) =
    if nat_le (base_at rows i) a && nat_lt (a - base_at rows i) (length cells) then Some i else covering a (i + 1) rows more

abbrev pub low_of : Width → Option (List Cell) → Option ℕ
low_of width None = None
low_of width (Some cells) = option_map (low_part width) (cells_number cells)

-- the number that the cells of an integer write
abbrev pub integer_at : Width → List Cell → ℕ → Option ℕ
integer_at width cells at = low_of width (window cells at (width_bytes width))

abbrev pub typed : Ty-F Ty → List Cell → ℕ → Option (Value ℕ)
typed (Ty-F.Int width) cells at = option_map (value.Int width) (integer_at width cells at)
typed Ty-F.Ptr cells at = option_map value.Ptr (integer_at W64 cells at)
typed _ cells at = None

abbrev pub read_in : Ty → ℕ → Option (List Cell) → Option (Value ℕ)
read_in ty offset None = None
read_in ty offset (Some cells) = typed (out-Ty ty) cells offset

abbrev pub load_at : Numeric → Ty → ℕ → Option ℕ → Option (Value ℕ)
load_at w ty a None = None
load_at w ty a (Some i) = read_in ty (a - base_at w.rows i) (slice_get w.cells i)

-- undefined outside the cells of one variable
abbrev pub load : Numeric → Ty → ℕ → Option (Value ℕ)
load w ty a = load_at w ty a (covering a 0 w.rows w.cells)

-- a pointer is an integer of 64 bits in memory
abbrev pub in_memory : Value ℕ → Value SPtr
in_memory (value.Int width n) = value.Int width n
in_memory (value.Ptr a) = value.Int W64 a
in_memory (value.Pair a flag) = value.Pair Null flag

abbrev pub may_store : Bool → Value SPtr → ℕ → List Cell → Bool
may_store constant v offset cells = not constant && is_stored v && nat_le (offset + cells_in v) (length cells)

abbrev pub store_in : Numeric → Value SPtr → ℕ → ℕ → Option (List Cell) → Option Numeric
store_in w v a i None = None
store_in w v a i (Some cells) = if may_store (row_is_constant (slice_get w.rows i)) v (a - base_at w.rows i) cells
    then Some (record w { cells = slice_set w.cells i (written (a - base_at w.rows i) (cells_in v) v 0 cells) }) else None

abbrev pub store_at : Numeric → Value SPtr → ℕ → Option ℕ → Option Numeric
store_at w v a None = None
store_at w v a (Some i) = store_in w v a i (slice_get w.cells i)

-- a store stays in the cells of one variable that is no constant
abbrev pub store : Numeric → Value ℕ → ℕ → Option Numeric
store w v a = store_at w (in_memory v) a (covering a 0 w.rows w.cells)

abbrev pub numeric : Model Numeric ℕ
numeric = record {
  null = 0;
  address = address;
  moved = λ p by. (p + by) % 2 ^ 64;
  load = load;
  store = store;
  equal = λ w a b. Some (nat_eq a b);
  test = λ w id p. None;
  goal = λ w p. lead_of p w.rows;
  number = λ w p. Some p;
}

-- the number of an address in an output
abbrev pub output_address : List Row → Addresses
output_address rows name offset = value.Int W64 ((base_of name rows + offset) % 2 ^ 64)

-- the memory that an output begins with, its objects at these addresses
abbrev pub placed : Module → List ℕ → Numeric
placed m at = record { rows = rows_at m at; cells = map (λ v. cells_of (output_address (rows_at m at)) v.init) m.vars }
