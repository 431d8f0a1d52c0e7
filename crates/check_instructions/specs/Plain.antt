-- The flaws of instructions that compute a value, or load or store one.
-- Source: LLVM Language Reference, "Binary Operations", "'icmp' Instruction", "'select' Instruction", "Conversion Operations", "Memory
-- Access and Addressing Operations" and "'extractvalue' Instruction". Differs: the codes are this project's own; pointers are compared for
-- equality alone; of what `extractvalue` may take apart only what a checked load gives is allowed.
use Rattle.std.specs.Prelude.{ℕ, nat_eq, nat_lt, Bool, true, false, not, ◌||◌, List, Option, Some, None, codes}
use Rattle.ltt_base.specs.declared.refusal.Code.TheVariants.{E06, E07}
use Rattle.ltt_base.specs.declared.refusal.Placed.{Placed}
use Rattle.ir_values.specs.declared.types.Width.{Width}
use Rattle.ir_values.specs.declared.types.Ty.{Ty}
use Rattle.ir_values.specs.declared.types.Ty.TheVariants.{Ptr}
use Rattle.ir_values.specs.declared.constants.Const.{Const, out-Const}
use Rattle.ir_values.specs.declared.constants.Const.TheOpen.{Const-F}
use Rattle.ir_values.specs.declared.constants.Operand.{Operand}
use Rattle.ir_values.specs.declared.constants.Operand.TheVariants as operand
use Rattle.ir_values.specs.declared.instructions.Pred.{Pred}
use Rattle.ir_values.specs.declared.instructions.CastOp.{CastOp}
use Rattle.ir_values.specs.declared.units.Unit.{Unit}
use Rattle.ir_numbers.specs.Numbers.{bits}
use Rattle.check_names.specs.declared.flaws.Flaw.{Flaw}
use Rattle.check_names.specs.Flaws.{◌then◌, when, worded_when}
use Rattle.check_types.specs.declared.places.Allowed.{Allowed}
use Rattle.check_types.specs.declared.places.Allowed.TheVariants.{Scalar, Integer, Bit}
use Rattle.check_types.specs.Heads.{head}
use Rattle.check_types.specs.Written.{type_flaw}
use Rattle.check_constants.specs.Judged.{constant_flaw}
use Rattle.check_operands.specs.Made.{pair}
use Rattle.check_operands.specs.Operands.{other_flaw, register_flaw, operand_flaw, value_flaw}
use Rattle.kept_parts.specs.Widths.{width_of}

-- two operands of one type
abbrev pub both_flaw : Bool → List (Placed Unit) → ℕ → Allowed → Ty → Operand → Operand → Option Flaw
both_flaw output us head allowed ty a b =
    value_flaw output us false head allowed ty a then operand_flaw output us false head ty b

-- the types that a comparison takes
abbrev pub compared : Pred → Allowed
compared Pred.Eq = Scalar
compared Pred.Ne = Scalar
compared _ = Integer

abbrev pub select_flaw : Bool → List (Placed Unit) → ℕ → Ty → Operand → Ty → Operand → Ty → Operand → Option Flaw
select_flaw output us head cond_ty test ty a other_ty b =
    value_flaw output us false head Bit cond_ty test
    then (value_flaw output us false head Scalar ty a
    then (value_flaw output us false head Scalar other_ty b then other_flaw us false other_ty ty))

-- a cast to more bits, or to fewer
abbrev pub is_cast : CastOp → Width → Width → Bool
is_cast CastOp.Trunc from to = nat_lt (bits to) (bits from)
is_cast _ from to = nat_lt (bits from) (bits to)

abbrev pub is_miscast : CastOp → Option Width → Option Width → Bool
is_miscast op (Some from) (Some to) = not (is_cast op from to)
is_miscast op _ _ = false

abbrev pub cast_flaw : Bool → List (Placed Unit) → ℕ → CastOp → Ty → Operand → Ty → Option Flaw
cast_flaw output us head_at op from a to =
    value_flaw output us false head_at Integer from a
    then (type_flaw output us false Integer to then when (is_miscast op (width_of (head us from)) (width_of (head us to))) E06)

abbrev pub load_flaw : Bool → List (Placed Unit) → ℕ → Ty → Operand → Option Flaw
load_flaw output us head ty addr = type_flaw output us false Scalar ty then operand_flaw output us false head Ptr addr

abbrev pub store_flaw : Bool → List (Placed Unit) → ℕ → Ty → Operand → Operand → Option Flaw
store_flaw output us head ty value addr =
    value_flaw output us false head Scalar ty value then operand_flaw output us false head Ptr addr

-- a source leaves out the numbers of addresses
abbrev pub source_flaw : Bool → Option Flaw
source_flaw output = worded_when (not output) E07 (codes "ptrtoint")

-- the number of an address
abbrev pub number_flaw : Bool → List (Placed Unit) → ℕ → Operand → Option Flaw
number_flaw output us head value =
    source_flaw output then operand_flaw output us false head Ptr value

-- what is left out: in a source also the number of an address
abbrev pub is_left : Bool → Const-F Const Operand → Bool
is_left output (Const-F.Left text) = true
is_left output (Const-F.Number name offset) = not output
is_left output _ = false

-- a constant that is taken apart: none may stand there, but one that is left out has its own flaw alone
abbrev pub unextracted_flaw : Bool → List (Placed Unit) → Const → Option Flaw
unextracted_flaw output us constant =
    constant_flaw output us false (Some pair) constant then when (not (is_left output (out-Const constant))) E06

abbrev pub extracted_flaw : Bool → List (Placed Unit) → ℕ → Operand → Option Flaw
extracted_flaw output us head (operand.Reg name) = register_flaw output us false head pair name
extracted_flaw output us head (operand.Const constant) = unextracted_flaw output us constant

abbrev pub is_pair_part : Option ℕ → Bool
is_pair_part None = false
is_pair_part (Some part) = nat_eq part 0 || nat_eq part 1

abbrev pub extract_flaw : Bool → List (Placed Unit) → ℕ → Operand → Option ℕ → Option Flaw
extract_flaw output us head value part = extracted_flaw output us head value then when (not (is_pair_part part)) E06
