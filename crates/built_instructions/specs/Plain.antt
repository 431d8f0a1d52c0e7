-- Instructions that compute a value or an address, or load or store one, as a module keeps them. Each is told the number that its result
-- has where no name for it is written.
-- Source: LLVM Language Reference, "Binary Operations", "'icmp' Instruction", "'select' Instruction", "Conversion Operations", "Memory Access
-- and Addressing Operations", "'extractvalue' Instruction" and "'phi' Instruction". Differs: names of types are replaced by what they stand
-- for, and constants are kept in one form each.
use Rattle.std.specs.Prelude.{ℕ, List, [], map, Option}
use Rattle.ltt_base.specs.declared.refusal.Placed.{Placed}
use Rattle.ir_values.specs.declared.types.Width.{Width}
use Rattle.ir_values.specs.declared.types.Ty.{Ty}
use Rattle.ir_values.specs.declared.types.Ty.TheVariants.{Ptr}
use Rattle.ir_values.specs.declared.constants.Operand.{Operand}
use Rattle.ir_values.specs.declared.constants.Operand.TheVariants as operand
use Rattle.ir_values.specs.declared.instructions.BinOp.{BinOp}
use Rattle.ir_values.specs.declared.instructions.Pred.{Pred}
use Rattle.ir_values.specs.declared.instructions.CastOp.{CastOp}
use Rattle.ir_values.specs.declared.instructions.Inst.{Inst}
use Rattle.ir_values.specs.declared.instructions.Inst.TheVariants.{Binary, Compare, Select, Cast, Gep, Load, Store, Extract, Phi, Number}
use Rattle.ir_values.specs.declared.units.Unit as unit
use Rattle.check_bodies.specs.Numbers.{name_or}
use Rattle.check_types.specs.Replaced.{replaced}
use Rattle.check_operands.specs.Operands.{operand_kept}
use Rattle.kept_parts.specs.Arms.{Arm, kept_arms}
use Rattle.built_instructions.specs.Values.{width_at, number_or, byte_of}

abbrev pub binary_kept : List (Placed unit.Unit) → ℕ → Option (List ℕ) → BinOp → Ty → Operand → Operand → Inst
binary_kept us next dst op ty a b =
    Binary (name_or next dst) op (width_at us ty) (operand_kept us ty a) (operand_kept us ty b)

abbrev pub compare_kept : List (Placed unit.Unit) → ℕ → Option (List ℕ) → Pred → Ty → Operand → Operand → Inst
compare_kept us next dst pred ty a b =
    Compare (name_or next dst) pred (replaced us ty) (operand_kept us ty a) (operand_kept us ty b)

-- the two values have one type, so that the first one's is kept
abbrev pub select_kept : List (Placed unit.Unit) → ℕ → Option (List ℕ) → Ty → Operand → Ty → Operand → Ty → Operand → Inst
select_kept us next dst cond_ty test ty a other_ty b =
    Select (name_or next dst) (operand_kept us cond_ty test) (replaced us ty) (operand_kept us ty a) (operand_kept us other_ty b)

abbrev pub cast_kept : List (Placed unit.Unit) → ℕ → Option (List ℕ) → CastOp → Ty → Operand → Ty → Inst
cast_kept us next dst op from a to =
    Cast (name_or next dst) op (width_at us from) (operand_kept us from a) (width_at us to)

-- an index behind its type
abbrev pub index_kept : List (Placed unit.Unit) → Ty × Operand → Width × Operand
index_kept us index = (width_at us index.0, operand_kept us index.0 index.1)

abbrev pub address_kept : List (Placed unit.Unit) → ℕ → Option (List ℕ) → Ty → Operand → List (Ty × Operand) → Inst
address_kept us next dst ty base index =
    Gep (name_or next dst) (replaced us ty) (operand_kept us Ptr base) (map (index_kept us) index)

abbrev pub load_kept : List (Placed unit.Unit) → ℕ → Option (List ℕ) → Ty → Operand → Inst
load_kept us next dst ty addr = Load (name_or next dst) (replaced us ty) (operand_kept us Ptr addr)

abbrev pub store_kept : List (Placed unit.Unit) → Ty → Operand → Operand → Inst
store_kept us ty value addr = Store (replaced us ty) (operand_kept us ty value) (operand_kept us Ptr addr)

-- the register that is taken apart; a constant may not stand there
abbrev pub register_in : Operand → List ℕ
register_in (operand.Reg name) = name
register_in (operand.Const constant) = []

abbrev pub extract_kept : ℕ → Option (List ℕ) → Operand → Option ℕ → Inst
extract_kept next dst value part = Extract (name_or next dst) (register_in value) (byte_of (number_or part))

abbrev pub phi_kept : List (Placed unit.Unit) → ℕ → Option (List ℕ) → Ty → List Arm → Inst
phi_kept us next dst ty arms = Phi (name_or next dst) (replaced us ty) (kept_arms us ty arms)

-- the number of an address
abbrev pub number_kept : List (Placed unit.Unit) → ℕ → Option (List ℕ) → Operand → Inst
number_kept us next dst value = Number (name_or next dst) (operand_kept us Ptr value)
