-- The flaws of an instruction that moves an address.
-- Source: LLVM Language Reference, "'getelementptr' Instruction". Differs: the codes are this project's own.
use Rattle.std.specs.Prelude.{ℕ, Bool, false, List, map, Option, Some}
use Rattle.ltt_base.specs.declared.refusal.Placed.{Placed}
use Rattle.ir_values.specs.declared.types.Ty.{Ty}
use Rattle.ir_values.specs.declared.types.Ty.TheVariants.{Ptr}
use Rattle.ir_values.specs.declared.constants.Operand.{Operand}
use Rattle.ir_values.specs.declared.constants.Operand.TheVariants as operand
use Rattle.ir_values.specs.declared.units.Unit.{Unit}
use Rattle.check_names.specs.declared.flaws.Flaw.{Flaw}
use Rattle.check_names.specs.Flaws.{◌then◌, each}
use Rattle.check_types.specs.declared.places.Allowed.TheVariants.{NonVoid, Integer}
use Rattle.check_types.specs.Written.{type_flaw}
use Rattle.check_constants.specs.declared.indices.Index.{Index}
use Rattle.check_constants.specs.declared.indices.Index.TheVariants.{Variable}
use Rattle.check_constants.specs.Indices.{indices_flaw}
use Rattle.check_constants.specs.Kept.{index_of}
use Rattle.check_operands.specs.Operands.{operand_flaw, value_flaw}

-- an operand as an index
abbrev pub operand_index : List (Placed Unit) → Ty → Operand → Index
operand_index us ty (operand.Reg name) = Variable
operand_index us ty (operand.Const constant) = index_of us (Some ty) constant

abbrev pub indices_of : List (Placed Unit) → List (Ty × Operand) → List Index
indices_of us = map (λ index. operand_index us index.0 index.1)

-- an index behind its type
abbrev pub index_flaw : Bool → List (Placed Unit) → ℕ → Ty × Operand → Option Flaw
index_flaw output us head index = value_flaw output us false head Integer index.0 index.1

abbrev pub address_flaw : Bool → List (Placed Unit) → ℕ → Ty → Operand → List (Ty × Operand) → Option Flaw
address_flaw output us head ty base index =
    type_flaw output us false NonVoid ty
    then (operand_flaw output us false head Ptr base
    then (each (index_flaw output us head) index
    then indices_flaw output us false ty (indices_of us index)))
