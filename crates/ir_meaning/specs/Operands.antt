-- The value of an operand, and values read as what an instruction asks for.
use Rattle.std.specs.Prelude.{ℕ, ◌%◌, ◌^◌, ◌==◌, Bool, if◌then◌else◌, Option, Some, None}
use Rattle.std.specs.Option.{option_map}
use Rattle.ir_values.specs.declared.types.Width.{Width}
use Rattle.ir_values.specs.declared.constants.Operand.{Operand, out-Operand}
use Rattle.ir_values.specs.declared.constants.Const.{Const, out-Const}
use Rattle.ir_values.specs.declared.constants.Const.TheOpen.{Const-F, Operand-F}
use Rattle.ir_numbers.specs.Numbers.{bits}
use Rattle.ir_memories.specs.Model.{Model}
use Rattle.ir_memories.specs.declared.values.Value.{Value}
use Rattle.ir_memories.specs.declared.values.Value.TheVariants.{Int, Ptr}
use Rattle.ir_meaning.specs.declared.states.Frame.{Frame}
use Rattle.ir_meaning.specs.Registers.{get}
use Rattle.ir_meaning.specs.Sequence.{◌>>=◌}

-- a truth value is the number 1 or 0 of one bit
abbrev pub truth_value : {P : Type 0} → Bool → Value P
truth_value holds = Int Width.W1 (if holds then 1 else 0)

module _ {W P : Type 0} (m : Model W P) where
  -- Source: LLVM Language Reference, "Simple Constants" and "Global Variable and Function Addresses". A name is one of the file's
  -- module. Aggregates are no operands.
  abbrev pub constant_value : W → ℕ → Const-F Const Operand → Option (Value P)
  constant_value w file (Const-F.Int width n) = Some (Int width (n % 2 ^ bits width))
  constant_value w file Const-F.Null = Some (Ptr m.null)
  constant_value w file (Const-F.Addr name offset) = Some (Ptr (m.address w file name offset))
  constant_value w file (Const-F.Number name offset) = option_map (Int Width.W64) (m.number w (m.address w file name offset))
  constant_value w file _ = None

  abbrev pub operand_value : W → Frame P → Operand-F Const Operand → Option (Value P)
  operand_value w f (Operand-F.Reg name) = get f.registers name
  operand_value w f (Operand-F.Const constant) = constant_value w f.file (out-Const constant)

  -- what an operand holds; a register that isn't set yet holds nothing
  abbrev pub value_of : W → Frame P → Operand → Option (Value P)
  value_of w f operand = operand_value w f (out-Operand operand)

-- the number of an integer of a width
abbrev pub integer : {P : Type 0} → Width → Value P → Option ℕ
integer width (Int other n) = if bits width == bits other then Some (n % 2 ^ bits width) else None
integer width _ = None

abbrev pub pointer : {P : Type 0} → Value P → Option P
pointer (Ptr p) = Some p
pointer _ = None

module _ {W P : Type 0} (m : Model W P) where
  abbrev pub integer_of : W → Frame P → Width → Operand → Option ℕ
  integer_of w f width operand = value_of m w f operand >>= integer width

  abbrev pub pointer_of : W → Frame P → Operand → Option P
  pointer_of w f operand = value_of m w f operand >>= pointer

  abbrev pub truth_of : W → Frame P → Operand → Option Bool
  truth_of w f operand = integer_of w f Width.W1 operand >>= λ n. Some (n == 1)
