-- For callers: what an operand of each kind holds.
use Rattle.std.proofs.Common.{◌≡◌, ℕ, ◌%◌, ◌^◌, List, Some, ap, ◌∙◌}
use Rattle.std.specs.Option.{option_map}
use Rattle.ir_values.specs.declared.types.Width.{Width}
use Rattle.ir_values.specs.declared.constants.Operand.{Operand}
use Rattle.ir_values.specs.declared.constants.Operand.TheVariants.{outs-Reg, outs-Const}
use Rattle.ir_values.specs.declared.constants.Const.{Const}
use Rattle.ir_values.specs.declared.constants.Const.TheVariants.{outs-Int, outs-Null, outs-Addr, outs-Number}
use Rattle.ir_numbers.specs.Numbers.{bits}
use Rattle.ir_memories.specs.Model.{Model}
use Rattle.ir_memories.specs.declared.values.Value.TheVariants.{Int, Ptr}
use Rattle.ir_meaning.specs.declared.states.Frame.{Frame}
use Rattle.ir_meaning.specs.Registers.{get}
use Rattle.ir_meaning.specs.Operands.{constant_value, operand_value, value_of}

module _ {W P : Type 0} (m : Model W P) (w : W) (f : Frame P) where
  pub value_of-register : (name : List ℕ) → value_of m w f (Operand.Reg name) ≡ get f.registers name
  value_of-register name = ap (operand_value m w f) (outs-Reg name)

  pub value_of-integer : (width : Width) (n : ℕ) → value_of m w f (Operand.Const (Const.Int width n)) ≡ Some (Int width (n % 2 ^ bits width))
  value_of-integer width n = ap (operand_value m w f) (outs-Const (Const.Int width n)) ∙ ap (constant_value m w f.file) (outs-Int width n)

  pub value_of-null : value_of m w f (Operand.Const Const.Null) ≡ Some (Ptr m.null)
  value_of-null = ap (operand_value m w f) (outs-Const Const.Null) ∙ ap (constant_value m w f.file) outs-Null

  pub value_of-address : (name : List ℕ) (offset : ℕ)
      → value_of m w f (Operand.Const (Const.Addr name offset)) ≡ Some (Ptr (m.address w f.file name offset))
  value_of-address name offset =
      ap (operand_value m w f) (outs-Const (Const.Addr name offset)) ∙ ap (constant_value m w f.file) (outs-Addr name offset)

  pub value_of-number : (name : List ℕ) (offset : ℕ) → value_of m w f (Operand.Const (Const.Number name offset))
      ≡ option_map (Int Width.W64) (m.number w (m.address w f.file name offset))
  value_of-number name offset =
      ap (operand_value m w f) (outs-Const (Const.Number name offset)) ∙ ap (constant_value m w f.file) (outs-Number name offset)
