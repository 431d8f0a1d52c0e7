-- The parts that lead back to themselves, and constants before their type is known.
use Rattle.std.specs.Prelude.{ℕ, List, Option, Some, None}
use Rattle.ir_values.specs.declared.types.Ty.{Ty}
use Rattle.ir_values.specs.declared.types.Ty.TheVariants.{Void, Int, Ptr, Pair, Array, Struct, Named, Left as LeftTy}
use Rattle.ir_values.specs.declared.types.Width.{Width}
use Rattle.ir_values.specs.declared.constants.Const.{Const}
use Rattle.ir_values.specs.declared.constants.Const.TheVariants.{Int as Number, Left, Zero as ZeroAt}
use Rattle.ir_values.specs.declared.units.MetaItem.{MetaItem}
use Rattle.type_grammar.specs.declared.bare.Bare.{Bare}
use Rattle.type_grammar.specs.declared.bare.Bare.TheVariants.{Number as BareNumber, Zero, Plain}
use Rattle.type_grammar.specs.Numbers.{int_of}

-- types, those that values have, constants, the left-out constants with their parentheses, and parts of metadata nodes
pub data Name : Type 0 where
  a_type a_value_type a_constant a_left an_item : Name

abbrev pub Value : Name → Type 0
Value a_type = Ty
Value a_value_type = Ty
Value a_constant = Bare
Value a_left = Bare
Value an_item = MetaItem

abbrev pub number_of : Width → List ℕ → Option ℕ → Const
number_of w bytes (Some n) = Number w n
number_of w bytes None = Left bytes

-- a number at a written type
abbrev pub number_at : Ty → List ℕ → Const
number_at (Int w) bytes = number_of w bytes (int_of w bytes)
number_at _ bytes = Left bytes

-- the constant that stands behind a type
abbrev pub at_type : Ty → Bare → Const
at_type ty (BareNumber bytes) = number_at ty bytes
at_type ty Zero = ZeroAt ty
at_type ty (Plain constant) = constant
