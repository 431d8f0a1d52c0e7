-- The value that an instruction gives. Each reads its operands first; None is an undefined step.
use Rattle.std.specs.Prelude.{ℕ, zero, suc, nat_lt, ℤ, Bool, true, false, not, List, if◌then◌else◌, Option, Some, None}
use Rattle.std.specs.Int.{w64, rotate_right, cast_unsigned}
use Rattle.ir_values.specs.declared.types.Width.{Width}
use Rattle.ir_values.specs.declared.types.Ty.{Ty, out-Ty}
use Rattle.ir_values.specs.declared.types.Ty.TheOpen.{Ty-F}
use Rattle.ir_values.specs.declared.constants.Operand.{Operand}
use Rattle.ir_values.specs.declared.modules.TypeId.{TypeId}
use Rattle.ir_values.specs.declared.instructions.BinOp.{BinOp}
use Rattle.ir_values.specs.declared.instructions.Pred.{Pred}
use Rattle.ir_values.specs.declared.instructions.CastOp.{CastOp}
use Rattle.ir_numbers.specs.Numbers.{bits}
use Rattle.ir_numbers.specs.Arithmetic.{arith, compared, converted}
use Rattle.ir_memories.specs.Model.{Model}
use Rattle.ir_memories.specs.declared.values.Value.{Value}
use Rattle.ir_memories.specs.declared.values.Value.TheVariants.{Int, Ptr, Pair}
use Rattle.ir_meaning.specs.declared.states.Frame.{Frame}
use Rattle.ir_meaning.specs.Registers.{get}
use Rattle.ir_meaning.specs.Operands.{truth_value, value_of, integer_of, pointer, pointer_of, truth_of}
use Rattle.ir_meaning.specs.Sequence.{◌>>=◌}

-- pointers are only equal or not
abbrev pub equality : Pred → Bool → Option Bool
equality Pred.Eq is_equal = Some is_equal
equality Pred.Ne is_equal = Some (not is_equal)
equality _ is_equal = None

-- an extension widens, and a truncation narrows
abbrev pub is_cast : CastOp → ℕ → ℕ → Bool
is_cast CastOp.Zext k m = nat_lt k m
is_cast CastOp.Sext k m = nat_lt k m
is_cast CastOp.Trunc k m = nat_lt m k

-- a part of what a checked load gives: the pointer, or the truth value
abbrev pub part_of : {P : Type 0} → Value P → ℕ → Option (Value P)
part_of (Pair p holds) zero = Some (Ptr p)
part_of (Pair p holds) (suc zero) = Some (truth_value holds)
part_of _ _ = None

-- Source: LLVM Language Reference, "'extractvalue' Instruction".
abbrev pub extracted_at : {P : Type 0} → Frame P → List ℕ → ℕ → Option (Value P)
extracted_at f pair part = get f.registers pair >>= λ value. part_of value part

-- what a checked load gives by its test, with the pointer that it loads from
abbrev pub loaded_if : {W P : Type 0} → Model W P → W → Bool → P → Option (Value P)
loaded_if m w true p = m.load w Ty.Ptr p >>= pointer >>= λ loaded. Some (Pair loaded true)
loaded_if m w false p = Some (Pair m.null false)

module _ {W P : Type 0} (m : Model W P) (w : W) (f : Frame P) where
  -- Source: LLVM Language Reference, "Binary Operations" and "Bitwise Binary Operations".
  abbrev pub binary_at : BinOp → Width → Operand → Operand → Option (Value P)
  binary_at op width a b = do
    x ← integer_of m w f width a
    y ← integer_of m w f width b
    n ← arith op (bits width) x y
    Some (Int width n)

  -- Source: LLVM Language Reference, "'icmp' Instruction". Differs: pointers have no order.
  abbrev pub comparison : Pred → Operand → Operand → Ty-F Ty → Option Bool
  comparison pred a b (Ty-F.Int width) = do
    x ← integer_of m w f width a
    y ← integer_of m w f width b
    Some (compared pred (bits width) x y)
  comparison pred a b Ty-F.Ptr = do
    p ← pointer_of m w f a
    q ← pointer_of m w f b
    is_equal ← m.equal w p q
    equality pred is_equal
  comparison pred a b _ = None

  abbrev pub compared_at : Pred → Ty → Operand → Operand → Option (Value P)
  compared_at pred ty a b = comparison pred a b (out-Ty ty) >>= λ holds. Some (truth_value holds)

  -- Source: LLVM Language Reference, "'select' Instruction".
  abbrev pub selected_at : Operand → Operand → Operand → Option (Value P)
  selected_at cond a b = do
    holds ← truth_of m w f cond
    x ← value_of m w f a
    y ← value_of m w f b
    Some (if holds then x else y)

  -- Source: LLVM Language Reference, "Conversion Operations".
  abbrev pub converted_at : CastOp → Width → Operand → Width → Option (Value P)
  converted_at op from a to = do
    n ← integer_of m w f from a
    if is_cast op (bits from) (bits to) then Some (Int to (converted op (bits from) (bits to) n)) else None

  -- Source: LLVM Language Reference, "'ptrtoint .. to' Instruction".
  abbrev pub number_at : Operand → Option (Value P)
  number_at ptr = do
    p ← pointer_of m w f ptr
    n ← m.number w p
    Some (Int Width.W64 n)

  -- Source: LLVM Language Reference, "'llvm.fshr.*' Intrinsic", of one number twice, which turns it to the right.
  abbrev pub rotated_at : Operand → ℕ → Option (Value P)
  rotated_at value by = integer_of m w f Width.W64 value >>= λ n. Some (Int Width.W64 (rotate_right w64 n by))

  -- Source: LLVM, "Type Metadata", and LLVM Language Reference, "'llvm.type.test' Intrinsic".
  abbrev pub tested_at : Operand → TypeId → Option (Value P)
  tested_at ptr id = do
    p ← pointer_of m w f ptr
    holds ← m.test w id p
    Some (truth_value holds)

  -- Source: LLVM Language Reference, "'load' Instruction".
  abbrev pub loaded_at : Ty → Operand → Option (Value P)
  loaded_at ty addr = pointer_of m w f addr >>= λ p. m.load w ty p

  -- Source: LLVM Language Reference, "'llvm.type.checked.load' Intrinsic". Differs: where the test fails, the pointer is null.
  abbrev pub checked_at : Operand → ℤ → TypeId → Option (Value P)
  checked_at ptr offset id = do
    p ← pointer_of m w f ptr
    holds ← m.test w id p
    loaded_if m w holds (m.moved p (cast_unsigned w64 offset))
