-- What the operations on integers of k bits give. Every operand and every answer is a number from 0 to 2^k - 1.
use Rattle.std.specs.Prelude.{ℕ, ◌+◌, ◌-◌, ◌*◌, ◌/◌, ◌%◌, ◌^◌, ◌<◌, ◌==◌, nat_lt, nat_le, Bool, not, ◌&&◌, if◌then◌else◌, int_div, int_rem, int_lt, int_le, Option, Some, None, bit_and, bit_or, bit_xor}
use Rattle.std.specs.Int.{int_shr}
use Rattle.ir_values.specs.declared.instructions.BinOp.{BinOp}
use Rattle.ir_values.specs.declared.instructions.Pred.{Pred}
use Rattle.ir_values.specs.declared.instructions.CastOp.{CastOp}
use Rattle.ir_numbers.specs.Numbers.{signed, wrapped, fits}

-- an answer that there is only under a condition
abbrev pub some_if : Bool → ℕ → Option ℕ
some_if condition n = if condition then Some n else None

-- the signed numbers can be divided: the divisor isn't 0, and the quotient is a signed number of k bits
abbrev pub can_divide : ℕ → ℕ → ℕ → Bool
can_divide k a b = not (b == 0) && fits k (int_div (signed k a) (signed k b))

-- Source: LLVM Language Reference, "Binary Operations" and "Bitwise Binary Operations". Where those speak of undefined
-- behavior or of a poison value, there is no answer. The words `nuw`, `nsw`, `exact` and `disjoint` aren't looked at.
abbrev pub arith : BinOp → ℕ → ℕ → ℕ → Option ℕ
arith BinOp.Add k a b = Some ((a + b) % 2 ^ k)
arith BinOp.Sub k a b = Some ((a + (2 ^ k - b)) % 2 ^ k)
arith BinOp.Mul k a b = Some (a * b % 2 ^ k)
arith BinOp.UDiv k a b = some_if (not (b == 0)) (a / b)
arith BinOp.SDiv k a b = some_if (can_divide k a b) (wrapped k (int_div (signed k a) (signed k b)))
arith BinOp.URem k a b = some_if (not (b == 0)) (a % b)
arith BinOp.SRem k a b = some_if (can_divide k a b) (wrapped k (int_rem (signed k a) (signed k b)))
arith BinOp.Shl k a b = some_if (nat_lt b k) (a * 2 ^ b % 2 ^ k)
arith BinOp.LShr k a b = some_if (nat_lt b k) (a / 2 ^ b)
arith BinOp.AShr k a b = some_if (nat_lt b k) (wrapped k (int_shr (signed k a) b))
arith BinOp.And k a b = Some (bit_and a b)
arith BinOp.Or k a b = Some (bit_or a b)
arith BinOp.Xor k a b = Some (bit_xor a b)

-- Source: LLVM Language Reference, "'icmp' Instruction".
abbrev pub compared : Pred → ℕ → ℕ → ℕ → Bool
compared Pred.Eq k a b = a == b
compared Pred.Ne k a b = not (a == b)
compared Pred.Ugt k a b = nat_lt b a
compared Pred.Uge k a b = nat_le b a
compared Pred.Ult k a b = nat_lt a b
compared Pred.Ule k a b = nat_le a b
compared Pred.Sgt k a b = int_lt (signed k b) (signed k a)
compared Pred.Sge k a b = int_le (signed k b) (signed k a)
compared Pred.Slt k a b = int_lt (signed k a) (signed k b)
compared Pred.Sle k a b = int_le (signed k a) (signed k b)

-- an integer of k bits as one of m
-- Source: LLVM Language Reference, "'zext .. to' Instruction", "'sext .. to' Instruction" and "'trunc .. to' Instruction".
abbrev pub converted : CastOp → ℕ → ℕ → ℕ → ℕ
converted CastOp.Zext k m a = a
converted CastOp.Sext k m a = wrapped m (signed k a)
converted CastOp.Trunc k m a = a % 2 ^ m

-- an extension widens and a truncation narrows
abbrev pub Casts : CastOp → ℕ → ℕ → Type 0
Casts CastOp.Zext k m = k < m
Casts CastOp.Sext k m = k < m
Casts CastOp.Trunc k m = m < k
