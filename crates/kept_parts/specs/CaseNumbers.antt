-- The numbers of a switch's cases.
-- Source: LLVM Language Reference, "'switch' Instruction".
use Rattle.std.specs.Prelude.{ℕ, nat_eq, cond, List, Option, Some, None}
use Rattle.ltt_base.specs.declared.refusal.Placed.{Placed}
use Rattle.ir_values.specs.declared.types.Width.{Width}
use Rattle.ir_values.specs.declared.types.Ty.{Ty}
use Rattle.ir_values.specs.declared.constants.Const.{Const, out-Const}
use Rattle.ir_values.specs.declared.constants.Const.TheOpen.{Const-F}
use Rattle.ir_values.specs.declared.constants.Operand.{Operand}
use Rattle.ir_values.specs.declared.units.Unit.{Unit}
use Rattle.ir_numbers.specs.Numbers.{bits}
use Rattle.check_constants.specs.Kept.{kept}

abbrev pub Case : Type 0
Case = Ty × Const × List ℕ

abbrev pub case_kept : List (Placed Unit) → Case → Const
case_kept us case = kept us (Some case.0) case.1

-- the number of a constant of this width
abbrev pub number_of : Width → Const-F Const Operand → Option ℕ
number_of width (Const-F.Int other n) = cond (nat_eq (bits other) (bits width)) (Some n) None
number_of width _ = None

abbrev pub case_number : List (Placed Unit) → Width → Case → Option ℕ
case_number us width case = number_of width (out-Const (case_kept us case))
