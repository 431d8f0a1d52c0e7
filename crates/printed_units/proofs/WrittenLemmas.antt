-- Types, constants and names that stand in many lines are such as can be read again.
use Rattle.std.proofs.Common.{ℕ, suc, true, false, ◌^◌, ◌<◌, ◌≡◌, List, [], ◌∷◌, codes, refl, sym, subst, arith}
use Rattle.std.specs.List.{AllByRecursion, AllZip}
use Rattle.ir_values.specs.declared.types.Width.{Width}
use Rattle.ir_values.specs.declared.types.Ty.{Ty, out-Ty}
use Rattle.ir_values.specs.declared.types.Ty.TheVariants as ty
use Rattle.ir_values.specs.declared.types.Ty.TheVariants.{outs-Int, outs-Ptr, outs-Void}
use Rattle.ir_values.specs.declared.constants.Const.{out-Const}
use Rattle.ir_values.specs.declared.constants.Const.TheVariants as const
use Rattle.ir_values.specs.declared.instructions.Inst.{Inst}
use Rattle.ir_values.specs.declared.modules.Block.{Block}
use Rattle.ir_numbers.specs.Numbers.{bits}
use Rattle.type_grammar.specs.Levels.{levels}
use Rattle.ir_names.specs.Names.{is_decimal, is_digit}
use Rattle.ir_print.specs.Types.{width_text}
use Rattle.ir_print.specs.ModuleText.{has_none}
use Rattle.printed_units.specs.Written.{IsName, TyLayer, IsTyWithin, IsTy, IsConstWithin, IsOperand, IsInst, AreInsts, AreParams}
use Rattle.printed_units.specs.Said.{global_said}
use Rattle.printed_units.specs.Printing.{word, ty_within_atoms, ty_atoms}

-- the types of integers, `ptr` and `void`

pub int_within : (n : ℕ) (width : Width) → IsTyWithin (suc n) (ty.Int width)
int_within n width = subst (TyLayer (IsTyWithin n)) (sym (outs-Int width)) tt

ptr_within : (n : ℕ) → IsTyWithin (suc n) ty.Ptr
ptr_within n = subst (TyLayer (IsTyWithin n)) (sym outs-Ptr) tt

void_within : (n : ℕ) → IsTyWithin (suc n) ty.Void
void_within n = subst (TyLayer (IsTyWithin n)) (sym outs-Void) tt

pub int_is_ty : (width : Width) → IsTy (ty.Int width)
unfolding levels
int_is_ty width = int_within 63 width

pub ptr_is_ty : IsTy ty.Ptr
unfolding levels
ptr_is_ty = ptr_within 63

pub void_is_ty : IsTy ty.Void
unfolding levels
void_is_ty = void_within 63

-- what they are put together of

pub int_within_atoms : (n : ℕ) (width : Width) → ty_within_atoms (suc n) (ty.Int width) ≡ word (width_text width) ∷ []
int_within_atoms n width = rw (outs-Int width) refl

pub int_atoms : (width : Width) → ty_atoms (ty.Int width) ≡ word (width_text width) ∷ []
unfolding levels
int_atoms width = int_within_atoms 63 width

pub ptr_atoms : ty_atoms ty.Ptr ≡ word (codes "ptr") ∷ []
unfolding levels
ptr_atoms = rw outs-Ptr refl

-- an integer, and a global by its name

pub integer_is : (width : Width) (n : ℕ) → n < 2 ^ bits width → IsConstWithin levels (ty.Int width) (const.Int width n)
unfolding levels out-Ty out-Const denote.Hole.Carrier.out
integer_is width n small = (refl, small)

pub global_is : (name : List ℕ) → IsName name → IsOperand ty.Ptr (global_said name)
unfolding levels out-Ty out-Const denote.Hole.Carrier.out
global_is name is = record { name = is; near = grind (arith); levels = grind (arith) }

-- the names of intrinsics

pub trap_named : IsName (codes "llvm.trap")
unfolding is_decimal is_digit
trap_named = record { bytes = refl; small = λ e. absurd cc }

pub coded_trap_named : IsName (codes "llvm.ubsantrap")
unfolding is_decimal is_digit
coded_trap_named = record { bytes = refl; small = λ e. absurd cc }

pub rotate_named : IsName (codes "llvm.fshr.i64")
unfolding is_decimal is_digit
rotate_named = record { bytes = refl; small = λ e. absurd cc }

-- the instructions of blocks, and the parameters of functions without blocks and with them

pub each_is_inst : (insts : List Inst) → AreInsts insts → AllByRecursion IsInst insts
each_is_inst [] are = tt
each_is_inst (i ∷ []) are = (are.0, tt)
each_is_inst (i ∷ next ∷ insts) are = (are.0, each_is_inst (next ∷ insts) are.2)

pub declared_params : (blocks : List Block) (types : List Ty) (names : List (List ℕ)) → has_none blocks ≡ true → AreParams blocks types names →
    AllByRecursion IsTy types
declared_params [] types names none are = are
declared_params (block ∷ blocks) types names none are = absurd cc

abbrev pub AreNamed : List Ty → List (List ℕ) → Type 0
AreNamed types names = AllZip (λ type name. IsTy type × IsName name) types names

pub defined_params : (blocks : List Block) (types : List Ty) (names : List (List ℕ)) → has_none blocks ≡ false → AreParams blocks types names →
    AreNamed types names
defined_params [] types names some are = absurd cc
defined_params (block ∷ blocks) types names some are = are
