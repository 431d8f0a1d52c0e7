-- The text of a module.
use Rattle.std.specs.Prelude.{ℕ, Bool, true, false, if◌then◌else◌, List, [], ◌∷◌, ◌++◌, codes, flat_map, Some, None}
use Rattle.std.specs.List.{list_any}
use Rattle.ir_values.specs.declared.instructions.Inst.{Inst}
use Rattle.ir_values.specs.declared.modules.Block.{Block}
use Rattle.ir_values.specs.declared.modules.Func.{Func}
use Rattle.ir_values.specs.declared.modules.Module.{Module}
use Rattle.ir_print.specs.declared.intrinsics.Intrinsic.{Intrinsic}
use Rattle.ir_print.specs.Items.{var_text, table_text, declare_text, define_text}

-- whether an instruction is printed as a call of an intrinsic that stays in outputs
unfoldable pub is_call : Intrinsic → Inst → Bool
is_call Intrinsic.Rotation (Inst.Rotate dst value by) = true
is_call Intrinsic.Trap (Inst.Trap None) = true
is_call Intrinsic.CodedTrap (Inst.Trap (Some code)) = true
is_call _ _ = false

abbrev pub is_called : Intrinsic → List Func → Bool
is_called intrinsic funcs = list_any (λ f. list_any (λ block. list_any (is_call intrinsic) block.insts) f.blocks) funcs

unfoldable pub intrinsic_text : Intrinsic → List ℕ
intrinsic_text Intrinsic.Rotation = codes "declare i64 @llvm.fshr.i64(i64, i64, i64)\n"
intrinsic_text Intrinsic.Trap = codes "declare void @llvm.trap()\n"
intrinsic_text Intrinsic.CodedTrap = codes "declare void @llvm.ubsantrap(i8)\n"

-- an intrinsic is declared where it is called
abbrev pub called_text : Module → Intrinsic → List ℕ
called_text m intrinsic = if is_called intrinsic m.funcs then intrinsic_text intrinsic else []

abbrev pub has_none : List Block → Bool
has_none [] = true
has_none (block ∷ blocks) = false

-- a function without blocks is declared, and another one is defined
abbrev pub declared_text : Func → List ℕ
declared_text f = if has_none f.blocks then declare_text f else []

abbrev pub defined_text : Func → List ℕ
defined_text f = if has_none f.blocks then [] else define_text f

abbrev pub intrinsics_text : Module → List ℕ
intrinsics_text m = called_text m Intrinsic.Rotation ++ called_text m Intrinsic.Trap ++ called_text m Intrinsic.CodedTrap

-- variables, tables, declarations of intrinsics and of functions, and functions
abbrev pub module_text : Module → List ℕ
module_text m = flat_map var_text m.vars ++ flat_map table_text m.jumps ++ intrinsics_text m
    ++ flat_map declared_text m.funcs ++ flat_map defined_text m.funcs
