-- A module with a variable, a table, a declaration and a function, which is as a printed one:
--
--     @v = private constant [2 x ptr] [ptr @f, ptr getelementptr (i8, ptr @g, i64 -8)], align 8
--     jumptable @t align 8 { @f }
--     declare i64 @g(i64)
--     define i64 @f(ptr %p) {
--     "a b":
--       %r = load i64, ptr %p, align 1
--       %0 = call i64 @g(i64 %r)
--       ret i64 %0
--     }
use Rattle.std.specs.Prelude.{◌-◌, ◌^◌, true, [], ◌∷◌, codes, Some}
use Rattle.ir_values.specs.declared.types.Width.TheVariants.{W64}
use Rattle.ir_values.specs.declared.types.Ty.{Ty}
use Rattle.ir_values.specs.declared.types.Ty.TheVariants as ty
use Rattle.ir_values.specs.declared.constants.Const.TheVariants as const
use Rattle.ir_values.specs.declared.constants.Operand.TheVariants as operand
use Rattle.ir_values.specs.declared.instructions.Callee.{Callee}
use Rattle.ir_values.specs.declared.instructions.Inst.TheVariants as inst
use Rattle.ir_values.specs.declared.modules.Linkage.TheVariants.{Private, Strong, External}
use Rattle.ir_values.specs.declared.modules.Block.{Block}
use Rattle.ir_values.specs.declared.modules.Func.{Func}
use Rattle.ir_values.specs.declared.modules.Var.{Var}
use Rattle.ir_values.specs.declared.modules.Jump.{Jump}
use Rattle.ir_values.specs.declared.modules.Module.{Module}
use Rattle.printed_modules.specs.Printed.{no_place}

abbrev pub long : Ty
long = ty.Int W64

abbrev pub variable : Var
variable = record {
  place = no_place;
  name = codes "v";
  linkage = Private;
  constant = true;
  ty = ty.Array 2 ty.Ptr;
  init = Some (const.Array ty.Ptr (const.Addr (codes "f") 0 ∷ const.Addr (codes "g") (2 ^ 64 - 8) ∷ []));
  align = 8;
  entries = [];
  visibility = 0;
}

abbrev pub table : Jump
table = record { place = no_place; name = codes "t"; funcs = codes "f" ∷ [] }

abbrev pub declared : Func
declared = record {
  place = no_place;
  name = codes "g";
  linkage = External;
  fty = record { result = long; params = long ∷ [] };
  params = codes "0" ∷ [];
  blocks = [];
  entries = [];
}

abbrev pub body : Block
body = record {
  label = codes "a b";
  insts = inst.Load (codes "r") long (operand.Reg (codes "p"))
      ∷ inst.Call (Some (codes "0")) (record { result = long; params = long ∷ [] }) (Callee.Function (codes "g")) (operand.Reg (codes "r") ∷ [])
      ∷ inst.Ret long (Some (operand.Reg (codes "0"))) ∷ [];
}

abbrev pub defined : Func
defined = record {
  place = no_place;
  name = codes "f";
  linkage = Strong;
  fty = record { result = long; params = ty.Ptr ∷ [] };
  params = codes "p" ∷ [];
  blocks = body ∷ [];
  entries = [];
}

abbrev pub example : Module
example = record { vars = variable ∷ []; funcs = declared ∷ defined ∷ []; jumps = table ∷ [] }
