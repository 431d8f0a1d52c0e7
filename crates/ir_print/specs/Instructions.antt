-- How an instruction is printed.
use Rattle.std.specs.Prelude.{ℕ, List, [], ◌∷◌, ◌++◌, map, codes, decimal, flat_map, Option, Some, None}
use Rattle.std.specs.Fmt.{signed_decimal}
use Rattle.ir_values.specs.declared.types.Width.{Width}
use Rattle.ir_values.specs.declared.types.Ty.{Ty}
use Rattle.ir_values.specs.declared.constants.Operand.{Operand}
use Rattle.ir_values.specs.declared.instructions.BinOp.{BinOp}
use Rattle.ir_values.specs.declared.instructions.Pred.{Pred}
use Rattle.ir_values.specs.declared.instructions.CastOp.{CastOp}
use Rattle.ir_values.specs.declared.instructions.Callee.{Callee}
use Rattle.ir_values.specs.declared.instructions.Inst.{Inst}
use Rattle.ir_values.specs.declared.modules.TypeId.{TypeId}
use Rattle.ir_print.specs.Pieces.{joined, commas, spaces}
use Rattle.ir_names.specs.Names.{quoted, global_text, local_text}
use Rattle.ir_names.specs.Numbers.{integer_text}
use Rattle.ir_print.specs.Types.{ty_text, width_text, pair_text, behind_types}
use Rattle.ir_print.specs.Constants.{operand_text, typed_text}

abbrev pub op_text : BinOp → List ℕ
op_text BinOp.Add = codes "add"
op_text BinOp.Sub = codes "sub"
op_text BinOp.Mul = codes "mul"
op_text BinOp.UDiv = codes "udiv"
op_text BinOp.SDiv = codes "sdiv"
op_text BinOp.URem = codes "urem"
op_text BinOp.SRem = codes "srem"
op_text BinOp.Shl = codes "shl"
op_text BinOp.LShr = codes "lshr"
op_text BinOp.AShr = codes "ashr"
op_text BinOp.And = codes "and"
op_text BinOp.Or = codes "or"
op_text BinOp.Xor = codes "xor"

abbrev pub pred_text : Pred → List ℕ
pred_text Pred.Eq = codes "eq"
pred_text Pred.Ne = codes "ne"
pred_text Pred.Ugt = codes "ugt"
pred_text Pred.Uge = codes "uge"
pred_text Pred.Ult = codes "ult"
pred_text Pred.Ule = codes "ule"
pred_text Pred.Sgt = codes "sgt"
pred_text Pred.Sge = codes "sge"
pred_text Pred.Slt = codes "slt"
pred_text Pred.Sle = codes "sle"

abbrev pub cast_text : CastOp → List ℕ
cast_text CastOp.Zext = codes "zext"
cast_text CastOp.Sext = codes "sext"
cast_text CastOp.Trunc = codes "trunc"

-- the register that a call sets, if it sets one
abbrev pub sets : Option (List ℕ) → List ℕ
sets None = []
sets (Some dst) = local_text dst ++ codes " = "

-- a block that a branch names
abbrev pub to_text : List ℕ → List ℕ
to_text label = codes "label " ++ local_text label

-- a type identifier: a string, or the node of its number
abbrev pub id_text : TypeId → List ℕ
id_text (TypeId.Name name) = codes "!" ++ quoted name
id_text (TypeId.Node file node) = codes "!" ++ decimal node

abbrev pub callee_text : Callee → List ℕ
callee_text (Callee.Function name) = global_text name
callee_text (Callee.Value value) = operand_text Ty.Ptr value

-- each argument behind the type of its parameter
abbrev pub args_text : List Ty → List Operand → List (List ℕ)
args_text = behind_types typed_text

-- an index of an address
abbrev pub index_text : Width × Operand → List ℕ
index_text index = codes ", " ++ typed_text (Ty.Int index.0) index.1

-- a value of a phi, with the block that it comes from
abbrev pub arm_text : Ty → Operand × List ℕ → List ℕ
arm_text ty arm = codes "[" ++ operand_text ty arm.0 ++ codes ", " ++ local_text arm.1 ++ codes "]"

-- a case of a switch
abbrev pub case_text : Width → ℕ × List ℕ → List ℕ
case_text width choice = width_text width ++ codes " " ++ integer_text width choice.0 ++ codes ", " ++ to_text choice.1

abbrev pub ret_pieces : Ty → Option Operand → List (List ℕ)
ret_pieces ty None = codes "ret void" ∷ []
ret_pieces ty (Some value) = codes "ret " ∷ typed_text ty value ∷ []

-- the code of a trap is an i8
abbrev pub trap_pieces : Option ℕ → List (List ℕ)
trap_pieces None = codes "call void @llvm.trap()" ∷ []
trap_pieces (Some code) = codes "call void @llvm.ubsantrap(i8 " ∷ integer_text Width.W8 code ∷ codes ")" ∷ []

-- an instruction, piece by piece
unfoldable pub inst_pieces : Inst → List (List ℕ)
inst_pieces (Inst.Binary dst op width a b) =
    local_text dst ∷ codes " = " ∷ op_text op ∷ codes " " ∷ typed_text (Ty.Int width) a ∷ codes ", " ∷
    operand_text (Ty.Int width) b ∷ []
inst_pieces (Inst.Compare dst pred ty a b) =
    local_text dst ∷ codes " = icmp " ∷ pred_text pred ∷ codes " " ∷ typed_text ty a ∷ codes ", " ∷
    operand_text ty b ∷ []
inst_pieces (Inst.Select dst cond ty a b) =
    local_text dst ∷ codes " = select " ∷ typed_text (Ty.Int Width.W1) cond ∷ codes ", " ∷ typed_text ty a ∷
    codes ", " ∷ typed_text ty b ∷ []
inst_pieces (Inst.Cast dst op from a to) =
    local_text dst ∷ codes " = " ∷ cast_text op ∷ codes " " ∷ typed_text (Ty.Int from) a ∷ codes " to " ∷
    width_text to ∷ []
inst_pieces (Inst.Gep dst ty base indices) =
    local_text dst ∷ codes " = getelementptr " ∷ ty_text ty ∷ codes ", " ∷ typed_text Ty.Ptr base ∷
    flat_map index_text indices ∷ []
inst_pieces (Inst.Load dst ty addr) =
    local_text dst ∷ codes " = load " ∷ ty_text ty ∷ codes ", " ∷ typed_text Ty.Ptr addr ∷ codes ", align 1" ∷
    []
inst_pieces (Inst.Store ty value addr) =
    codes "store " ∷ typed_text ty value ∷ codes ", " ∷ typed_text Ty.Ptr addr ∷ codes ", align 1" ∷ []
inst_pieces (Inst.Call dst fty callee args) =
    sets dst ∷ codes "call " ∷ ty_text fty.result ∷ codes " " ∷ callee_text callee ∷ codes "(" ∷
    commas (args_text fty.params args) ∷ codes ")" ∷ []
inst_pieces (Inst.Extract dst pair part) =
    local_text dst ∷ codes " = extractvalue " ∷ pair_text ∷ codes " " ∷ local_text pair ∷ codes ", " ∷
    decimal part ∷ []
inst_pieces (Inst.Phi dst ty arms) =
    local_text dst ∷ codes " = phi " ∷ ty_text ty ∷ codes " " ∷ commas (map (arm_text ty) arms) ∷ []
inst_pieces (Inst.Br to) = codes "br " ∷ to_text to ∷ []
inst_pieces (Inst.CondBr cond met unmet) =
    codes "br " ∷ typed_text (Ty.Int Width.W1) cond ∷ codes ", " ∷ to_text met ∷ codes ", " ∷ to_text unmet ∷ []
inst_pieces (Inst.Switch width value other cases) =
    codes "switch " ∷ typed_text (Ty.Int width) value ∷ codes ", " ∷ to_text other ∷ codes " [" ∷
    spaces (map (case_text width) cases) ∷ codes "]" ∷ []
inst_pieces (Inst.Ret ty value) = ret_pieces ty value
inst_pieces Inst.Unreachable = codes "unreachable" ∷ []
inst_pieces (Inst.Trap code) = trap_pieces code
inst_pieces (Inst.Test dst ptr id) =
    local_text dst ∷ codes " = call i1 @llvm.type.test(" ∷ typed_text Ty.Ptr ptr ∷ codes ", metadata " ∷
    id_text id ∷ codes ")" ∷ []
inst_pieces (Inst.PublicTest dst ptr id) =
    local_text dst ∷ codes " = call i1 @llvm.public.type.test(" ∷ typed_text Ty.Ptr ptr ∷ codes ", metadata " ∷
    id_text id ∷ codes ")" ∷ []
inst_pieces (Inst.Assume cond) =
    codes "call void @llvm.assume(" ∷ typed_text (Ty.Int Width.W1) cond ∷ codes ")" ∷ []
inst_pieces (Inst.CheckedLoad dst ptr offset id) =
    local_text dst ∷ codes " = call " ∷ pair_text ∷ codes " @llvm.type.checked.load(" ∷ typed_text Ty.Ptr ptr ∷
    codes ", i32 " ∷ signed_decimal offset ∷ codes ", metadata " ∷ id_text id ∷ codes ")" ∷ []
inst_pieces (Inst.Number dst ptr) =
    local_text dst ∷ codes " = ptrtoint " ∷ typed_text Ty.Ptr ptr ∷ codes " to i64" ∷ []
inst_pieces (Inst.Rotate dst value by) =
    local_text dst ∷ codes " = call i64 @llvm.fshr.i64(" ∷ typed_text (Ty.Int Width.W64) value ∷ codes ", " ∷
    typed_text (Ty.Int Width.W64) value ∷ codes ", i64 " ∷ decimal by ∷ codes ")" ∷ []

abbrev pub inst_text : Inst → List ℕ
inst_text inst = joined (inst_pieces inst)
