-- An instruction is printed as what it is put together of.
use Rattle.std.proofs.Common.{◌≡◌, ℕ, true, List, [], ◌∷◌, ◌++◌, map, codes, decimal, Option, Some, None, inl, refl, sym, append_assoc, append-nil}
use Rattle.std.specs.Char.{is_ascii_digit}
use Rattle.std.specs.List.{list_all, flat_map, AllByRecursion, AllZip}
use Rattle.ir_lex.specs.declared.token.Kind.{Kind}
use Rattle.ir_lex.specs.declared.token.Kind.TheVariants.{Global, Number}
use Rattle.ir_lex.specs.Letters.{is_name_start, is_name_byte}
use Rattle.ir_values.specs.declared.types.Width.{Width}
use Rattle.ir_values.specs.declared.types.Width.TheVariants.{W1, W8, W64}
use Rattle.ir_values.specs.declared.types.Ty.{Ty}
use Rattle.ir_values.specs.declared.types.Ty.TheVariants as ty
use Rattle.ir_values.specs.declared.constants.Operand.{Operand}
use Rattle.ir_values.specs.declared.instructions.BinOp.{BinOp}
use Rattle.ir_values.specs.declared.instructions.Pred.{Pred}
use Rattle.ir_values.specs.declared.instructions.CastOp.{CastOp}
use Rattle.ir_values.specs.declared.instructions.Callee.{Callee}
use Rattle.ir_values.specs.declared.instructions.Inst.{Inst}
use Rattle.ir_values.specs.declared.instructions.Inst.TheVariants as inst
use Rattle.type_grammar.specs.Levels.{levels}
use Rattle.ir_print.specs.Pieces.{joined, spaces}
use Rattle.ir_names.specs.Names.{local_text}
use Rattle.ir_print.specs.Types.{pair_text}
use Rattle.ir_print.specs.Constants.{operand_text, typed_text}
use Rattle.ir_print.specs.Instructions.{op_text, pred_text, cast_text, to_text, sets, callee_text, args_text, index_text, arm_text, case_text, ret_pieces, trap_pieces, inst_pieces, inst_text}
use Rattle.printed_tokens.specs.Atoms.{Atom, a_token, IsToken}
use Rattle.printed_units.proofs.ListLemmas.{all_zipped}
use Rattle.printed_units.proofs.WrittenLemmas.{int_is_ty, ptr_is_ty}
use Rattle.printed_tokens.proofs.AtomLemmas.{separates, Prints, prints_as, prints_none, prints_append, prints_token, prints_space, prints_one, is_word, prints_word, prints_mark}
use Rattle.printed_units.specs.Written.{IsName, IsMaybeName, IsOperand, IsArgument, IsIndex, IsArm, IsCase, IsCallee, IsReturned, IsInst}
use Rattle.printed_units.specs.Printing.{word, set_atoms, maybe_set_atoms, target_atoms, args_atoms, callee_atoms, index_atoms, arm_atoms, case_atoms, aligned_atoms, pair_atoms, call_atoms, returned_atoms, trap_atoms, rotate_atoms, inst_atoms}
use Rattle.printed_units.proofs.NameLemmas.{local_token, global_token, number_token, integer_token}
use Rattle.printed_units.proofs.TypeText.{prints_behind_comma, listed_prints, spaced_prints, width_token, ty_prints, operand_prints, typed_prints}

-- words that are written out
op_is_word : (op : BinOp) → is_word (op_text op) ≡ true
op_is_word BinOp.Add = refl
op_is_word BinOp.Sub = refl
op_is_word BinOp.Mul = refl
op_is_word BinOp.UDiv = refl
op_is_word BinOp.SDiv = refl
op_is_word BinOp.URem = refl
op_is_word BinOp.SRem = refl
op_is_word BinOp.Shl = refl
op_is_word BinOp.LShr = refl
op_is_word BinOp.AShr = refl
op_is_word BinOp.And = refl
op_is_word BinOp.Or = refl
op_is_word BinOp.Xor = refl

pred_is_word : (pred : Pred) → is_word (pred_text pred) ≡ true
pred_is_word Pred.Eq = refl
pred_is_word Pred.Ne = refl
pred_is_word Pred.Ugt = refl
pred_is_word Pred.Uge = refl
pred_is_word Pred.Ult = refl
pred_is_word Pred.Ule = refl
pred_is_word Pred.Sgt = refl
pred_is_word Pred.Sge = refl
pred_is_word Pred.Slt = refl
pred_is_word Pred.Sle = refl

cast_is_word : (op : CastOp) → is_word (cast_text op) ≡ true
cast_is_word CastOp.Zext = refl
cast_is_word CastOp.Sext = refl
cast_is_word CastOp.Trunc = refl

-- pieces of lines
pub bare_token : (first : ℕ) (bytes : List ℕ) → is_name_start first ≡ true → list_all is_name_byte bytes ≡ true
    → IsToken Global (codes "@" ++ first ∷ bytes)
bare_token first bytes starts all = record {
  printed = refl;
  is = record {
    front = codes "@";
    back = first ∷ bytes;
    first = refl;
    second = inl (record { front = first ∷ []; back = bytes; first = starts; second = all; joined = refl });
    joined = refl;
  };
  plain = refl;
}

pub prints_last : {kind : Kind} {bytes : List ℕ} → IsToken kind bytes → Prints (a_token kind bytes ∷ []) bytes
prints_last {bytes = bytes} is = prints_as (append-nil bytes) (prints_one is)

pub digit_token : (digit : ℕ) → is_ascii_digit digit ≡ true → IsToken Number (digit ∷ [])
digit_token digit is = record {
  printed = refl;
  is = record {
    front = [];
    back = digit ∷ [];
    first = inl refl;
    second = record { front = digit ∷ []; back = []; first = is; second = refl; joined = refl };
    joined = refl;
  };
  plain = refl;
}

set_prints : {atoms : List Atom} {text : List ℕ} (dst : List ℕ) → IsName dst → Prints atoms text
    → Prints (set_atoms dst atoms) (local_text dst ++ (codes " = " ++ text))
set_prints dst is prints = prints_token (local_token dst is) refl (prints_space (prints_mark 61 refl (prints_space prints)))

maybe_set_prints : {atoms : List Atom} {text : List ℕ} (dst : Option (List ℕ)) → IsMaybeName dst → Prints atoms text
    → Prints (maybe_set_atoms dst atoms) (sets dst ++ text)
maybe_set_prints None is prints = prints
maybe_set_prints {text = text} (Some dst) is prints =
    prints_as (sym (append_assoc (local_text dst) (codes " = ") text)) (set_prints dst is prints)

target_prints : (label : List ℕ) → IsName label → Prints (target_atoms label) (to_text label)
target_prints label is = prints_word (codes "label") refl refl (prints_space (prints_last (local_token label is)))

aligned_prints : Prints aligned_atoms (codes ", align 1")
aligned_prints = prints_behind_comma (prints_word (codes "align") refl refl (prints_space (prints_last (digit_token 49 refl))))

pair_prints : Prints pair_atoms pair_text
unfolding pair_text
pair_prints =
    prints_mark 123 refl (prints_space (prints_word (codes "ptr") refl refl (prints_behind_comma (prints_word (codes "i1") refl refl
    (prints_space (prints_mark 125 refl prints_none))))))

callee_prints : (callee : Callee) → IsCallee callee → Prints (callee_atoms callee) (callee_text callee)
callee_prints (Callee.Function name) is = prints_last (global_token name is)
callee_prints (Callee.Value value) is = operand_prints ty.Ptr value is

arm_same : (a b : List ℕ) → codes "[" ++ (a ++ (codes ", " ++ (b ++ codes "]"))) ≡ codes "[" ++ a ++ codes ", " ++ b ++ codes "]"
arm_same a b = simp append_assoc

arm_prints : (type : Ty) (arm : Operand × List ℕ) → IsArm type arm → Prints (arm_atoms type arm) (arm_text type arm)
arm_prints type arm is =
    prints_as (arm_same (operand_text type arm.0) (local_text arm.1))
    (prints_mark 91 refl (prints_append (operand_prints type arm.0 is.0)
    (prints_behind_comma (prints_token (local_token arm.1 is.1) refl (prints_mark 93 refl prints_none))) refl))

case_prints : (width : Width) (choice : ℕ × List ℕ) → IsCase width choice → Prints (case_atoms width choice) (case_text width choice)
case_prints width choice is =
    prints_as (simp append_assoc)
    (prints_token (width_token width) refl (prints_space (prints_token (integer_token width choice.0) refl
    (prints_behind_comma (target_prints choice.1 is.1)))))

-- lists of pieces
index_prints : (index : Width × Operand) → IsIndex index → Prints (index_atoms index) (index_text index)
index_prints index is = prints_behind_comma (typed_prints (ty.Int index.0) index.1 (int_is_ty index.0) is)

indices_separate : (indices : List (Width × Operand)) → separates (flat_map index_atoms indices) ≡ true
indices_separate [] = refl
indices_separate (index ∷ indices) = refl

indices_print : (indices : List (Width × Operand)) → AllByRecursion IsIndex indices
    → Prints (flat_map index_atoms indices) (flat_map index_text indices)
indices_print [] all = prints_none
indices_print (index ∷ indices) all = prints_append (index_prints index all.0) (indices_print indices all.1) (indices_separate indices)

args_print : (types : List Ty) (values : List Operand) → AllZip IsArgument types values
    → AllZip Prints (args_atoms types values) (args_text types values)
args_print [] [] all = tt
args_print (type ∷ types) (value ∷ values) all = (typed_prints type value all.0.0 all.0.1, args_print types values all.1)
args_print _ _ all = absurd all

-- a call, of which the result, the callee and the arguments are printed
call_prints : {result callee args : List Atom} {a b c : List ℕ} → Prints result a → Prints callee b → Prints args c
    → Prints (call_atoms result callee args) (codes "call " ++ (a ++ (codes " " ++ (b ++ (codes "(" ++ (c ++ codes ")"))))))
call_prints result callee args =
    prints_as (simp append_assoc)
    (prints_word (codes "call") refl refl (prints_space (prints_append (prints_append (prints_append result (prints_space callee) refl)
    (prints_mark 40 refl args) refl) (prints_mark 41 refl prints_none) refl)))

returned_prints : (type : Ty) (value : Option Operand) → IsReturned type value
    → Prints (returned_atoms type value) (joined (ret_pieces type value))
returned_prints type None is = prints_word (codes "ret") refl refl (prints_space (prints_word (codes "void") refl refl prints_none))
returned_prints type (Some value) is = prints_word (codes "ret") refl refl (prints_space (typed_prints type value is.1 is.2))

void_prints : Prints (word (codes "void") ∷ []) (codes "void")
void_prints = prints_word (codes "void") refl refl prints_none

trap_prints : (code : Option ℕ) → Prints (trap_atoms code) (joined (trap_pieces code))
trap_prints None = call_prints void_prints (prints_last (bare_token 108 (codes "lvm.trap") refl refl)) prints_none
trap_prints (Some code) =
    call_prints void_prints (prints_last (bare_token 108 (codes "lvm.ubsantrap") refl refl))
    (prints_word (codes "i8") refl refl (prints_space (prints_last (integer_token W8 code))))

rotate_prints : (value : Operand) (by : ℕ) → IsOperand (ty.Int W64) value → Prints (rotate_atoms value by)
    (codes "call i64 @llvm.fshr.i64(" ++ (typed_text (ty.Int W64) value ++ (codes ", "
    ++ (typed_text (ty.Int W64) value ++ (codes ", i64 " ++ (decimal by ++ codes ")"))))))
rotate_prints value by is =
    let typed = typed_prints (ty.Int W64) value (int_is_ty W64) is in
    prints_as (simp append_assoc)
    (call_prints (prints_word (codes "i64") refl refl prints_none) (prints_last (bare_token 108 (codes "lvm.fshr.i64") refl refl))
    (prints_append typed (prints_behind_comma (prints_append typed
    (prints_behind_comma (prints_word (codes "i64") refl refl (prints_space (prints_last (number_token by))))) refl)) refl))

cases_same : (a b : List ℕ) → (a ++ (codes " [" ++ b)) ++ codes "]" ≡ a ++ (codes " [" ++ (b ++ codes "]"))
cases_same a b = simp append_assoc

pub inst_prints : (i : Inst) → IsInst i → Prints (inst_atoms i) (inst_text i)
unfolding inst_pieces
inst_prints (inst.Binary dst op width a b) is =
    set_prints dst is.0 (prints_word (op_text op) (op_is_word op) refl (prints_space
    (prints_append (typed_prints (ty.Int width) a (int_is_ty width) is.1) (prints_behind_comma
    (operand_prints (ty.Int width) b is.2)) refl)))
inst_prints (inst.Compare dst pred type a b) is =
    set_prints dst is.0 (prints_word (codes "icmp") refl refl (prints_space
    (prints_word (pred_text pred) (pred_is_word pred) refl (prints_space
    (prints_append (typed_prints type a is.1 is.2) (prints_behind_comma (operand_prints type b is.3)) refl)))))
inst_prints (inst.Select dst test type a b) is =
    set_prints dst is.0 (prints_word (codes "select") refl refl (prints_space
    (prints_append (typed_prints (ty.Int W1) test (int_is_ty W1) is.1) (prints_behind_comma
    (prints_append (typed_prints type a is.2 is.3) (prints_behind_comma (typed_prints type b is.2 is.4)) refl)) refl)))
inst_prints (inst.Cast dst op from a to) is =
    set_prints dst is.0 (prints_word (cast_text op) (cast_is_word op) refl (prints_space
    (prints_append (typed_prints (ty.Int from) a (int_is_ty from) is.1) (prints_space (prints_word (codes "to") refl refl (prints_space
    (prints_last (width_token to))))) refl)))
inst_prints (inst.Gep dst type base indices) is =
    set_prints dst is.0 (prints_word (codes "getelementptr") refl refl (prints_space
    (prints_append (ty_prints levels type is.1) (prints_behind_comma
    (prints_append (typed_prints ty.Ptr base ptr_is_ty is.2) (indices_print indices is.3) (indices_separate indices))) refl)))
inst_prints (inst.Load dst type addr) is =
    set_prints dst is.0 (prints_word (codes "load") refl refl (prints_space
    (prints_append (ty_prints levels type is.1) (prints_behind_comma
    (prints_append (typed_prints ty.Ptr addr ptr_is_ty is.2) aligned_prints refl)) refl)))
inst_prints (inst.Store type value addr) is =
    prints_word (codes "store") refl refl (prints_space
    (prints_append (typed_prints type value is.0 is.1) (prints_behind_comma
    (prints_append (typed_prints ty.Ptr addr ptr_is_ty is.2) aligned_prints refl)) refl))
inst_prints (inst.Call dst fty callee args) is =
    maybe_set_prints dst is.0 (call_prints (ty_prints levels fty.result is.1) (callee_prints callee is.2)
    (listed_prints (args_atoms fty.params args) (args_text fty.params args) (args_print fty.params args is.3)))
inst_prints (inst.Extract dst pair part) is =
    prints_as (simp append_assoc)
    (set_prints dst is.0 (prints_word (codes "extractvalue") refl refl (prints_space
    (prints_append pair_prints (prints_space (prints_token (local_token pair is.1) refl
    (prints_behind_comma (prints_last (number_token part))))) refl))))
inst_prints (inst.Phi dst type arms) is =
    set_prints dst is.0 (prints_word (codes "phi") refl refl (prints_space
    (prints_append (ty_prints levels type is.1) (prints_space
    (listed_prints (map (arm_atoms type) arms) (map (arm_text type) arms)
    (all_zipped (IsArm type) Prints (arm_atoms type) (arm_text type) (arm_prints type) arms is.3))) refl)))
inst_prints (inst.Br to) is = prints_word (codes "br") refl refl (prints_space (target_prints to is))
inst_prints (inst.CondBr test met unmet) is =
    prints_word (codes "br") refl refl (prints_space
    (prints_append (typed_prints (ty.Int W1) test (int_is_ty W1) is.0) (prints_behind_comma
    (prints_append (target_prints met is.1) (prints_behind_comma (target_prints unmet is.2)) refl)) refl))
inst_prints (inst.Switch width value other cases) is =
    prints_word (codes "switch") refl refl (prints_space
    (prints_append (typed_prints (ty.Int width) value (int_is_ty width) is.0) (prints_behind_comma
    (prints_as (cases_same (to_text other) (spaces (map (case_text width) cases)))
    (prints_append (prints_append (target_prints other is.1) (prints_space (prints_mark 91 refl
    (spaced_prints (map (case_atoms width) cases) (map (case_text width) cases)
    (all_zipped (IsCase width) Prints (case_atoms width) (case_text width) (case_prints width) cases is.2)))) refl)
    (prints_mark 93 refl prints_none) refl))) refl))
inst_prints (inst.Ret type value) is = returned_prints type value is
inst_prints inst.Unreachable is = prints_word (codes "unreachable") refl refl prints_none
inst_prints (inst.Trap code) is = trap_prints code
inst_prints (inst.Number dst ptr) is =
    set_prints dst is.0 (prints_word (codes "ptrtoint") refl refl (prints_space
    (prints_append (typed_prints ty.Ptr ptr ptr_is_ty is.1) (prints_space (prints_word (codes "to") refl refl (prints_space
    (prints_word (codes "i64") refl refl prints_none)))) refl)))
inst_prints (inst.Rotate dst value by) is = set_prints dst is.0 (rotate_prints value by is.1)
inst_prints _ is = absurd is
