-- The sorts of instructions are those of their units.
use Rattle.std.proofs.Common.{◌≡◌, refl, ap, ℕ, Bool, List, Option, Some, None}
use Rattle.std.specs.Option.{option_map}
use Rattle.ltt_base.specs.declared.refusal.Placed.{Placed}
use Rattle.ir_values.specs.declared.types.Ty.{Ty}
use Rattle.ir_values.specs.declared.constants.Operand.{Operand}
use Rattle.ir_values.specs.declared.units.Unit as unit
use Rattle.ir_values.specs.declared.units.Head.{Head}
use Rattle.ir_values.specs.declared.units.Arg.{Arg}
use Rattle.ir_values.specs.declared.units.BranchText.{BranchText}
use Rattle.ir_values.specs.declared.units.BranchText.TheVariants as branch
use Rattle.ir_values.specs.declared.units.EndText.{EndText}
use Rattle.ir_values.specs.declared.units.EndText.TheVariants as end
use Rattle.ir_values.specs.declared.units.Form.{Form}
use Rattle.ir_values.specs.declared.units.Form.TheVariants as form
use Rattle.check_bodies.specs.declared.sorts.Sort.TheVariants.{Plain, Terminator}
use Rattle.check_bodies.specs.Standing.{is_named, opened}
use Rattle.check_constants.specs.declared.intrinsics.Intrinsic.{Intrinsic}
use Rattle.check_constants.specs.declared.intrinsics.Intrinsic.TheVariants.{Test, CheckedLoad, Assume, Trap, CodedTrap, Rotate}
use Rattle.kept_parts.specs.Called.{called, called_intrinsic}
use Rattle.built_instructions.specs.Branches.{branch_kept, end_kept}
use Rattle.built_instructions.specs.Calls.{plain_call, intrinsic_call, call_of, call_kept}
use Rattle.built_instructions.specs.Instructions.{form_kept, instruction_of}
use Rattle.built_instructions.specs.Laws.{sort_in, instruction_sort, SortsAreKept}

plain_sort : (us : List (Placed unit.Unit)) (next : ℕ) (named : Bool) (dst : Option (List ℕ)) (function : Option Head) (result : Ty)
    (whole : Option (List Ty)) (callee : Operand) (args : List Arg) → sort_in (plain_call us next named dst function result whole callee args) ≡ Plain
unfolding plain_call
plain_sort us next named dst function result whole callee args = refl

intrinsic_sort : (us : List (Placed unit.Unit)) (file next : ℕ) (dst : Option (List ℕ)) (intrinsic : Intrinsic) (args : List Arg)
    → sort_in (intrinsic_call us file next dst intrinsic args) ≡ Plain
unfolding intrinsic_call
intrinsic_sort us file next dst Test args = refl
intrinsic_sort us file next dst CheckedLoad args = refl
intrinsic_sort us file next dst Assume args = refl
intrinsic_sort us file next dst Trap args = refl
intrinsic_sort us file next dst CodedTrap args = refl
intrinsic_sort us file next dst Rotate args = refl

some_call_sort : (us : List (Placed unit.Unit)) (file next : ℕ) (named : Bool) (dst : Option (List ℕ)) (intrinsic : Option Intrinsic)
    (function : Option Head) (result : Ty) (whole : Option (List Ty)) (callee : Operand) (args : List Arg)
    → sort_in (call_of us file next named dst intrinsic function result whole callee args) ≡ Plain
some_call_sort us file next named dst None function result whole callee args = plain_sort us next named dst function result whole callee args
some_call_sort us file next named dst (Some intrinsic) function result whole callee args = intrinsic_sort us file next dst intrinsic args

call_sort : (output : Bool) (us : List (Placed unit.Unit)) (file next : ℕ) (named : Bool) (dst : Option (List ℕ)) (result : Ty)
    (whole : Option (List Ty)) (callee : Operand) (args : List Arg)
    → sort_in (call_kept output us file next named dst result whole callee args) ≡ Plain
unfolding call_kept
call_sort output us file next named dst result whole callee args =
    some_call_sort us file next named dst (called_intrinsic output us (called us callee)) (called us callee) result whole callee args

branch_sort : (us : List (Placed unit.Unit)) (text : BranchText) → sort_in (branch_kept us text) ≡ Terminator
branch_sort us (branch.Br to) = refl
branch_sort us (branch.CondBr test one other) = refl
branch_sort us (branch.Switch ty value other cases) = refl

end_sort : (us : List (Placed unit.Unit)) (text : EndText) → sort_in (end_kept us text) ≡ Terminator
end_sort us end.RetVoid = refl
end_sort us (end.Ret ty value) = refl
end_sort us end.Unreachable = refl

form_sort : (output : Bool) (us : List (Placed unit.Unit)) (file next : ℕ) (form : Form)
    → option_map sort_in (form_kept output us file next form) ≡ instruction_sort form
form_sort output us file next (form.HeaderForm kind value) = refl
form_sort output us file next (form.TypeForm name ty) = refl
form_sort output us file next (form.ComdatForm name) = refl
form_sort output us file next (form.AttributesForm number) = refl
form_sort output us file next (form.VariableForm name linkage constant ty init align attached) = refl
form_sort output us file next (form.DeclareForm head) = refl
form_sort output us file next (form.DefineForm head) = refl
form_sort output us file next (form.LabelForm name) = refl
form_sort output us file next form.CloseForm = refl
form_sort output us file next (form.MetadataForm name distinct items) = refl
form_sort output us file next (form.SummaryForm number) = refl
form_sort output us file next (form.BinaryForm dst op ty a b) = refl
form_sort output us file next (form.CompareForm dst pred ty a b) = refl
form_sort output us file next (form.SelectForm dst cond_ty test ty a other_ty b) = refl
form_sort output us file next (form.CastForm dst op from a to) = refl
form_sort output us file next (form.AddressForm dst ty base index) = refl
form_sort output us file next (form.LoadForm dst ty addr) = refl
form_sort output us file next (form.StoreForm ty value addr) = refl
form_sort output us file next (form.CallForm dst result whole dots callee args bundle) =
    ap Some (call_sort output us file next (is_named (form.CallForm dst result whole dots callee args bundle)) dst result whole callee args)
form_sort output us file next (form.ExtractForm dst value part) = refl
form_sort output us file next (form.PhiForm dst ty arms) = refl
form_sort output us file next (form.BranchForm text) = ap Some (branch_sort us text)
form_sort output us file next (form.EndForm text) = ap Some (end_sort us text)
form_sort output us file next (form.NumberForm dst value) = refl
form_sort output us file next (form.TableForm name funcs) = refl
form_sort output us file next (form.LeftForm word) = refl

pub sorts_kept : SortsAreKept
unfolding instruction_of
sorts_kept output us file at spot form = form_sort output us file (opened at spot).next form
