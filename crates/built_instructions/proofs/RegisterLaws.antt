-- The registers that instructions set are the values that their units define.
use Rattle.std.proofs.Common.{◌≡◌, refl, sym, ◌∙◌, ℕ, Bool, true, false, ◌||◌, cond, List, [], ◌∷◌, ◌++◌, Option, Some, None, is_some, true≢false}
use Rattle.std.specs.Option.{option_to_list}
use Rattle.ltt_base.specs.declared.refusal.Placed.{Placed}
use Rattle.ir_values.specs.declared.types.Ty.{Ty}
use Rattle.ir_values.specs.declared.constants.Operand.{Operand}
use Rattle.ir_values.specs.declared.units.Unit as unit
use Rattle.ir_values.specs.declared.units.Head.{Head}
use Rattle.ir_values.specs.declared.units.Arg.{Arg}
use Rattle.ir_values.specs.declared.units.BranchText.{BranchText}
use Rattle.ir_values.specs.declared.units.BranchText.TheVariants as branch
use Rattle.ir_values.specs.declared.units.EndText.{EndText}
use Rattle.ir_values.specs.declared.units.EndText.TheVariants as end
use Rattle.ir_values.specs.declared.units.Form.{Form}
use Rattle.ir_values.specs.declared.units.Form.TheVariants as form
use Rattle.check_bodies.specs.declared.standing.Spot.{Spot}
use Rattle.check_bodies.specs.declared.names.Local.TheVariants.{Block, Result}
use Rattle.check_bodies.specs.declared.names.Defined.{Defined}
use Rattle.check_bodies.specs.Numbers.{name_or}
use Rattle.check_bodies.specs.Standing.{is_begun, is_named, opened}
use Rattle.check_bodies.specs.Names.{implied_label, names_at}
use Rattle.check_constants.specs.declared.intrinsics.Intrinsic.{Intrinsic}
use Rattle.check_constants.specs.declared.intrinsics.Intrinsic.TheVariants.{Test, CheckedLoad, Assume, Trap, CodedTrap, Rotate}
use Rattle.kept_parts.specs.Called.{called, called_intrinsic}
use Rattle.built_instructions.specs.Branches.{branch_kept, end_kept}
use Rattle.built_instructions.specs.Calls.{result_name, plain_call, intrinsic_call, call_of, call_kept}
use Rattle.built_instructions.specs.Instructions.{form_kept, instruction_of}
use Rattle.built_instructions.specs.Laws.{register_of, registers_of, value_names, fits_result, has_fit_result, RegistersAreDefined}

-- a label before the values is none of them
behind_label : (begun : Bool) (at : ℕ) (name : List ℕ) (ds : List Defined)
    → value_names (cond begun [] (record { name = name; local = Block at } ∷ []) ++ ds) ≡ value_names ds
behind_label true at name ds = refl
behind_label false at name ds = refl

-- the value that an instruction defines, if it has a result
result_names : (named : Bool) (at : ℕ) (name : List ℕ)
    → value_names (cond named (record { name = name; local = Result at } ∷ []) []) ≡ cond named (name ∷ []) []
result_names true at name = refl
result_names false at name = refl

-- what an instruction at a spot defines
own_names : (at : ℕ) (spot : Spot) (named : Bool) (name : List ℕ)
    → value_names (implied_label at spot ++ cond named (record { name = name; local = Result at } ∷ []) []) ≡ cond named (name ∷ []) []
own_names at spot named name =
    behind_label (is_begun spot.stage) at (name_or spot.next None) (cond named (record { name = name; local = Result at } ∷ []) [])
    ∙ result_names named at name

always : (dst : Option (List ℕ)) (name : List ℕ) → cond (is_some dst || true) (name ∷ []) [] ≡ name ∷ []
always None name = refl
always (Some written) name = refl

-- an instruction that has a result
with_result : (at : ℕ) (spot : Spot) (dst : Option (List ℕ)) (name : List ℕ)
    → name ∷ [] ≡ value_names (implied_label at spot ++ cond (is_some dst || true) (record { name = name; local = Result at } ∷ []) [])
with_result at spot dst name = sym (own_names at spot (is_some dst || true) name ∙ always dst name)

-- one that has none
without_result : (at : ℕ) (spot : Spot) → [] ≡ value_names (implied_label at spot ++ [])
without_result at spot = sym (behind_label (is_begun spot.stage) at (name_or spot.next None) [])

branch_register : (us : List (Placed unit.Unit)) (text : BranchText) → option_to_list (register_of (branch_kept us text)) ≡ []
branch_register us (branch.Br to) = refl
branch_register us (branch.CondBr test one other) = refl
branch_register us (branch.Switch ty value other cases) = refl

end_register : (us : List (Placed unit.Unit)) (text : EndText) → option_to_list (register_of (end_kept us text)) ≡ []
end_register us end.RetVoid = refl
end_register us (end.Ret ty value) = refl
end_register us end.Unreachable = refl

named_register : (next : ℕ) (named : Bool) (dst : Option (List ℕ))
    → option_to_list (result_name next named dst) ≡ cond named (name_or next dst ∷ []) []
named_register next true dst = refl
named_register next false dst = refl

plain_register : (us : List (Placed unit.Unit)) (next : ℕ) (named : Bool) (dst : Option (List ℕ)) (function : Option Head) (result : Ty)
    (whole : Option (List Ty)) (callee : Operand) (args : List Arg)
    → option_to_list (register_of (plain_call us next named dst function result whole callee args)) ≡ cond named (name_or next dst ∷ []) []
unfolding plain_call
plain_register us next named dst function result whole callee args = named_register next named dst

intrinsic_register : (us : List (Placed unit.Unit)) (file next : ℕ) (named : Bool) (dst : Option (List ℕ)) (intrinsic : Intrinsic)
    (args : List Arg) → fits_result (Some intrinsic) named ≡ true
    → option_to_list (register_of (intrinsic_call us file next dst intrinsic args)) ≡ cond named (name_or next dst ∷ []) []
unfolding intrinsic_call
intrinsic_register us file next true dst Test args fits = refl
intrinsic_register us file next false dst Test args fits = absurd (true≢false (sym fits))
intrinsic_register us file next true dst CheckedLoad args fits = refl
intrinsic_register us file next false dst CheckedLoad args fits = absurd (true≢false (sym fits))
intrinsic_register us file next true dst Assume args fits = absurd (true≢false (sym fits))
intrinsic_register us file next false dst Assume args fits = refl
intrinsic_register us file next true dst Trap args fits = absurd (true≢false (sym fits))
intrinsic_register us file next false dst Trap args fits = refl
intrinsic_register us file next true dst CodedTrap args fits = absurd (true≢false (sym fits))
intrinsic_register us file next false dst CodedTrap args fits = refl
intrinsic_register us file next true dst Rotate args fits = refl
intrinsic_register us file next false dst Rotate args fits = absurd (true≢false (sym fits))

some_call_register : (us : List (Placed unit.Unit)) (file next : ℕ) (named : Bool) (dst : Option (List ℕ)) (intrinsic : Option Intrinsic)
    (function : Option Head) (result : Ty) (whole : Option (List Ty)) (callee : Operand) (args : List Arg)
    → fits_result intrinsic named ≡ true
    → option_to_list (register_of (call_of us file next named dst intrinsic function result whole callee args))
    ≡ cond named (name_or next dst ∷ []) []
some_call_register us file next named dst None function result whole callee args fits =
    plain_register us next named dst function result whole callee args
some_call_register us file next named dst (Some intrinsic) function result whole callee args fits =
    intrinsic_register us file next named dst intrinsic args fits

call_register : (output : Bool) (us : List (Placed unit.Unit)) (file next : ℕ) (named : Bool) (dst : Option (List ℕ)) (result : Ty)
    (whole : Option (List Ty)) (callee : Operand) (args : List Arg)
    → fits_result (called_intrinsic output us (called us callee)) named ≡ true
    → option_to_list (register_of (call_kept output us file next named dst result whole callee args)) ≡ cond named (name_or next dst ∷ []) []
unfolding call_kept
call_register output us file next named dst result whole callee args fits =
    some_call_register us file next named dst (called_intrinsic output us (called us callee)) (called us callee) result whole callee args fits

registers_defined_here : (output : Bool) (us : List (Placed unit.Unit)) (file at : ℕ) (spot : Spot) (form : Form)
    → has_fit_result output us form ≡ true
    → registers_of (form_kept output us file (opened at spot).next form) ≡ value_names (names_at at spot form)
registers_defined_here output us file at spot (form.HeaderForm kind value) fits = refl
registers_defined_here output us file at spot (form.TypeForm name ty) fits = refl
registers_defined_here output us file at spot (form.ComdatForm name) fits = refl
registers_defined_here output us file at spot (form.AttributesForm number) fits = refl
registers_defined_here output us file at spot (form.VariableForm name linkage constant ty init align attached) fits = refl
registers_defined_here output us file at spot (form.DeclareForm head) fits = refl
registers_defined_here output us file at spot (form.DefineForm head) fits = refl
registers_defined_here output us file at spot (form.LabelForm name) fits = refl
registers_defined_here output us file at spot form.CloseForm fits = refl
registers_defined_here output us file at spot (form.MetadataForm name distinct items) fits = refl
registers_defined_here output us file at spot (form.SummaryForm number) fits = refl
registers_defined_here output us file at spot (form.BinaryForm dst op ty a b) fits = with_result at spot dst (name_or (opened at spot).next dst)
registers_defined_here output us file at spot (form.CompareForm dst pred ty a b) fits = with_result at spot dst (name_or (opened at spot).next dst)
registers_defined_here output us file at spot (form.SelectForm dst cond_ty test ty a other_ty b) fits = with_result at spot dst (name_or (opened at spot).next dst)
registers_defined_here output us file at spot (form.CastForm dst op from a to) fits = with_result at spot dst (name_or (opened at spot).next dst)
registers_defined_here output us file at spot (form.AddressForm dst ty base index) fits = with_result at spot dst (name_or (opened at spot).next dst)
registers_defined_here output us file at spot (form.LoadForm dst ty addr) fits = with_result at spot dst (name_or (opened at spot).next dst)
registers_defined_here output us file at spot (form.StoreForm ty value addr) fits = without_result at spot
registers_defined_here output us file at spot (form.CallForm dst result whole dots callee args bundle) fits =
    call_register output us file (opened at spot).next (is_named (form.CallForm dst result whole dots callee args bundle)) dst result whole callee args fits
    ∙ sym (own_names at spot (is_named (form.CallForm dst result whole dots callee args bundle)) (name_or (opened at spot).next dst))
registers_defined_here output us file at spot (form.ExtractForm dst value part) fits = with_result at spot dst (name_or (opened at spot).next dst)
registers_defined_here output us file at spot (form.PhiForm dst ty arms) fits = with_result at spot dst (name_or (opened at spot).next dst)
registers_defined_here output us file at spot (form.BranchForm text) fits = branch_register us text ∙ without_result at spot
registers_defined_here output us file at spot (form.EndForm text) fits = end_register us text ∙ without_result at spot
registers_defined_here output us file at spot (form.NumberForm dst value) fits = with_result at spot dst (name_or (opened at spot).next dst)
registers_defined_here output us file at spot (form.TableForm name funcs) fits = refl
registers_defined_here output us file at spot (form.LeftForm word) fits = refl

pub registers_defined : RegistersAreDefined
unfolding instruction_of
registers_defined output us file at spot form fits = registers_defined_here output us file at spot form fits
