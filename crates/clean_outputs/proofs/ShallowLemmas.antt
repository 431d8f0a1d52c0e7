-- Modules whose types have at most the levels that a text may have.
use Rattle.std.proofs.Common.{◌≡◌, refl, sym, ap, subst, ◌∙◌, ℕ, zero, suc, Bool, true, false, cond, List, [], ◌∷◌, map, length, Option, Some, None, slice_get}
use Rattle.std.specs.Prelude.{IfSome}
use Rattle.std.specs.List.{AllByRecursion}
use Rattle.ltt_base.specs.declared.refusal.Place.{Place}
use Rattle.ltt_base.specs.declared.refusal.Placed.{Placed}
use Rattle.ir_values.specs.declared.types.Ty.{Ty, out-Ty}
use Rattle.ir_values.specs.declared.types.Ty.TheVariants.{outs-Array, outs-Struct}
use Rattle.ir_values.specs.declared.types.Ty.TheOpen.{Ty-F}
use Rattle.ir_values.specs.declared.constants.Operand.{Operand}
use Rattle.ir_values.specs.declared.instructions.Inst.{Inst}
use Rattle.ir_values.specs.declared.instructions.Inst.TheVariants as inst
use Rattle.ir_values.specs.declared.modules.Block.{Block}
use Rattle.ir_values.specs.declared.modules.Func.{Func}
use Rattle.ir_values.specs.declared.modules.Var.{Var}
use Rattle.ir_values.specs.declared.units.Arg.{Arg}
use Rattle.ir_values.specs.declared.units.Head.{Head}
use Rattle.ir_values.specs.declared.units.Unit.{Unit as TheUnit}
use Rattle.ir_values.specs.declared.units.BranchText.{BranchText}
use Rattle.ir_values.specs.declared.units.BranchText.TheVariants as branch
use Rattle.ir_values.specs.declared.units.EndText.{EndText}
use Rattle.ir_values.specs.declared.units.EndText.TheVariants as end
use Rattle.ir_values.specs.declared.units.Form.{Form}
use Rattle.ir_values.specs.declared.units.Form.TheVariants as form
use Rattle.type_grammar.specs.Levels.{levels}
use Rattle.check_names.specs.declared.spaces.Space.TheVariants.{Types}
use Rattle.check_names.specs.Reserved.{is_intrinsic}
use Rattle.check_names.specs.Spaces.{is_named, first_unit}
use Rattle.check_bodies.specs.Standing.{opened, is_named as has_name}
use Rattle.check_types.specs.Heads.{type_head, option_head, followed, named_head}
use Rattle.check_types.specs.Measures.{is_past}
use Rattle.check_types.specs.Named.{named_type, type_of, is_endless}
use Rattle.check_types.specs.Replaced.{layer_replaced, head_replaced, replaced_within, replaced}
use Rattle.check_constants.specs.declared.intrinsics.Intrinsic.{Intrinsic}
use Rattle.check_constants.specs.declared.intrinsics.Intrinsic.TheVariants.{Test, CheckedLoad, Assume, Trap, CodedTrap, Rotate}
use Rattle.kept_parts.specs.Called.{called, called_intrinsic}
use Rattle.built_instructions.specs.Branches.{branch_kept, end_kept}
use Rattle.built_instructions.specs.Calls.{plain_call, intrinsic_call, call_of, call_kept}
use Rattle.built_instructions.specs.Instructions.{form_kept, instruction_of}
use Rattle.built_modules.specs.Variables.{vars_in, vars_at}
use Rattle.built_modules.specs.Functions.{funcs_in, declared}
use Rattle.built_modules.specs.Modules.{module_of}
use Rattle.printed_units.specs.Written.{TyLayer, IsTyWithin, IsInst, IsBlock, IsFunc, IsVar}
use Rattle.printed_units.proofs.ListLemmas.{all_of}
use Rattle.printed_units.proofs.WrittenLemmas.{each_is_inst}
use Rattle.sized_modules.proofs.UnitLemmas.{Units}
use Rattle.said_units.specs.Sayable.{SaidTyLayer, IsSaidTyWithin, IsSaidTy, IsSaid}
use Rattle.clean_outputs.specs.Laws.{WrittenModulesAreShallow}
use Rattle.clean_outputs.specs.Shallow.{ShallowTyLayer, IsShallowTyWithin, IsShallowTy, IsShallowInst, IsShallowFunc, IsShallow, HasNoNamedType}
use Rattle.clean_outputs.proofs.FileLemmas.{IsFile, said_at}
use Rattle.clean_outputs.proofs.HeadPlaces.{stands_outside}
use Rattle.clean_outputs.proofs.ListedLemmas.{flat_got, funcs_got}
use Rattle.clean_outputs.proofs.BodyLemmas.{HoldsInside, insts_inside}

-- what is written out within so many levels has no more

written_layer : (P Q : Ty → Type 0) → ((part : Ty) → P part → Q part) → (layer : Ty-F Ty) → TyLayer P layer → ShallowTyLayer Q layer
written_layer P Q so (Ty-F.Array count part) is = so part is.1
written_layer P Q so (Ty-F.Struct parts) is = all_of P Q so parts is
written_layer P Q so _ is = tt

written_shallow : (n : ℕ) (type : Ty) → IsTyWithin n type → IsShallowTyWithin n type
written_shallow zero type is = is
written_shallow (suc n) type is = written_layer (IsTyWithin n) (IsShallowTyWithin n) (written_shallow n) (out-Ty type) is

inst_shallow : (i : Inst) → IsInst i → IsShallowInst i
inst_shallow (inst.Gep dst type base indices) is = written_shallow levels type is.1
inst_shallow _ is = tt

block_shallow : (block : Block) → IsBlock block → AllByRecursion IsShallowInst block.insts
block_shallow block is = all_of IsInst IsShallowInst inst_shallow block.insts (each_is_inst block.insts is.insts)

func_shallow : (f : Func) → IsFunc f → IsShallowFunc f
func_shallow f is = all_of IsBlock (λ block. AllByRecursion IsShallowInst block.insts) block_shallow f.blocks is.blocks

pub written_modules_are_shallow : WrittenModulesAreShallow
written_modules_are_shallow m written = record {
  vars = all_of IsVar (λ v. IsShallowTy v.ty) (λ v is. written_shallow levels v.ty is.type) m.vars written.vars;
  funcs = all_of IsFunc IsShallowFunc func_shallow m.funcs written.funcs;
}

-- where no type has a name, each type is as it is written

none_defined : (us : Units) → HasNoNamedType us → (name : List ℕ) → first_unit Types name us ≡ None
none_defined [] untyped name = refl
none_defined (u ∷ us) untyped name =
    ap (λ own. cond (is_named name own) (Some u) (first_unit Types name us)) untyped.0 ∙ none_defined us untyped.1 name

none_typed : (us : Units) → HasNoNamedType us → (name : List ℕ) → named_type us name ≡ None
unfolding named_type
none_typed us untyped name = ap type_of (none_defined us untyped name)

none_followed : (us : Units) → HasNoNamedType us → (names : ℕ) (name : List ℕ) → followed us names name ≡ None
unfolding followed
none_followed us untyped zero name = refl
none_followed us untyped (suc names) name = ap (option_head (followed us names)) (none_typed us untyped name)

either_none : (endless : Bool) (found : Option Ty) → found ≡ None → cond endless None found ≡ None
either_none true found none = refl
either_none false found none = none

none_named : (us : Units) → HasNoNamedType us → (name : List ℕ) → named_head us name ≡ None
unfolding named_head
none_named us untyped name = either_none (is_endless us name) (followed us (length us) name) (none_followed us untyped (length us) name)

said_parts : (n : ℕ) (f : Ty → Ty) → ((part : Ty) → IsSaidTyWithin n part → IsShallowTyWithin n (f part)) → (parts : List Ty)
    → AllByRecursion (IsSaidTyWithin n) parts → AllByRecursion (IsShallowTyWithin n) (map f parts)
said_parts n f so [] are = tt
said_parts n f so (part ∷ parts) are = (so part are.0, said_parts n f so parts are.1)

-- a type of one level
flat_within : (n : ℕ) (type : Ty) (layer : Ty-F Ty) → out-Ty type ≡ layer → ShallowTyLayer (IsShallowTyWithin n) layer → IsShallowTyWithin
    (suc n) type
flat_within n type layer is shallow = subst (ShallowTyLayer (IsShallowTyWithin n)) (sym is) shallow

replaced_layer : (us : Units) → HasNoNamedType us → (n : ℕ) (f : Ty → Ty) → ((part : Ty) → IsSaidTyWithin n part → IsShallowTyWithin n (f part))
    → (type : Ty) (layer : Ty-F Ty) → out-Ty type ≡ layer → SaidTyLayer (IsSaidTyWithin n) layer
    → IsShallowTyWithin (suc n) (head_replaced f type (type_head (named_head us) type layer))
replaced_layer us untyped n f so type (Ty-F.Array count part) is said =
    subst (λ layer. IsShallowTyWithin (suc n) (layer_replaced f type layer)) (sym is) (rw (outs-Array count (f part)) (so part said.1))
replaced_layer us untyped n f so type (Ty-F.Struct parts) is said =
    subst (λ layer. IsShallowTyWithin (suc n) (layer_replaced f type layer)) (sym is)
    (rw (outs-Struct (map f parts)) (said_parts n f so parts said))
replaced_layer us untyped n f so type Ty-F.Void is said =
    subst (λ layer. IsShallowTyWithin (suc n) (layer_replaced f type layer)) (sym is) (flat_within n type Ty-F.Void is tt)
replaced_layer us untyped n f so type (Ty-F.Int width) is said =
    subst (λ layer. IsShallowTyWithin (suc n) (layer_replaced f type layer)) (sym is) (flat_within n type (Ty-F.Int width) is tt)
replaced_layer us untyped n f so type Ty-F.Ptr is said =
    subst (λ layer. IsShallowTyWithin (suc n) (layer_replaced f type layer)) (sym is) (flat_within n type Ty-F.Ptr is tt)
replaced_layer us untyped n f so type Ty-F.Pair is said = absurd said
replaced_layer us untyped n f so type (Ty-F.Named name) is said =
    subst (λ known. IsShallowTyWithin (suc n) (head_replaced f type known)) (sym (none_named us untyped name))
    (flat_within n type (Ty-F.Named name) is tt)
replaced_layer us untyped n f so type (Ty-F.Left text) is said = flat_within n type (Ty-F.Left text) is tt

said_layer : (n : ℕ) (layer : Ty-F Ty) → SaidTyLayer (IsSaidTyWithin n) layer → ((part : Ty) → IsSaidTyWithin n part → IsShallowTyWithin n part)
    → ShallowTyLayer (IsShallowTyWithin n) layer
said_layer n (Ty-F.Array count part) said so = so part said.1
said_layer n (Ty-F.Struct parts) said so = all_of (IsSaidTyWithin n) (IsShallowTyWithin n) so parts said
said_layer n _ said so = tt

said_shallow : (n : ℕ) (type : Ty) → IsSaidTyWithin n type → IsShallowTyWithin n type
said_shallow zero type said = said
said_shallow (suc n) type said = said_layer n (out-Ty type) said (said_shallow n)

within_shallow : (us : Units) → HasNoNamedType us → (rounds n : ℕ) (type : Ty) → IsSaidTyWithin n type → IsShallowTyWithin n
    (replaced_within us rounds type)
unfolding replaced_within
within_shallow us untyped zero n type said = said_shallow n type said
within_shallow us untyped (suc rounds) zero type said = absurd said
within_shallow us untyped (suc rounds) (suc n) type said =
    replaced_layer us untyped n (replaced_within us rounds) (within_shallow us untyped rounds n) type (out-Ty type) refl said

either_shallow : (past : Bool) (type other : Ty) → IsShallowTy type → IsShallowTy other → IsShallowTy (cond past type other)
either_shallow true type other one two = one
either_shallow false type other one two = two

replaced_shallow : (us : Units) → HasNoNamedType us → (type : Ty) → IsSaidTy type → IsShallowTy (replaced us type)
unfolding replaced
replaced_shallow us untyped type said =
    either_shallow (is_past us type) type (replaced_within us 4096 type) (said_shallow levels type said)
    (within_shallow us untyped 4096 levels type said)

-- so no type of the module has more levels

var_shallow : (us : Units) → HasNoNamedType us → (file : ℕ) (place : Place) (says : Form) → IsSaid says
    → AllByRecursion (λ (v : Var). IsShallowTy v.ty) (vars_in true us file place says)
var_shallow us untyped file place (form.VariableForm name linkage constant type init align attached) said =
    (replaced_shallow us untyped type said.1, tt)
var_shallow us untyped file place _ said = tt

intrinsic_shallow : (us : Units) (file next : ℕ) (dst : Option (List ℕ)) (intrinsic : Intrinsic) (args : List Arg)
    → IsShallowInst (intrinsic_call us file next dst intrinsic args)
unfolding intrinsic_call
intrinsic_shallow us file next dst Test args = tt
intrinsic_shallow us file next dst CheckedLoad args = tt
intrinsic_shallow us file next dst Assume args = tt
intrinsic_shallow us file next dst Trap args = tt
intrinsic_shallow us file next dst CodedTrap args = tt
intrinsic_shallow us file next dst Rotate args = tt

call_shallow : (us : Units) (file next : ℕ) (named : Bool) (dst : Option (List ℕ)) (intrinsic : Option Intrinsic) (function : Option Head)
    (result : Ty)
    (whole : Option (List Ty)) (callee : Operand) (args : List Arg) → IsShallowInst
    (call_of us file next named dst intrinsic function result whole callee args)
unfolding plain_call
call_shallow us file next named dst None function result whole callee args = tt
call_shallow us file next named dst (Some intrinsic) function result whole callee args = intrinsic_shallow us file next dst intrinsic args

kept_call_shallow : (us : Units) (file next : ℕ) (named : Bool) (dst : Option (List ℕ)) (result : Ty) (whole : Option (List Ty)) (callee : Operand)
    (args : List Arg) → IsShallowInst (call_kept true us file next named dst result whole callee args)
unfolding call_kept
kept_call_shallow us file next named dst result whole callee args =
    call_shallow us file next named dst (called_intrinsic true us (called us callee)) (called us callee) result whole callee args

branch_shallow : (us : Units) (text : BranchText) → IsShallowInst (branch_kept us text)
branch_shallow us (branch.Br to) = tt
branch_shallow us (branch.CondBr test one other) = tt
branch_shallow us (branch.Switch type value other cases) = tt

end_shallow : (us : Units) (text : EndText) → IsShallowInst (end_kept us text)
end_shallow us end.RetVoid = tt
end_shallow us (end.Ret type value) = tt
end_shallow us end.Unreachable = tt

form_shallow : (us : Units) → HasNoNamedType us → (file next : ℕ) (says : Form) → IsSaid says → IfSome
    (form_kept true us file next says) IsShallowInst
form_shallow us untyped file next (form.AddressForm dst type base index) said = replaced_shallow us untyped type said.1
form_shallow us untyped file next (form.CallForm dst result whole dots callee args bundle) said =
    kept_call_shallow us file next (has_name (form.CallForm dst result whole dots callee args bundle)) dst result whole callee args
form_shallow us untyped file next (form.BranchForm text) said = branch_shallow us text
form_shallow us untyped file next (form.EndForm text) said = end_shallow us text
form_shallow us untyped file next _ said = tt

holds_inside : (us : Units) → IsFile us → HasNoNamedType us → (file : ℕ) → HoldsInside true us file IsShallowInst
unfolding instruction_of
holds_inside us of untyped file at u spot i here stands is =
    subst (λ o. IfSome o IsShallowInst) is (form_shallow us untyped file (opened at spot).next u.value.form (said_at us of at u here))

declared_shallow : (us : Units) (place : Place) (own : Head) (intrinsic : Bool)
    → AllByRecursion IsShallowFunc (cond intrinsic [] (declared us place own ∷ []))
declared_shallow us place own true = tt
declared_shallow us place own false = (tt, tt)

funcs_shallow : (us : Units) → IsFile us → HasNoNamedType us → (file at : ℕ) (u : Placed TheUnit) → slice_get us at ≡ Some u → (says : Form)
    → u.value.form ≡ says → AllByRecursion IsShallowFunc (funcs_in true us file at u.place says)
funcs_shallow us of untyped file at u here (form.DeclareForm own) is = declared_shallow us u.place own (is_intrinsic own.name)
funcs_shallow us of untyped file at u here (form.DefineForm own) is = (
  insts_inside true us file IsShallowInst (holds_inside us of untyped file) at u here
      (stands_outside us of at u (form.DefineForm own) here is (λ spot. refl)),
  tt,
)
funcs_shallow us of untyped file at u here _ is = tt

pub unnamed_shallow : (us : Units) → IsFile us → HasNoNamedType us → (file : ℕ) → IsShallow (module_of true us file)
unfolding module_of
unnamed_shallow us of untyped file = record {
  vars = flat_got (λ (v : Var). IsShallowTy v.ty) (vars_at true us file) us
      (λ at u here. var_shallow us untyped file u.place u.value.form (said_at us of at u here));
  funcs = funcs_got true us file IsShallowFunc (λ at u here. funcs_shallow us of untyped file at u here u.value.form refl);
}
