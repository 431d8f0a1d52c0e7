-- The intrinsics that a file without flaws calls: those that it declares.
use Rattle.std.proofs.Common.{◌≡◌, refl, ◌∙◌, ap, sym, subst, true≢false, ℕ, Bool, true, false, cond, List, [], ◌∷◌, Option, Some, None, slice_get, codes}
use Rattle.std.specs.List.{list_any, AllByRecursion}
use Rattle.std.specs.Str.{bytes_eq}
use Rattle.ltt_base.specs.declared.refusal.Placed.{Placed}
use Rattle.ir_values.specs.declared.types.Ty.{Ty}
use Rattle.ir_values.specs.declared.constants.Operand.{Operand}
use Rattle.ir_values.specs.declared.instructions.Inst.{Inst}
use Rattle.ir_values.specs.declared.instructions.Inst.TheVariants as inst
use Rattle.ir_values.specs.declared.modules.Block.{Block}
use Rattle.ir_values.specs.declared.modules.Func.{Func}
use Rattle.ir_values.specs.declared.modules.Module.{Module}
use Rattle.ir_values.specs.declared.units.Arg.{Arg}
use Rattle.ir_values.specs.declared.units.BranchText.{BranchText}
use Rattle.ir_values.specs.declared.units.BranchText.TheVariants as branch
use Rattle.ir_values.specs.declared.units.EndText.{EndText}
use Rattle.ir_values.specs.declared.units.EndText.TheVariants as end
use Rattle.ir_values.specs.declared.units.Head.{Head}
use Rattle.ir_values.specs.declared.units.Unit.{Unit as TheUnit}
use Rattle.ir_values.specs.declared.units.Form.{Form}
use Rattle.ir_values.specs.declared.units.Form.TheVariants as form
use Rattle.ir_print.specs.declared.intrinsics.Intrinsic as printed
use Rattle.ir_print.specs.ModuleText.{is_call, is_called}
use Rattle.check_names.specs.Reserved.{is_intrinsic}
use Rattle.check_bodies.specs.declared.standing.Spot.{Spot}
use Rattle.check_bodies.specs.declared.standing.Standing.TheVariants.{Outside}
use Rattle.check_bodies.specs.Standing.{standing, is_named, opened}
use Rattle.check_constants.specs.declared.intrinsics.Intrinsic.{Intrinsic}
use Rattle.check_constants.specs.declared.intrinsics.Intrinsic.TheVariants.{Test, CheckedLoad, Assume, Trap, CodedTrap, Rotate}
use Rattle.check_constants.specs.Intrinsics.{is_declared_intrinsic, intrinsic_of, output_intrinsic}
use Rattle.kept_parts.specs.Called.{called, called_intrinsic}
use Rattle.built_instructions.specs.Branches.{branch_kept, end_kept}
use Rattle.built_instructions.specs.Calls.{plain_call, intrinsic_call, call_of, call_kept}
use Rattle.built_instructions.specs.Instructions.{form_kept, instruction_of}
use Rattle.built_modules.specs.Blocks.{body_blocks}
use Rattle.built_modules.specs.Functions.{declared, funcs_in, funcs_from}
use Rattle.built_modules.specs.Modules.{module_of}
use Rattle.printed_units.proofs.ListLemmas.{all_of}
use Rattle.printed_modules.specs.Printed.{intrinsic_name, is_declared}
use Rattle.sized_modules.proofs.UnitLemmas.{Units}
use Rattle.clean_outputs.specs.Shallow.{declarations_first}
use Rattle.clean_outputs.proofs.HeadPlaces.{stands_outside}
use Rattle.clean_outputs.proofs.ListedLemmas.{funcs_got}
use Rattle.clean_outputs.proofs.FileLemmas.{IsFile}
use Rattle.clean_outputs.proofs.BodyLemmas.{insts_inside}
use Rattle.clean_outputs.proofs.ApartLemmas.{same_text, any_then, any_parted}

-- the order of functions doesn't tell which intrinsics they call
pub called_parted : (intrinsic : printed.Intrinsic) (m : Module) → is_called intrinsic (declarations_first m).funcs ≡ is_called intrinsic m.funcs
called_parted intrinsic m =
    any_parted (λ f. list_any (λ (block : Block). list_any (is_call intrinsic) block.insts) f.blocks) is_declared m.funcs

-- the name of an intrinsic that a module keeps as an instruction
abbrev name_of : Intrinsic → List ℕ
name_of Trap = codes "llvm.trap"
name_of CodedTrap = codes "llvm.ubsantrap"
name_of Rotate = codes "llvm.fshr.i64"
name_of _ = []

-- an output may use those alone
name_is : (name : List ℕ) (intrinsic : Intrinsic) → intrinsic_of true name ≡ Some intrinsic → name ≡ name_of intrinsic
name_is name intrinsic is =
    elim (bytes_eq name (codes "llvm.trap")) as (λ b. bytes_eq name (codes "llvm.trap") ≡ b
    → cond b (Some Trap) (cond (bytes_eq name (codes "llvm.ubsantrap")) (Some CodedTrap) (output_intrinsic name)) ≡ Some intrinsic
    → name ≡ name_of intrinsic) [
      | true ↦ λ here same. same_text name (codes "llvm.trap") here ∙ ap (λ x. unwrapped x) same
      | false ↦ λ _ rest. elim (bytes_eq name (codes "llvm.ubsantrap")) as (λ b. bytes_eq name (codes "llvm.ubsantrap") ≡ b
          → cond b (Some CodedTrap) (output_intrinsic name) ≡ Some intrinsic → name ≡ name_of intrinsic) [
            | true ↦ λ here same. same_text name (codes "llvm.ubsantrap") here ∙ ap (λ x. unwrapped x) same
            | false ↦ λ _ last. elim (bytes_eq name (codes "llvm.fshr.i64")) as (λ b. bytes_eq name (codes "llvm.fshr.i64") ≡ b
                → cond b (Some Rotate) None ≡ Some intrinsic → name ≡ name_of intrinsic) [
                  | true ↦ λ here same. same_text name (codes "llvm.fshr.i64") here ∙ ap (λ x. unwrapped x) same
                  | false ↦ λ _ none. absurd (cc)
                ] refl last
          ] refl rest
    ] refl is
  where
    unwrapped : Option Intrinsic → List ℕ
    unwrapped None = []
    unwrapped (Some intrinsic) = name_of intrinsic

module _ (us : Units) where
  -- an instruction that is printed as a call of an intrinsic is one of an intrinsic that the units declare
  abbrev pub IsOfDeclared : Inst → Type 0
  IsOfDeclared (inst.Rotate dst value by) = is_declared_intrinsic us (name_of Rotate) ≡ true
  IsOfDeclared (inst.Trap None) = is_declared_intrinsic us (name_of Trap) ≡ true
  IsOfDeclared (inst.Trap (Some code)) = is_declared_intrinsic us (name_of CodedTrap) ≡ true
  IsOfDeclared _ = Unit {0}

  intrinsic_kept : (file next : ℕ) (dst : Option (List ℕ)) (intrinsic : Intrinsic) (args : List Arg)
      → is_declared_intrinsic us (name_of intrinsic) ≡ true → IsOfDeclared (intrinsic_call us file next dst intrinsic args)
  unfolding intrinsic_call
  intrinsic_kept file next dst Test args is = tt
  intrinsic_kept file next dst CheckedLoad args is = tt
  intrinsic_kept file next dst Assume args is = tt
  intrinsic_kept file next dst Trap args is = is
  intrinsic_kept file next dst CodedTrap args is = is
  intrinsic_kept file next dst Rotate args is = is

  known_kept : (function : Option Head) (intrinsic : Intrinsic) → called_intrinsic true us function ≡ Some intrinsic
      → is_declared_intrinsic us (name_of intrinsic) ≡ true
  known_kept None intrinsic is = absurd (cc)
  known_kept (Some head) intrinsic is =
      elim (is_declared_intrinsic us head.name) as (λ b. is_declared_intrinsic us head.name ≡ b
      → cond b (intrinsic_of true head.name) None ≡ Some intrinsic → is_declared_intrinsic us (name_of intrinsic) ≡ true) [
        | true ↦ λ here same. subst (λ name. is_declared_intrinsic us name ≡ true) (name_is head.name intrinsic same) here
        | false ↦ λ _ none. absurd (cc)
      ] refl is

  call_known : (file next : ℕ) (named : Bool) (dst : Option (List ℕ)) (function : Option Head) (result : Ty) (whole : Option (List Ty))
      (callee : Operand) (args : List Arg) (intrinsic : Option Intrinsic) → called_intrinsic true us function ≡ intrinsic
      → IsOfDeclared (call_of us file next named dst intrinsic function result whole callee args)
  unfolding plain_call
  call_known file next named dst function result whole callee args None is = tt
  call_known file next named dst function result whole callee args (Some intrinsic) is =
      intrinsic_kept file next dst intrinsic args (known_kept function intrinsic is)

  called_known : (file next : ℕ) (named : Bool) (dst : Option (List ℕ)) (result : Ty) (whole : Option (List Ty))
      (callee : Operand) (args : List Arg) → IsOfDeclared (call_kept true us file next named dst result whole callee args)
  unfolding call_kept
  called_known file next named dst result whole callee args =
      call_known file next named dst (called us callee) result whole callee args (called_intrinsic true us (called us callee)) refl

  branch_known : (text : BranchText) → IsOfDeclared (branch_kept us text)
  branch_known (branch.Br to) = tt
  branch_known (branch.CondBr test one other) = tt
  branch_known (branch.Switch ty value other cases) = tt

  end_known : (text : EndText) → IsOfDeclared (end_kept us text)
  end_known end.RetVoid = tt
  end_known (end.Ret ty value) = tt
  end_known end.Unreachable = tt

  abbrev IsOfDeclaredIn : Option Inst → Type 0
  IsOfDeclaredIn None = Unit {0}
  IsOfDeclaredIn (Some i) = IsOfDeclared i

  form_known : (file next : ℕ) (says : Form) → IsOfDeclaredIn (form_kept true us file next says)
  form_known file next (form.BinaryForm dst op ty a b) = tt
  form_known file next (form.CompareForm dst pred ty a b) = tt
  form_known file next (form.SelectForm dst cond_ty test ty a other_ty b) = tt
  form_known file next (form.CastForm dst op from a to) = tt
  form_known file next (form.AddressForm dst ty base index) = tt
  form_known file next (form.LoadForm dst ty addr) = tt
  form_known file next (form.StoreForm ty value addr) = tt
  form_known file next (form.CallForm dst result whole dots callee args bundle) =
      called_known file next (is_named (form.CallForm dst result whole dots callee args bundle)) dst result whole callee args
  form_known file next (form.ExtractForm dst value part) = tt
  form_known file next (form.PhiForm dst ty arms) = tt
  form_known file next (form.BranchForm text) = branch_known text
  form_known file next (form.EndForm text) = end_known text
  form_known file next (form.NumberForm dst value) = tt
  form_known file next _ = tt

  inst_known : (file at : ℕ) (spot : Spot) (says : Form) (i : Inst) → instruction_of true us file at spot says ≡ Some i → IsOfDeclared i
  unfolding instruction_of
  inst_known file at spot says i is = subst IsOfDeclaredIn is (form_known file (opened at spot).next says)

  call_declared : (intrinsic : printed.Intrinsic) (i : Inst) → IsOfDeclared i → is_call intrinsic i ≡ true
      → is_declared_intrinsic us (intrinsic_name intrinsic) ≡ true
  unfolding is_call
  call_declared printed.Intrinsic.Rotation (inst.Rotate dst value by) known is = known
  call_declared printed.Intrinsic.Rotation _ known is = absurd (true≢false (sym is))
  call_declared printed.Intrinsic.Trap (inst.Trap None) known is = known
  call_declared printed.Intrinsic.Trap _ known is = absurd (true≢false (sym is))
  call_declared printed.Intrinsic.CodedTrap (inst.Trap (Some code)) known is = known
  call_declared printed.Intrinsic.CodedTrap _ known is = absurd (true≢false (sym is))

-- the intrinsics that functions call
module _ (us : Units) (of : IsFile us) (file : ℕ) (intrinsic : printed.Intrinsic) where
  abbrev IsDeclared : Type 0
  IsDeclared = is_declared_intrinsic us (intrinsic_name intrinsic) ≡ true

  abbrev block_calls : Block → Bool
  block_calls block = list_any (is_call intrinsic) block.insts

  abbrev calls : Func → Bool
  calls f = list_any block_calls f.blocks

  block_declared : (block : Block) → AllByRecursion (IsOfDeclared us) block.insts → block_calls block ≡ true → IsDeclared
  block_declared block all =
      any_then (is_call intrinsic) block.insts
      (all_of (IsOfDeclared us) (λ i. is_call intrinsic i ≡ true → IsDeclared) (call_declared us intrinsic) block.insts all)

  body_declared : (at : ℕ) (u : Placed TheUnit) → slice_get us at ≡ Some u → standing us at ≡ Outside
      → list_any block_calls (body_blocks true us file at) ≡ true → IsDeclared
  body_declared at u here stands =
      any_then block_calls (body_blocks true us file at)
      (all_of (λ block. AllByRecursion (IsOfDeclared us) block.insts) (λ block. block_calls block ≡ true → IsDeclared) block_declared
      (body_blocks true us file at)
      (insts_inside true us file (IsOfDeclared us) (λ there v spot i _ _ is. inst_known us file there spot v.value.form i is) at u here stands))

  abbrev Declares : Func → Type 0
  Declares f = calls f ≡ true → IsDeclared

  unit_declares : (at : ℕ) (u : Placed TheUnit) → slice_get us at ≡ Some u → (says : Form) → u.value.form ≡ says
      → AllByRecursion Declares (funcs_in true us file at u.place says)
  unit_declares at u here (form.DeclareForm head) is =
      elim (is_intrinsic head.name) as (λ b. AllByRecursion Declares (cond b [] (declared us u.place head ∷ []))) [
        | true ↦ tt
        | false ↦ (λ some. absurd (true≢false (sym some)), tt)
      ]
  unit_declares at u here (form.DefineForm head) is =
      (body_declared at u here (stands_outside us of at u (form.DefineForm head) here is (λ spot. refl)), tt)
  unit_declares at u here _ is = tt

  -- are declared
  pub called_declared : is_called intrinsic (module_of true us file).funcs ≡ true → IsDeclared
  unfolding module_of
  called_declared some =
      any_then calls (funcs_from true us file 0 us)
      (funcs_got true us file Declares (λ at u here. unit_declares at u here u.value.form refl)) some
