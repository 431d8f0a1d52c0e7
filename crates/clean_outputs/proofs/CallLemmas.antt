-- Calls without flaws.
use Rattle.std.proofs.Common.{◌≡◌, refl, ◌∙◌, ap, sym, subst, ℕ, nat_eq, Bool, true, false, not, ◌&&◌, ◌||◌, cond, List, Option, Some, None, is_some, arith}
use Rattle.std.specs.Prelude.{is_none}
use Rattle.std.specs.List.{AllByRecursion}
use Rattle.std.proofs.lemmas.Bool.Decides.{nat_tests}
use Rattle.std.proofs.lemmas.Option.{none-some}
use Rattle.unit_grammar.proofs.BoolLemmas.{or_none, or_first, is_false, not_both}
use Rattle.ir_values.specs.declared.types.Ty.{Ty, out-Ty}
use Rattle.ir_values.specs.declared.types.Ty.TheVariants as ty
use Rattle.ir_values.specs.declared.constants.Const.{Const, out-Const, roll-Const, roll-out-Const}
use Rattle.ir_values.specs.declared.constants.Const.TheVariants as const
use Rattle.ir_values.specs.declared.constants.Const.TheVariants.{rolls-Addr}
use Rattle.ir_values.specs.declared.constants.Const.TheOpen.{Const-F}
use Rattle.ir_values.specs.declared.constants.Operand.{Operand}
use Rattle.ir_values.specs.declared.constants.Operand.TheVariants as operand
use Rattle.ir_values.specs.declared.instructions.Callee.{Callee}
use Rattle.ir_values.specs.declared.instructions.Inst.{Inst}
use Rattle.ir_values.specs.declared.modules.Func.{Func}
use Rattle.ir_values.specs.declared.units.Head.{Head}
use Rattle.ir_values.specs.declared.units.Arg.{Arg}
use Rattle.ir_values.specs.declared.units.Form.TheVariants.{CallForm}
use Rattle.type_grammar.specs.Levels.{levels}
use Rattle.check_bodies.specs.Sorts.{is_void}
use Rattle.check_bodies.specs.Standing.{is_named}
use Rattle.check_bodies.specs.Numbers.{name_or}
use Rattle.check_types.specs.declared.places.Allowed.TheVariants.{Returned}
use Rattle.check_types.specs.Replaced.{replaced}
use Rattle.check_constants.specs.declared.intrinsics.Intrinsic.{Intrinsic}
use Rattle.check_constants.specs.declared.intrinsics.Intrinsic.TheVariants.{Test, CheckedLoad, Assume, Trap, CodedTrap, Rotate}
use Rattle.check_constants.specs.Callees.{global_of, offset_of, callee_of}
use Rattle.check_constants.specs.Intrinsics.{intrinsic_of, is_declared_intrinsic}
use Rattle.check_constants.specs.Judged.{constant_flaw}
use Rattle.check_constants.specs.Kept.{kept}
use Rattle.kept_parts.specs.Called.{is_name, function_of, named_function, called, called_intrinsic}
use Rattle.check_calls.specs.Callees.{is_left_call, callee_flaw}
use Rattle.check_calls.specs.Calls.{call_flaw}
use Rattle.check_calls.specs.Fitting.{is_mistyped}
use Rattle.check_operands.specs.Operands.{operand_flaw, operand_kept}
use Rattle.built_instructions.specs.Arguments.{values_kept, number_at}
use Rattle.built_instructions.specs.Calls.{callee_kept, result_name, plain_call, intrinsic_call, call_of, call_kept}
use Rattle.printed_units.specs.Written.{IsName, IsMaybeName, IsCallee, IsInst}
use Rattle.printed_units.proofs.ListLemmas.{all_joined}
use Rattle.printed_modules.specs.Printed.{IsKeptOperand, callee_operands, is_function, is_called_name, is_function_layer, is_function_operand, IsCalled, IsSet, IsKeptInst}
use Rattle.sized_modules.proofs.UnitLemmas.{Units}
use Rattle.said_units.specs.Sayable.{IsSaidConst, IsSaidOperand, IsSaid}
use Rattle.clean_outputs.proofs.ArgumentLemmas.{args_sound, values_keep, arguments_written, void_word}
use Rattle.clean_outputs.proofs.CalleeLemmas.{IsFunction, called_known}
use Rattle.clean_outputs.proofs.CallFlaws.{IsOutputs, called_outputs, IsFlawless, flawless}
use Rattle.clean_outputs.proofs.ConstLemmas.{address_known}
use Rattle.clean_outputs.proofs.FileLemmas.{IsFile}
use Rattle.clean_outputs.proofs.FunctionsKnown.{KnowsFunctions}
use Rattle.clean_outputs.proofs.IntrinsicCalls.{byte_small, rotation_called, rotated_long, rotation_named}
use Rattle.clean_outputs.proofs.OperandLemmas.{pointer_good}
use Rattle.clean_outputs.proofs.TypeLemmas.{sound_of, returned_at}

-- what is called

pub record IsGoodCallee (funcs : List Func) (target : Callee) : Type 0 where
  pub written : IsCallee target
  pub keeps : AllByRecursion IsKeptOperand (callee_operands target)
  pub calls : IsCalled funcs target

plain_choice : (any : Bool) (intrinsic : Option Intrinsic) → cond any intrinsic None ≡ None → any && is_none intrinsic ≡ false → any ≡ false
plain_choice true None none direct = direct
plain_choice true (Some intrinsic) none direct = absurd (grind arith)
plain_choice false intrinsic none direct = refl

function_good : (us : Units) (funcs : List Func) → KnowsFunctions us funcs → (function : Head) → IsFunction us function.name function
    → called_intrinsic true us (Some function) ≡ None → is_left_call true us (Some function) ≡ false
    → IsGoodCallee funcs (Callee.Function function.name)
function_good us funcs known function is none direct =
    let plain = plain_choice (is_declared_intrinsic us function.name) (intrinsic_of true function.name) none direct in
    record {
      written = is.printed;
      keeps = tt;
      calls = known.has function.name (record { own = function; is = is.is; plain = plain });
    }

-- a constant that comes to the address of a global, but calls no function
module _ (us : Units) (funcs : List Func) (known : KnowsFunctions us funcs) (constant : Const)
    (none : called us (operand.Const constant) ≡ None) where
  unfound : (may : Bool) (found : Option Head) → may ≡ true → cond may found None ≡ None → found ≡ None
  unfound true found may is = is
  unfound false found may is = absurd (grind arith)

  no_function : (name : List ℕ) → global_of constant ≡ Some name → offset_of us constant ≡ 0 → is_declared_intrinsic us name ≡ false
      → function_of us name ≡ None
  no_function name global by plain =
      let callee : callee_of us constant ≡ Some name = ap (λ from. cond (nat_eq from 0) (global_of constant) None) by ∙ global in
      let whole = not (is_declared_intrinsic us name) in
      unfound (whole || is_name (out-Const constant)) (function_of us name) (or_first whole (is_name (out-Const constant)) (ap not plain))
      (ap (named_function us constant) (sym callee) ∙ none)

  not_called : (name : List ℕ) → global_of constant ≡ Some name → offset_of us constant ≡ 0 → is_declared_intrinsic us name ≡ false
      → is_function funcs name || is_called_name funcs name ≡ false
  not_called name global by plain =
      or_none (is_function funcs name) (is_called_name funcs name)
      (is_false (is_function funcs name) (λ is. let own = known.only name is in
      none-some own.own (sym (no_function name global by plain) ∙ own.is)))
      (is_false (is_called_name funcs name) (λ is. not_both (is_declared_intrinsic us name) (known.intrinsics name is) plain))

  -- an address that is kept
  address_other : (of : IsFile us) → IsSaidConst ty.Ptr constant → constant_flaw true us false (Some ty.Ptr) constant ≡ None
      → (name : List ℕ) (offset : ℕ) → kept us (Some ty.Ptr) constant ≡ const.Addr name offset → (whole : Bool) → nat_eq offset 0 ≡ whole
      → whole && (is_function funcs name || is_called_name funcs name) ≡ false
  address_other of said clean name offset is true whole =
      let comes = address_known us levels constant name offset said clean is in
      not_called name comes.global (comes.by ∙ nothing offset whole) comes.plain where
        nothing : (n : ℕ) → nat_eq n 0 ≡ true → n ≡ 0
        nothing n is = grind (arith, nat_tests)
  address_other of said clean name offset is false whole = refl

  layer_other : (of : IsFile us) → IsSaidConst ty.Ptr constant → constant_flaw true us false (Some ty.Ptr) constant ≡ None
      → (layer : Const-F Const Operand) → out-Const (kept us (Some ty.Ptr) constant) ≡ layer → is_function_layer funcs layer ≡ false
  layer_other of said clean (Const-F.Addr name offset) opens =
      let own = kept us (Some ty.Ptr) constant in
      let is : own ≡ const.Addr name offset = sym (roll-out-Const own) ∙ ap roll-Const opens ∙ rolls-Addr name offset in
      address_other of said clean name offset is (nat_eq offset 0) refl
  layer_other of said clean _ opens = refl

  constant_other : (of : IsFile us) → IsSaidConst ty.Ptr constant → constant_flaw true us false (Some ty.Ptr) constant ≡ None
      → is_function_layer funcs (out-Const (kept us (Some ty.Ptr) constant)) ≡ false
  constant_other of said clean = layer_other of said clean (out-Const (kept us (Some ty.Ptr) constant)) refl

value_other : (us : Units) → IsFile us → (funcs : List Func) → KnowsFunctions us funcs → (at : ℕ) (callee : Operand) → called us callee ≡ None
    → IsSaidOperand ty.Ptr callee → operand_flaw true us false at ty.Ptr callee ≡ None
    → is_function_operand funcs (operand_kept us ty.Ptr callee) ≡ false
value_other us of funcs known at (operand.Reg name) none said clean = refl
value_other us of funcs known at (operand.Const constant) none said clean = constant_other us funcs known constant none of said clean

callee_good : (us : Units) → IsFile us → (funcs : List Func) → KnowsFunctions us funcs → (at : ℕ) (callee : Operand) (function : Option Head)
    → called us callee ≡ function → called_intrinsic true us function ≡ None → is_left_call true us function ≡ false
    → callee_flaw true us at function callee ≡ None → IsSaidOperand ty.Ptr callee → IsGoodCallee funcs (callee_kept us function callee)
callee_good us of funcs known at callee None calls none direct clean said =
    let good = pointer_good us of at callee said clean in
    record { written = good.0; keeps = (good.1, tt); calls = value_other us of funcs known at callee calls said clean }
callee_good us of funcs known at callee (Some function) calls none direct clean said =
    function_good us funcs known function (called_known us of callee function calls) none direct

-- the register of a result

maybe_named : (next : ℕ) (dst : Option (List ℕ)) (named : Bool) → (named ≡ true → IsName (name_or next dst))
    → IsMaybeName (result_name next named dst)
maybe_named next dst true names = names refl
maybe_named next dst false names = tt

no_result : (dst : Option (List ℕ)) (void : Bool) → is_some dst || not void ≡ false → void ≡ true
no_result dst true none = refl
no_result (Some name) false none = absurd (grind arith)
no_result None false none = absurd (grind arith)

sets : (next : ℕ) (dst : Option (List ℕ)) (result own : Ty) → (is_void (out-Ty result) ≡ true → own ≡ ty.Void) → (named : Bool)
    → is_some dst || not (is_void (out-Ty result)) ≡ named → IsSet (result_name next named dst) own
sets next dst result own void true is = tt
sets next dst result own void false is = void (no_result dst (is_void (out-Ty result)) is)

-- a call, by what it calls
abbrev IsGoodInst : List Func → Inst → Type 0
IsGoodInst funcs i = IsInst i × IsKeptInst funcs i

module _ (us : Units) (of : IsFile us) (funcs : List Func) (known : KnowsFunctions us funcs) (file at next : ℕ) (dst : Option (List ℕ))
    (result : Ty) (whole : Option (List Ty)) (dots : Bool) (callee : Operand) (args : List Arg) (bundle : Bool)
    (said : IsSaid (CallForm dst result whole dots callee args bundle)) where
  -- it has a result
  abbrev gives : Bool
  gives = is_some dst || not (is_void (out-Ty result))

  -- a call of a function or through a pointer
  plain_good : (function : Option Head) → called us callee ≡ function → called_intrinsic true us function ≡ None
      → IsFlawless us at function None result whole dots callee args → (gives ≡ true → IsName (name_or next dst))
      → IsGoodInst funcs (plain_call us next gives dst function result whole callee args)
  unfolding plain_call
  plain_good function calls none good names =
      let target = callee_good us of funcs known at callee function calls none good.direct good.calls said.3 in
      let are = args_sound us of at None (λ place. refl) 0 args said.4 good.arguments in
      let typed = subst (λ d. is_mistyped us d whole args ≡ false) good.dotless good.typed in
      let fits = arguments_written us of whole args said.2 good.types are typed in
      let void = void_word us of result (sound_of us Returned result refl said.1 good.returned) in (
        (maybe_named next dst gives names, returned_at us of result said.1 good.returned, target.written, fits),
        record {
          operands = all_joined IsKeptOperand (callee_operands (callee_kept us function callee)) (values_kept us args) target.keeps
              (values_keep us args are);
          calls = (sets next dst result (replaced us result) void gives refl, target.calls);
        },
      )

  rotation_good : (function : Option Head) → called us callee ≡ function → called_intrinsic true us function ≡ Some Rotate
      → IsFlawless us at function (Some Rotate) result whole dots callee args → (gives ≡ true → IsName (name_or next dst))
      → IsGoodInst funcs (intrinsic_call us file next dst Rotate args)
  unfolding intrinsic_call
  rotation_good None calls is good names = absurd (none-some Rotate is)
  rotation_good (Some function) calls is good names =
      let rotates = rotation_called us of function (called_known us of callee function calls) is in
      let are = args_sound us of at (Some Rotate) (λ place. refl) 0 args said.4 good.arguments in
      let typed = subst (λ d. is_mistyped us d whole args ≡ false) good.dotless good.typed in
      let long = rotated_long us of function rotates dots result whole args good.fits said.2 good.types are typed in
      let sound = sound_of us Returned result refl said.1 good.returned in
      let has = rotation_named us of function rotates dots result whole args good.fits dst sound in
      ((names has, long.0, byte_small (number_at us args 2)), record { operands = (long.1, tt); calls = tt })

  found_good : (function : Option Head) → called us callee ≡ function → (intrinsic : Option Intrinsic) → called_intrinsic true us function ≡ intrinsic
      → IsOutputs intrinsic → IsFlawless us at function intrinsic result whole dots callee args → (gives ≡ true → IsName (name_or next dst))
      → IsGoodInst funcs (call_of us file next gives dst intrinsic function result whole callee args)
  unfolding intrinsic_call
  found_good function calls None is outputs good names = plain_good function calls is good names
  found_good function calls (Some Trap) is outputs good names = (tt, record { operands = tt; calls = tt })
  found_good function calls (Some CodedTrap) is outputs good names = (byte_small (number_at us args 0), record { operands = tt; calls = tt })
  found_good function calls (Some Rotate) is outputs good names = rotation_good function calls is good names
  found_good function calls (Some Test) is outputs good names = absurd outputs
  found_good function calls (Some CheckedLoad) is outputs good names = absurd outputs
  found_good function calls (Some Assume) is outputs good names = absurd outputs

-- the call that a unit becomes, where the register of its result, if it has one, can be printed
pub call_good : (us : Units) → IsFile us → (funcs : List Func) → KnowsFunctions us funcs → (file at next : ℕ) (dst : Option (List ℕ)) (result : Ty)
    (whole : Option (List Ty)) (dots : Bool) (callee : Operand) (args : List Arg) (bundle : Bool)
    → IsSaid (CallForm dst result whole dots callee args bundle) → call_flaw true us at dst result whole dots callee args bundle ≡ None
    → (is_named (CallForm dst result whole dots callee args bundle) ≡ true → IsName (name_or next dst))
    → IsInst (call_kept true us file next (is_named (CallForm dst result whole dots callee args bundle)) dst result whole callee args)
    × IsKeptInst funcs (call_kept true us file next (is_named (CallForm dst result whole dots callee args bundle)) dst result whole callee args)
unfolding call_kept
call_good us of funcs known file at next dst result whole dots callee args bundle said none named =
    let function = called us callee in
    found_good us of funcs known file at next dst result whole dots callee args bundle said function refl (called_intrinsic true us function) refl
    (called_outputs us function) (flawless us at dst result whole dots callee args bundle none) named
