-- Calls that are read again are kept as they were.
use Rattle.std.proofs.Common.{◌≡◌, refl, ap, ◌∙◌, ℕ, nat_eq, Bool, true, false, not, ◌&&◌, ◌||◌, cond, List, [], ◌∷◌, ◌++◌, Option, Some, None, is_some, arith}
use Rattle.std.specs.List.{AllByRecursion, AllZip}
use Rattle.ir_values.specs.declared.types.Width.{Width}
use Rattle.ir_values.specs.declared.types.FuncTy.{FuncTy}
use Rattle.ir_values.specs.declared.types.Ty.{Ty, out-Ty}
use Rattle.ir_values.specs.declared.types.Ty.TheVariants as ty
use Rattle.ir_values.specs.declared.types.Ty.TheVariants.{outs-Void}
use Rattle.ir_values.specs.declared.constants.Const.{Const, out-Const}
use Rattle.ir_values.specs.declared.constants.Const.TheVariants as const
use Rattle.ir_values.specs.declared.constants.Const.TheVariants.{rolls-Int, outs-Addr}
use Rattle.ir_values.specs.declared.constants.Const.TheOpen.{Const-F}
use Rattle.ir_values.specs.declared.constants.Operand.{Operand}
use Rattle.ir_values.specs.declared.constants.Operand.TheVariants as operand
use Rattle.ir_values.specs.declared.instructions.Callee.{Callee}
use Rattle.ir_values.specs.declared.instructions.Inst.TheVariants as inst
use Rattle.ir_values.specs.declared.modules.Module.{Module}
use Rattle.ir_values.specs.declared.units.Head.{Head}
use Rattle.ir_values.specs.declared.units.Arg.{Arg}
use Rattle.unit_grammar.proofs.BoolLemmas.{or_neither, or_second}
use Rattle.type_grammar.specs.Levels.{levels}
use Rattle.check_names.specs.Reserved.{is_intrinsic}
use Rattle.check_names.specs.Spaces.{first_unit}
use Rattle.check_names.specs.declared.spaces.Space.TheVariants.{Globals}
use Rattle.check_bodies.specs.Sorts.{is_void}
use Rattle.check_constants.specs.declared.intrinsics.Intrinsic as reader
use Rattle.check_constants.specs.Intrinsics.{intrinsic_of, is_declared_intrinsic, is_declaration, declares}
use Rattle.check_constants.specs.Kept.{kept}
use Rattle.kept_parts.specs.Called.{is_name, may_call, function_of, function_head, unit_function, named_function, called, called_intrinsic}
use Rattle.built_instructions.specs.Arguments.{values_kept, types_kept}
use Rattle.built_instructions.specs.Calls.{function_type, callee_kept, result_name, plain_call, intrinsic_call, call_of, call_kept}
use Rattle.printed_units.specs.Written.{IsTy, IsOperand, IsArgument, IsCallee}
use Rattle.printed_units.specs.Said.{global_said, callee_said, operand_said, const_said, args_said}
use Rattle.printed_modules.specs.Printed.{is_function, is_called_name, is_function_layer, IsCalled, IsSet, IsKeptOperand, callee_operands}
use Rattle.printed_units.proofs.WrittenLemmas.{ptr_is_ty}
use Rattle.printed_modules.proofs.Callees.{Knows, HasIntrinsic}
use Rattle.printed_modules.proofs.TypeKept.{Units, ty_replaced}
use Rattle.printed_modules.proofs.WeighedLemmas.{callee_of_address}
use Rattle.printed_modules.proofs.ConstKept.{operand_again, callee_again, name_in, kept_rolled}

pub integer_again : (us : Units) (at : Option Ty) (width : Width) (n : ℕ) → kept us at (const.Int width n) ≡ const.Int width n
integer_again us at width n = kept_rolled us at (const.Int width n) (Const-F.Int width n) (rolls-Int width n)

-- arguments

args_again : (us : Units) (types : List Ty) (values : List Operand) → AllZip IsArgument types values → AllByRecursion IsKeptOperand values
    → values_kept us (args_said types values) ≡ values
args_again us [] [] are kept_are = refl
args_again us (type ∷ types) (value ∷ values) are kept_are =
    ap (λ first. first ∷ values_kept us (args_said types values)) (operand_again us type value are.0.0 are.0.1 kept_are.0)
    ∙ ap (λ rest. value ∷ rest) (args_again us types values are.1 kept_are.1)
args_again us _ _ are kept_are = absurd are

types_again : (us : Units) (types : List Ty) (values : List Operand) → AllZip IsArgument types values
    → types_kept us (args_said types values) ≡ types
types_again us [] [] are = refl
types_again us (type ∷ types) (value ∷ values) are =
    ap (λ first. first ∷ types_kept us (args_said types values)) (ty_replaced us levels type are.0.0)
    ∙ ap (λ rest. type ∷ rest) (types_again us types values are.1)
types_again us _ _ are = absurd are

type_again : (us : Units) (fty : FuncTy) (values : List Operand) → IsTy fty.result → AllZip IsArgument fty.params values
    → function_type us fty.result None (args_said fty.params values) ≡ fty
type_again us fty values result are =
    ap (λ (own : Ty). record { result = own; params = types_kept us (args_said fty.params values) }) (ty_replaced us levels fty.result result)
    ∙ ap (λ (types : List Ty). record { result = fty.result; params = types }) (types_again us fty.params values are)

-- a call that sets no register is of type `void`
result_again : (next : ℕ) (dst : Option (List ℕ)) (result : Ty) → IsSet dst result
    → result_name next (is_some dst || not (is_void (out-Ty result))) dst ≡ dst
result_again next None result is =
    ap (λ void. result_name next (not void) None) (ap (λ t. is_void (out-Ty t)) is ∙ ap is_void outs-Void)
result_again next (Some name) result is = refl

-- what is called

no_function : (may : Bool) (head : Option Head) → head ≡ None → cond may head None ≡ None
no_function true head none = none
no_function false head none = refl

name_calls : (us : Units) (name : List ℕ) → may_call us (const.Addr name 0) name ≡ true
name_calls us name =
    let no_intrinsic = not (is_declared_intrinsic us name) in
    ap (λ layer. no_intrinsic || is_name layer) (outs-Addr name 0) ∙ or_second no_intrinsic true refl

named_called : (us : Units) (name : List ℕ) → called us (global_said name) ≡ function_of us name
named_called us name =
    ap (named_function us (const.Addr name 0)) (callee_of_address us name 0 (omega arith))
    ∙ ap (λ may. cond may (function_of us name) None) (name_calls us name)

other_called : (us : Units) (m : Module) (constant : Const) (name : List ℕ) (whole : Bool) → Knows us m
    → whole && (is_function m.funcs name || is_called_name m.funcs name) ≡ false → named_function us constant (cond whole (Some name) None) ≡ None
other_called us m constant name true knows is =
    let neither = or_neither (is_function m.funcs name) (is_called_name m.funcs name) is in
    no_function (may_call us constant name) (function_of us name) (knows.others name neither.0 neither.1)
other_called us m constant name false knows is = refl

layer_called : (us : Units) (m : Module) (constant : Const) (layer : Const-F Const Operand) → Knows us m
    → is_function_layer m.funcs layer ≡ false → named_function us constant (name_in layer) ≡ None
layer_called us m constant (Const-F.Addr name offset) knows is = other_called us m constant name (nat_eq offset 0) knows is
layer_called us m constant _ knows is = refl

-- a pointer that is no function's name is called through
value_called : (us : Units) (m : Module) (value : Operand) → Knows us m → IsOperand ty.Ptr value → IsCalled m.funcs (Callee.Value value)
    → called us (operand_said ty.Ptr value) ≡ None
value_called us m (operand.Reg name) knows is other = refl
value_called us m (operand.Const constant) knows is other =
    ap (named_function us (const_said ty.Ptr constant)) (callee_again us levels constant is)
    ∙ layer_called us m (const_said ty.Ptr constant) (out-Const constant) knows other

-- calls of functions and through pointers

plain_again : (us : Units) (file next : ℕ) (dst : Option (List ℕ)) (fty : FuncTy) (callee : Callee) (args : List Operand) (said : Operand)
    (function : Option Head) → IsSet dst fty.result → IsTy fty.result → AllZip IsArgument fty.params args → AllByRecursion IsKeptOperand args
    → called us said ≡ function → called_intrinsic true us function ≡ None → callee_kept us function said ≡ callee
    → call_kept true us file next (is_some dst || not (is_void (out-Ty fty.result))) dst fty.result None said (args_said fty.params args)
    ≡ inst.Call dst fty callee args
unfolding call_kept plain_call
plain_again us file next dst fty callee args said function set result are kept_are calls plain same =
    let arguments = args_said fty.params args in
    let named = is_some dst || not (is_void (out-Ty fty.result)) in
    ap (λ f. call_of us file next named dst (called_intrinsic true us f) f fty.result None said arguments) calls
    ∙ ap (λ intrinsic. call_of us file next named dst intrinsic function fty.result None said arguments) plain
    ∙ ap (λ r. inst.Call r (function_type us fty.result None arguments) (callee_kept us function said) (values_kept us arguments))
    (result_again next dst fty.result set)
    ∙ ap (λ t. inst.Call dst t (callee_kept us function said) (values_kept us arguments)) (type_again us fty args result are)
    ∙ ap (λ c. inst.Call dst fty c (values_kept us arguments)) same
    ∙ ap (inst.Call dst fty callee) (args_again us fty.params args are kept_are)

plain_function : (us : Units) (head : Head) (name : List ℕ) → head.name ≡ name → is_intrinsic name ≡ false
    → called_intrinsic true us (Some head) ≡ None
plain_function us head name named plain =
    ap (λ n. cond (is_declared_intrinsic us n) (intrinsic_of true n) None) named
    ∙ ap (λ any. cond (any && declares (first_unit Globals name us)) (intrinsic_of true name) None) plain

pub call_again : (us : Units) (m : Module) (file next : ℕ) (dst : Option (List ℕ)) (fty : FuncTy) (callee : Callee) (args : List Operand)
    → Knows us m → IsSet dst fty.result → IsCalled m.funcs callee → IsTy fty.result → IsCallee callee → AllZip IsArgument fty.params args
    → AllByRecursion IsKeptOperand (callee_operands callee ++ args)
    → call_kept true us file next (is_some dst || not (is_void (out-Ty fty.result))) dst fty.result None (callee_said callee)
    (args_said fty.params args) ≡ inst.Call dst fty callee args
call_again us m file next dst fty (Callee.Function name) args knows set is result written are kept_are =
    let has = knows.functions name is in
    plain_again us file next dst fty (Callee.Function name) args (global_said name) (Some has.head) set result are kept_are
    (named_called us name ∙ has.is) (plain_function us has.head name has.named (knows.plain name is)) (ap Callee.Function has.named)
call_again us m file next dst fty (Callee.Value value) args knows set is result written are kept_are =
    plain_again us file next dst fty (Callee.Value value) args (operand_said ty.Ptr value) None set result are kept_are.1
    (value_called us m value knows written is) refl (ap Callee.Value (operand_again us ty.Ptr value ptr_is_ty written kept_are.0))

-- calls of intrinsics

pub intrinsic_called : (us : Units) (name : List ℕ) (found : reader.Intrinsic) → is_intrinsic name ≡ true → intrinsic_of true name ≡ Some found
    → HasIntrinsic us name → called_intrinsic true us (called us (global_said name)) ≡ Some found
intrinsic_called us name found is of has =
    let function = named_called us name ∙ ap unit_function has.first ∙ ap function_head has.declares in
    let declared = ap (λ u. is_intrinsic name && declares u) has.first ∙ ap (λ any. any && is_declaration has.u.value.form) is
    ∙ ap is_declaration has.declares in
    ap (called_intrinsic true us) function
    ∙ ap (λ n. cond (is_declared_intrinsic us n) (intrinsic_of true n) None) has.named
    ∙ ap (λ any. cond any (intrinsic_of true name) None) declared ∙ of

pub intrinsic_kept : (us : Units) (file next : ℕ) (named : Bool) (dst : Option (List ℕ)) (result : Ty) (said : Operand) (args : List Arg)
    (found : reader.Intrinsic) → called_intrinsic true us (called us said) ≡ Some found
    → call_kept true us file next named dst result None said args ≡ intrinsic_call us file next dst found args
unfolding call_kept
intrinsic_kept us file next named dst result said args found is =
    ap (λ intrinsic. call_of us file next named dst intrinsic (called us said) result None said args) is
