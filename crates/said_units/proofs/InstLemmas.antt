-- What instructions say.
use Rattle.std.proofs.Common.{◌≡◌, ℕ, suc, nat_lt, true, List, [], ◌∷◌, length, map, All, Option, Some, None, arith}
use Rattle.std.specs.Prelude.{IfSome}
use Rattle.std.specs.List.{AllByRecursion}
use Rattle.std.proofs.lemmas.List.Elements.{recursion_from_All}
use Rattle.std.proofs.lemmas.Bool.Decides.{nat_tests}
use Rattle.ir_lex.specs.declared.token.Kind.TheVariants.{Local}
use Rattle.ir_values.specs.declared.types.Ty.{Ty, out-Ty}
use Rattle.ir_values.specs.declared.types.Ty.TheVariants.{Void, Int, Ptr, Pair}
use Rattle.ir_values.specs.declared.types.Width.TheVariants.{W1}
use Rattle.ir_values.specs.declared.constants.Operand.{Operand}
use Rattle.ir_values.specs.declared.units.Form.{Form}
use Rattle.ir_values.specs.declared.units.Form.TheVariants.{BinaryForm, CompareForm, SelectForm, CastForm, AddressForm, LoadForm, CallForm, ExtractForm, PhiForm, NumberForm}
use Rattle.type_grammar.specs.Levels.{IsAt, levels}
use Rattle.instruction_grammar.specs.declared.bare_operand.BareOperand.{BareOperand}
use Rattle.instruction_grammar.specs.Operations.{binary, compare, two_next_values, select, new_type, cast, indices, base_and_indices, address}
use Rattle.instruction_grammar.specs.Memory.{accessed, load, store, extract, arm_end, arm, arms, arm_at, phi, number}
use Rattle.instruction_grammar.specs.Branches.{jump, two_targets, fork, branch_text, branch, case_part, cases, switch_targets, switch, void_return_of, void_return, value_return, return_text, return_part, unreachable}
use Rattle.instruction_grammar.specs.Actions.{action_body, action, plain_action_body, plain_action, with_result}
use Rattle.printed_units.specs.Written.{IsBytes}
use Rattle.sized_modules.proofs.PartLemmas.{Gives, token_gives, skip_gives, both_give, first_gives, second_gives, always_gives, says_gives, before_gives, or_gives, maybe_gives, many_give}
use Rattle.said_units.specs.Sayable.{IsSaidTy, IsSaidTyWithin, IsSaidOperand, IsSaidValue, IsSaidArm, IsSaidCase, IsSaidBranch, IsSaidEnd, IsSaid}
use Rattle.said_units.proofs.TokenLemmas.{IsByteToken, name_is_bytes}
use Rattle.said_units.proofs.TypeLemmas.{type_gives, value_type_gives}
use Rattle.said_units.proofs.ConstLemmas.{IsSaidBare, constant_gives}
use Rattle.said_units.proofs.OperandLemmas.{IsSaidBareOperand, value_gives, typed_value_gives, next_typed_value_gives, typed_pair_gives, pointer_gives, target_gives, next_target_gives}
use Rattle.said_units.proofs.CallLemmas.{call_gives}

-- a form that is given the name of its result
pub result_said : (name : List ℕ) (unit : Form) → IsBytes name → IsSaid unit → IsSaid (with_result name unit)
result_said name (BinaryForm dst op ty a b) bytes said = (bytes, said.1, said.2, said.3)
result_said name (CompareForm dst pred ty a b) bytes said = (bytes, said.1, said.2, said.3)
result_said name (SelectForm dst test_ty test ty a other_ty b) bytes said = (bytes, said.1, said.2, said.3)
result_said name (CastForm dst op from a to) bytes said = (bytes, said.1, said.2, said.3)
result_said name (AddressForm dst ty base index) bytes said = (bytes, said.1, said.2, said.3)
result_said name (LoadForm dst ty addr) bytes said = (bytes, said.1, said.2)
result_said name (CallForm dst result whole dots callee args bundle) bytes said = (bytes, said.1, said.2, said.3, said.4)
result_said name (ExtractForm dst value part) bytes said = (bytes, said.1)
result_said name (PhiForm dst ty each) bytes said = (bytes, said.1, said.2, said.3)
result_said name (NumberForm dst value) bytes said = (bytes, said.1)
result_said name unit bytes said = said

-- operations, comparisons, selections, casts and addresses

abbrev AreSaidBoth : Ty × (Operand × Operand) → Type 0
AreSaidBoth x = IsSaidTy x.0 × IsSaidOperand x.0 x.1.0 × IsSaidOperand x.0 x.1.1

binary_gives : Gives IsByteToken (IsAt levels) binary IsSaid
unfolding binary
binary_gives =
    says_gives (λ x. AreSaidBoth x.1.1) (second_gives {Q = λ x. AreSaidBoth x.1} (second_gives {Q = AreSaidBoth} typed_pair_gives))
    (λ ts x has. (tt, has.0, has.1, has.2))

compare_gives : Gives IsByteToken (IsAt levels) compare IsSaid
unfolding compare
compare_gives =
    says_gives (λ x. AreSaidBoth x.1.1)
    (skip_gives (second_gives {Q = λ x. AreSaidBoth x.1} (second_gives {Q = AreSaidBoth} typed_pair_gives)))
    (λ ts x has. (tt, has.0, has.1, has.2))

select_gives : Gives IsByteToken (IsAt levels) select IsSaid
unfolding select two_next_values
select_gives =
    says_gives (λ x. IsSaidValue x.0 × (IsSaidValue x.1.0 × IsSaidValue x.1.1))
    (skip_gives (both_give {P = IsSaidValue} {Q = λ x. IsSaidValue x.0 × IsSaidValue x.1} typed_value_gives
    (both_give {P = IsSaidValue} {Q = IsSaidValue} next_typed_value_gives next_typed_value_gives)))
    (λ ts x has. (tt, has.0, has.1.0, has.1.1))

cast_gives : Gives IsByteToken (IsAt levels) cast IsSaid
unfolding cast new_type
cast_gives =
    says_gives (λ x. IsSaidValue x.1.1.0 × IsSaidTyWithin levels x.1.1.1)
    (second_gives {Q = λ x. IsSaidValue x.1.0 × IsSaidTyWithin levels x.1.1} (second_gives {Q = λ x. IsSaidValue x.0 × IsSaidTyWithin levels x.1}
    (both_give {P = IsSaidValue} {Q = IsSaidTyWithin levels} typed_value_gives (skip_gives (type_gives levels)))))
    (λ ts x has. (tt, has.0.0, has.0.1, has.1))

indices_give : Gives IsByteToken (IsAt levels) indices (All IsSaidValue)
unfolding indices
indices_give = many_give {P = IsSaidValue} next_typed_value_gives

address_gives : Gives IsByteToken (IsAt levels) address IsSaid
unfolding address base_and_indices
address_gives =
    says_gives (λ x. IsSaidTyWithin levels x.1.0 × (IsSaidOperand Ptr x.1.1.0 × All IsSaidValue x.1.1.1))
    (skip_gives (second_gives {Q = λ x. IsSaidTyWithin levels x.0 × (IsSaidOperand Ptr x.1.0 × All IsSaidValue x.1.1)}
    (both_give {P = IsSaidTyWithin levels} {Q = λ x. IsSaidOperand Ptr x.0 × All IsSaidValue x.1} (type_gives levels)
    (skip_gives (both_give {P = IsSaidOperand Ptr} {Q = All IsSaidValue} pointer_gives indices_give)))))
    (λ ts x has. (tt, has.0, has.1.0, recursion_from_All IsSaidValue x.1.1.1 has.1.1))

-- loads, stores, extractions and phis

accessed_gives : Gives IsByteToken (IsAt levels) accessed (IsSaidOperand Ptr)
unfolding accessed
accessed_gives =
    says_gives (λ x. IsSaidOperand Ptr x.0) (skip_gives (first_gives {P = IsSaidOperand Ptr} pointer_gives)) (λ ts x has. has)

load_gives : Gives IsByteToken (IsAt levels) load IsSaid
unfolding load
load_gives =
    says_gives (λ x. IsSaidTyWithin levels x.0 × IsSaidOperand Ptr x.1)
    (skip_gives (both_give {P = IsSaidTyWithin levels} {Q = IsSaidOperand Ptr} (type_gives levels) accessed_gives))
    (λ ts x has. (tt, has.0, has.1))

store_gives : Gives IsByteToken (IsAt levels) store IsSaid
unfolding store
store_gives =
    says_gives (λ x. IsSaidValue x.0 × IsSaidOperand Ptr x.1)
    (skip_gives (both_give {P = IsSaidValue} {Q = IsSaidOperand Ptr} typed_value_gives accessed_gives))
    (λ ts x has. (has.0.0, has.0.1, has.1))

extract_gives : Gives IsByteToken (IsAt levels) extract IsSaid
unfolding extract
extract_gives =
    says_gives (λ x. IsSaidBareOperand x.1.0)
    (skip_gives (second_gives {Q = λ x. IsSaidBareOperand x.0} (first_gives {P = IsSaidBareOperand} value_gives)))
    (λ ts x has. (tt, has Pair))

-- an arm before the type of the phi is known
abbrev IsSaidBareArm : BareOperand × List ℕ → Type 0
IsSaidBareArm x = IsSaidBareOperand x.0 × IsBytes x.1

arm_gives : Gives IsByteToken (IsAt levels) arm IsSaidBareArm
unfolding arm arm_end
arm_gives =
    skip_gives (both_give {P = IsSaidBareOperand} {Q = IsBytes} value_gives
    (skip_gives (before_gives {P = IsBytes} (token_gives {P = IsBytes} (name_is_bytes Local)))))

-- there is a first arm
abbrev AreSaidArms : List (BareOperand × List ℕ) → Type 0
AreSaidArms xs = (nat_lt 0 (length xs) ≡ true) × AllByRecursion IsSaidBareArm xs

arms_give : Gives IsByteToken (IsAt levels) arms AreSaidArms
unfolding arms
arms_give =
    says_gives (λ x. IsSaidBareArm x.0 × All IsSaidBareArm x.1)
    (both_give {P = IsSaidBareArm} {Q = All IsSaidBareArm} arm_gives (many_give {P = IsSaidBareArm} (skip_gives arm_gives)))
    (λ ts x has. (some (length x.1), (has.0, recursion_from_All IsSaidBareArm x.1 has.1)))
  where
    some : (n : ℕ) → nat_lt 0 (suc n) ≡ true
    some n = grind (arith, nat_tests)

-- the arms at the type of the phi

arms_said : (type : Ty) (xs : List (BareOperand × List ℕ)) → AllByRecursion IsSaidBareArm xs → AllByRecursion (IsSaidArm type) (map (arm_at type) xs)
arms_said type [] has = tt
arms_said type (x ∷ xs) has = ((has.0.0 type, has.0.1), arms_said type xs has.1)

arms_some : (type : Ty) (xs : List (BareOperand × List ℕ)) → nat_lt 0 (length xs) ≡ true → nat_lt 0 (length (map (arm_at type) xs)) ≡ true
arms_some type [] some = some
arms_some type (x ∷ xs) some = grind (arith, nat_tests)

phi_gives : Gives IsByteToken (IsAt levels) phi IsSaid
unfolding phi
phi_gives =
    says_gives (λ x. IsSaidTyWithin levels x.0 × AreSaidArms x.1)
    (skip_gives (both_give {P = IsSaidTyWithin levels} {Q = AreSaidArms} (type_gives levels) arms_give))
    (λ ts x has. (tt, has.0, arms_some x.0 x.1 has.1.0, arms_said x.0 x.1 has.1.1))

-- branches and the ends of functions

branch_gives : Gives IsByteToken (IsAt levels) branch IsSaid
unfolding branch branch_text jump fork two_targets
branch_gives =
    says_gives IsSaidBranch
    (skip_gives (or_gives
    (says_gives IsBytes target_gives (λ ts to has. has))
    (says_gives (λ x. IsSaidBareOperand x.0 × (IsBytes x.1.0 × IsBytes x.1.1))
    (skip_gives (both_give {P = IsSaidBareOperand} {Q = λ x. IsBytes x.0 × IsBytes x.1} value_gives
    (both_give {P = IsBytes} {Q = IsBytes} next_target_gives next_target_gives)))
    (λ ts x has. (has.0 (Int W1), has.1.0, has.1.1)))))
    (λ ts x has. has)

case_gives : Gives IsByteToken (IsAt levels) case_part IsSaidCase
unfolding case_part
case_gives =
    says_gives (λ x. IsSaidTyWithin levels x.0 × (IsSaidBare levels x.1.0 × IsBytes x.1.1))
    (both_give {P = IsSaidTyWithin levels} {Q = λ x. IsSaidBare levels x.0 × IsBytes x.1} (type_gives levels)
    (both_give {P = IsSaidBare levels} {Q = IsBytes} (constant_gives levels) next_target_gives))
    (λ ts x has. (has.0, has.1.0 x.0, has.1.1))

cases_give : Gives IsByteToken (IsAt levels) cases (All IsSaidCase)
unfolding cases
cases_give = many_give {P = IsSaidCase} case_gives

switch_gives : Gives IsByteToken (IsAt levels) switch IsSaid
unfolding switch switch_targets
switch_gives =
    says_gives (λ x. IsSaidValue x.0 × (IsBytes x.1.0 × All IsSaidCase x.1.1))
    (skip_gives (both_give {P = IsSaidValue} {Q = λ x. IsBytes x.0 × All IsSaidCase x.1} typed_value_gives
    (both_give {P = IsBytes} {Q = All IsSaidCase} next_target_gives (skip_gives (before_gives {P = All IsSaidCase} cases_give)))))
    (λ ts x has. (has.0.0, has.0.1, has.1.0, recursion_from_All IsSaidCase x.1.1 has.1.1))

void_said : IsSaidTy Void
unfolding levels out-Ty denote.Hole.Carrier.out
void_said = tt

void_return_said : (bare : Option BareOperand) → IfSome bare IsSaidBareOperand → IsSaidEnd (void_return_of bare)
void_return_said None has = tt
void_return_said (Some bare) has = (void_said, has Void)

return_gives : Gives IsByteToken (IsAt levels) return_part IsSaid
unfolding return_part return_text void_return value_return
return_gives =
    says_gives IsSaidEnd
    (skip_gives (or_gives
    (says_gives (λ o. IfSome o IsSaidBareOperand) (skip_gives (maybe_gives {P = IsSaidBareOperand} value_gives))
    (λ ts bare has. void_return_said bare has))
    (says_gives (λ x. IsSaidTyWithin levels x.0 × IsSaidBareOperand x.1)
    (both_give {P = IsSaidTyWithin levels} {Q = IsSaidBareOperand} (value_type_gives levels) value_gives)
    (λ ts x has. (has.0, has.1 x.0)))))
    (λ ts x has. has)

unreachable_gives : Gives IsByteToken (IsAt levels) unreachable IsSaid
unfolding unreachable
unreachable_gives = always_gives {P = IsSaid} (λ ts a. tt)

-- instructions

pub action_gives : Gives IsByteToken (IsAt levels) action IsSaid
unfolding action action_body
action_gives =
    before_gives {P = IsSaid}
    (or_gives call_gives
    (or_gives load_gives
    (or_gives address_gives
    (or_gives select_gives
    (or_gives cast_gives
    (or_gives compare_gives
    (or_gives extract_gives
    (or_gives phi_gives
    binary_gives))))))))

pub plain_action_gives : Gives IsByteToken (IsAt levels) plain_action IsSaid
unfolding plain_action plain_action_body
plain_action_gives =
    before_gives {P = IsSaid}
    (or_gives store_gives
    (or_gives branch_gives
    (or_gives switch_gives
    (or_gives return_gives
    unreachable_gives))))

-- the number of a pointer
pub number_gives : Gives IsByteToken (IsAt levels) number IsSaid
unfolding number
number_gives =
    says_gives (IsSaidOperand Ptr)
    (skip_gives (before_gives {P = IsSaidOperand Ptr} (before_gives {P = IsSaidOperand Ptr} pointer_gives)))
    (λ ts pointer has. (tt, has))
