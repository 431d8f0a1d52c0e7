-- What calls say.
use Rattle.std.proofs.Common.{Bool, List, All, Option, Some, None}
use Rattle.std.specs.Prelude.{IfSome}
use Rattle.std.proofs.lemmas.List.Elements.{recursion_from_All}
use Rattle.ir_values.specs.declared.types.Ty.{Ty}
use Rattle.ir_values.specs.declared.types.Ty.TheVariants.{Ptr}
use Rattle.ir_values.specs.declared.units.Arg.{Arg}
use Rattle.type_grammar.specs.Levels.{IsAt, levels}
use Rattle.instruction_grammar.specs.declared.bare_operand.BareOperand.{BareOperand}
use Rattle.instruction_grammar.specs.Calls.{types_of, more_types, some_types, dots_alone, param_types, perhaps_types, written_params, text_arg, node_arg, meta_arg, value_arg, written_meta_arg, argument, argument_list, arguments, perhaps_params, call_type, call_with, call}
use Rattle.sized_modules.proofs.PartLemmas.{Gives, token_gives, skip_gives, both_give, first_gives, second_gives, always_gives, says_gives, before_gives, or_gives, maybe_gives, many_give, list_gives}
use Rattle.said_units.specs.Sayable.{IsSaidTy, IsSaidTyWithin, IsSaidArg, AreSaidTys, IsSaid}
use Rattle.said_units.proofs.TokenLemmas.{IsByteToken}
use Rattle.said_units.proofs.TypeLemmas.{type_gives}
use Rattle.said_units.proofs.OperandLemmas.{IsSaidBareOperand, value_gives}

-- the types of the parameters, and whether more may follow them
abbrev AreSaidParams : List Ty × Bool → Type 0
AreSaidParams x = AreSaidTys x.0

abbrev IsSaidResult : Ty × Option (List Ty × Bool) → Type 0
IsSaidResult x = IsSaidTy x.0 × IfSome x.1 AreSaidParams

more_types_give : Gives IsByteToken (IsAt levels) more_types (All (IsSaidTyWithin levels))
unfolding more_types
more_types_give = many_give {P = IsSaidTyWithin levels} (skip_gives (type_gives levels))

some_types_give : Gives IsByteToken (IsAt levels) some_types AreSaidParams
unfolding some_types
some_types_give =
    says_gives (λ x. IsSaidTyWithin levels x.0 × All (IsSaidTyWithin levels) x.1.0)
    (both_give {P = IsSaidTyWithin levels} {Q = λ x. All (IsSaidTyWithin levels) x.0} (type_gives levels) (first_gives more_types_give))
    (λ ts x has. (has.0, recursion_from_All (IsSaidTyWithin levels) x.1.0 has.1))

param_types_give : Gives IsByteToken (IsAt levels) param_types AreSaidParams
unfolding param_types dots_alone
param_types_give = or_gives some_types_give (always_gives {P = AreSaidParams} (λ ts a. tt))

types_said : (types : Option (List Ty × Bool)) → IfSome types AreSaidParams → AreSaidParams (types_of types)
types_said None said = tt
types_said (Some types) said = said

perhaps_types_give : Gives IsByteToken (IsAt levels) perhaps_types AreSaidParams
unfolding perhaps_types
perhaps_types_give =
    says_gives (λ o. IfSome o AreSaidParams) (maybe_gives {P = AreSaidParams} param_types_give) (λ ts types said. types_said types said)

written_params_give : Gives IsByteToken (IsAt levels) written_params AreSaidParams
unfolding written_params
written_params_give = skip_gives (before_gives {P = AreSaidParams} perhaps_types_give)

-- `W T`, and the types of the parameters where they are written
call_type_gives : Gives IsByteToken (IsAt levels) call_type IsSaidResult
unfolding call_type perhaps_params
call_type_gives =
    says_gives (λ x. IsSaidResult x.1)
    (second_gives {Q = IsSaidResult}
    (both_give {P = IsSaidTyWithin levels} {Q = (λ o. IfSome o AreSaidParams)} (type_gives levels)
    (maybe_gives {P = AreSaidParams} written_params_give)))
    (λ ts x has. has)

argument_gives : Gives IsByteToken (IsAt levels) argument IsSaidArg
unfolding argument written_meta_arg meta_arg text_arg node_arg value_arg
argument_gives =
    or_gives
    (skip_gives (or_gives (token_gives {P = IsSaidArg} (λ t so. tt)) (token_gives {P = IsSaidArg} (λ t so. tt))))
    (says_gives (λ x. IsSaidTyWithin levels x.0 × IsSaidBareOperand x.1.1)
    (both_give {P = IsSaidTyWithin levels} {Q = λ x. IsSaidBareOperand x.1} (type_gives levels) (second_gives value_gives))
    (λ ts x has. (has.0, has.1 x.0)))

arguments_give : Gives IsByteToken (IsAt levels) arguments (All IsSaidArg)
unfolding arguments argument_list
arguments_give = skip_gives (before_gives {P = All IsSaidArg} (list_gives {P = IsSaidArg} argument_gives))

call_said : (result : Ty) (types : Option (List Ty × Bool)) (callee : BareOperand) (args : List Arg) (bundled : Bool) →
    IsSaidTy result → IfSome types AreSaidParams → IsSaidBareOperand callee → All IsSaidArg args → IsSaid (call_with result types callee args bundled)
call_said result None callee args bundled type whole said each = (tt, type, tt, said Ptr, recursion_from_All IsSaidArg args each)
call_said result (Some types) callee args bundled type whole said each = (tt, type, whole, said Ptr, recursion_from_All IsSaidArg args each)

pub call_gives : Gives IsByteToken (IsAt levels) call IsSaid
unfolding call
call_gives =
    says_gives (λ x. IsSaidResult x.1.0 × (IsSaidBareOperand x.1.1.0 × All IsSaidArg x.1.1.1.0))
    (second_gives {Q = λ x. IsSaidResult x.0 × (IsSaidBareOperand x.1.0 × All IsSaidArg x.1.1.0)}
    (both_give {P = IsSaidResult} {Q = λ x. IsSaidBareOperand x.0 × All IsSaidArg x.1.0} call_type_gives
    (both_give {P = IsSaidBareOperand} {Q = λ x. All IsSaidArg x.0} value_gives (first_gives arguments_give))))
    (λ ts x has. call_said x.1.0.0 x.1.0.1 x.1.1.0 x.1.1.1.0 x.1.1.1.1 has.0.0 has.0.1 has.1.0 has.1.1)
