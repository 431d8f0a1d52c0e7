-- What the parts of operands and labels say, with at most the levels that may be.
use Rattle.ir_lex.specs.declared.token.Kind.TheVariants.{Local}
use Rattle.ir_values.specs.declared.types.Ty.{Ty}
use Rattle.ir_values.specs.declared.types.Ty.TheVariants.{Ptr}
use Rattle.instruction_grammar.specs.declared.bare_operand.BareOperand.{BareOperand}
use Rattle.instruction_grammar.specs.Operands.{operand_at, register, fixed, value, next_value, typed_value, typed_pair, next_typed_value, pointer, target, next_target}
use Rattle.type_grammar.specs.Levels.{IsAt, levels}
use Rattle.sized_modules.proofs.PartLemmas.{Gives, token_gives, skip_gives, both_give, says_gives, or_gives}
use Rattle.printed_units.specs.Written.{IsBytes}
use Rattle.said_units.specs.Sayable.{IsSaidTy, IsSaidTyWithin, IsSaidOperand, IsSaidValue}
use Rattle.said_units.proofs.TokenLemmas.{IsByteToken, name_is_bytes}
use Rattle.said_units.proofs.TypeLemmas.{type_gives}
use Rattle.said_units.proofs.ConstLemmas.{IsSaidBare, constant_gives}

-- an operand before its type is known
abbrev pub IsSaidBareOperand : BareOperand → Type 0
IsSaidBareOperand bare = (type : Ty) → IsSaidOperand type (operand_at type bare)

pub value_gives : Gives IsByteToken (IsAt levels) value IsSaidBareOperand
unfolding value register fixed
value_gives =
    or_gives
    (token_gives {P = IsSaidBareOperand} (λ t so type. name_is_bytes Local t so))
    (says_gives (IsSaidBare levels) (constant_gives levels) (λ ts bare has type. has type))

-- `, V`
pub next_value_gives : Gives IsByteToken (IsAt levels) next_value IsSaidBareOperand
unfolding next_value
next_value_gives = skip_gives value_gives

-- `T V`
pub typed_value_gives : Gives IsByteToken (IsAt levels) typed_value IsSaidValue
unfolding typed_value
typed_value_gives =
    says_gives (λ x. IsSaidTyWithin levels x.0 × IsSaidBareOperand x.1)
    (both_give {P = IsSaidTyWithin levels} {Q = IsSaidBareOperand} (type_gives levels) value_gives)
    (λ ts x has. (has.0, has.1 x.0))

-- `, T V`
pub next_typed_value_gives : Gives IsByteToken (IsAt levels) next_typed_value IsSaidValue
unfolding next_typed_value
next_typed_value_gives = skip_gives typed_value_gives

-- `T V, V`
pub typed_pair_gives : Gives IsByteToken (IsAt levels) typed_pair (λ x. IsSaidTy x.0 × IsSaidOperand x.0 x.1.0 × IsSaidOperand x.0 x.1.1)
unfolding typed_pair
typed_pair_gives =
    says_gives
    (λ x. IsSaidTyWithin levels x.0 × (IsSaidBareOperand x.1.0 × IsSaidBareOperand x.1.1))
    (both_give {P = IsSaidTyWithin levels} {Q = λ x. IsSaidBareOperand x.0 × IsSaidBareOperand x.1} (type_gives levels)
    (both_give {P = IsSaidBareOperand} {Q = IsSaidBareOperand} value_gives next_value_gives))
    (λ ts x has. (has.0, has.1.0 x.0, has.1.1 x.0))

-- `ptr V`
pub pointer_gives : Gives IsByteToken (IsAt levels) pointer (IsSaidOperand Ptr)
unfolding pointer
pointer_gives = says_gives IsSaidBareOperand (skip_gives value_gives) (λ ts bare has. has Ptr)

-- `label %L`
pub target_gives : Gives IsByteToken (IsAt levels) target IsBytes
unfolding target
target_gives = skip_gives (token_gives {P = IsBytes} (name_is_bytes Local))

pub next_target_gives : Gives IsByteToken (IsAt levels) next_target IsBytes
unfolding next_target
next_target_gives = skip_gives target_gives
