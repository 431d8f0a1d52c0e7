-- What variables and the heads of functions say.
use Rattle.std.proofs.Common.{◌≡◌, refl, sym, ap, subst, ◌∙◌, ℕ, suc, Bool, true, false, List, ◌++◌, All, Option, Some, None}
use Rattle.std.specs.Prelude.{IfSome}
use Rattle.std.specs.Prelude.{option_map}
use Rattle.std.proofs.lemmas.List.Elements.{All-nil, recursion_from_All}
use Rattle.ir_lex.specs.declared.token.Kind.TheVariants.{Global, Local}
use Rattle.ir_values.specs.declared.types.Ty.{Ty, out-Ty, out-roll-Ty}
use Rattle.ir_values.specs.declared.types.Ty.TheOpen.{Ty-F}
use Rattle.ir_values.specs.declared.types.Ty.TheVariants.{Left, rolls-Left}
use Rattle.ir_values.specs.declared.units.Attach.{Attach}
use Rattle.ir_values.specs.declared.units.Param.{Param}
use Rattle.head_grammar.specs.declared.begun.Begun.{Begun}
use Rattle.head_grammar.specs.declared.kept.Kept.{Kept}
use Rattle.type_grammar.specs.declared.bare.Bare.{Bare}
use Rattle.type_grammar.specs.Names.{at_type}
use Rattle.type_grammar.specs.Levels.{IsAt, levels}
use Rattle.head_grammar.specs.Parameters.{metadata_type, parameter_type, maybe_local, parameter, some_parameters, given, only_dots, listed, parameters}
use Rattle.head_grammar.specs.Heads.{begun, head_of, declare_form, define_form}
use Rattle.head_grammar.specs.Variables.{external, maybe_constant, initial, kept, variable_form}
use Rattle.printed_units.specs.Written.{IsBytes}
use Rattle.sized_modules.proofs.PartLemmas.{Gives, token_gives, skip_gives, both_give, first_gives, second_gives, always_gives, says_gives, before_gives, or_gives, maybe_gives, some_give}
use Rattle.said_units.specs.Sayable.{IsSaid, IsSaidTy, SaidTyLayer, IsSaidTyWithin, IsSaidConst, IsSaidName, IsSaidParam, IsSaidHead}
use Rattle.said_units.proofs.TokenLemmas.{IsByteToken, name_is_bytes}
use Rattle.said_units.proofs.TypeLemmas.{type_gives}
use Rattle.said_units.proofs.ConstLemmas.{IsSaidBare, constant_gives}

-- what is left out has one level

left_layer : (text : List ℕ) → out-Ty (Left text) ≡ Ty-F.Left text
left_layer text = ap out-Ty (sym (rolls-Left text)) ∙ out-roll-Ty (Ty-F.Left text)

left_within : (n m : ℕ) (text : List ℕ) → n ≡ suc m → IsSaidTyWithin n (Left text)
left_within n m text e = rw e (subst (SaidTyLayer (IsSaidTyWithin m)) (sym (left_layer text)) tt)

left_said : (text : List ℕ) → IsSaidTy (Left text)
unfolding levels
left_said text = left_within 64 63 text refl

-- parameters

parameter_type_gives : (declared : Bool) → Gives IsByteToken (IsAt levels) (parameter_type declared) IsSaidTy
unfolding parameter_type metadata_type
parameter_type_gives true = or_gives (type_gives levels) (token_gives (λ t so. left_said t.bytes))
parameter_type_gives false = type_gives levels

name_said : (o : Option (List ℕ)) → IfSome o IsBytes → IsSaidName o
name_said None has = tt
name_said (Some name) has = has

local_gives : Gives IsByteToken (IsAt levels) maybe_local (λ o. IfSome o IsBytes)
unfolding maybe_local
local_gives = maybe_gives (token_gives (name_is_bytes Local))

parameter_gives : (declared : Bool) → Gives IsByteToken (IsAt levels) (parameter declared) IsSaidParam
unfolding parameter
parameter_gives declared =
    says_gives (λ x. IsSaidTy x.0 × IfSome x.1.1 IsBytes)
    (both_give {P = IsSaidTy} {Q = λ y. IfSome y.1 IsBytes} (parameter_type_gives declared) (second_gives local_gives))
    (λ ts x has. record { type = has.0; name = name_said x.1.1 has.1 })

-- all parameters, whether or not `...` ends them
abbrev AreSaidParams : List Param × Bool → Type 0
AreSaidParams x = All IsSaidParam x.0

params_given : (o : Option (List Param × Bool)) → IfSome o AreSaidParams → AreSaidParams (given o)
params_given None has = All-nil IsSaidParam
params_given (Some x) has = has

parameters_give : (declared : Bool) → Gives IsByteToken (IsAt levels) (parameters declared) AreSaidParams
unfolding parameters listed only_dots some_parameters
parameters_give declared =
    skip_gives (before_gives
    (says_gives (λ o. IfSome o AreSaidParams)
    (maybe_gives (or_gives (always_gives (λ ts x. All-nil IsSaidParam)) (first_gives (some_give (parameter_gives declared)))))
    (λ ts o has. params_given o has)))

-- what a head begins with
record IsSaidBegun (b : Begun) : Type 0 where
  name_bytes : IsBytes b.name
  type : IsSaidTy b.result
  each : All IsSaidParam b.params

begun_gives : (declared : Bool) → Gives IsByteToken (IsAt levels) (begun declared) IsSaidBegun
unfolding begun
begun_gives declared =
    says_gives (λ x. IsSaidTy x.1.1.0 × (IsBytes x.1.1.1.0 × AreSaidParams x.1.1.1.1))
    (second_gives (second_gives
    (both_give {P = IsSaidTy} {Q = λ y. IsBytes y.0 × AreSaidParams y.1} (type_gives levels)
    (both_give {P = IsBytes} {Q = AreSaidParams} (token_gives (name_is_bytes Global)) (parameters_give declared)))))
    (λ ts x has. record { name_bytes = has.1.0; type = has.0; each = has.1.1 })

head_said : (b : Begun) (left : List (List ℕ)) (attached : List Attach) → IsSaidBegun b → IsSaidHead (head_of b left attached)
head_said b left attached has = record { name = has.name_bytes; result = has.type; params = recursion_from_All IsSaidParam b.params has.each }

pub declare_gives : Gives IsByteToken (IsAt levels) declare_form IsSaid
unfolding declare_form
declare_gives =
    says_gives (λ x. IsSaidBegun x.1.0) (skip_gives (second_gives (first_gives (begun_gives true))))
    (λ ts x has. head_said x.1.0 x.1.1 x.0 has)

pub define_gives : Gives IsByteToken (IsAt levels) define_form IsSaid
unfolding define_form
define_gives =
    says_gives (λ x. IsSaidBegun x.0) (skip_gives (first_gives (begun_gives false)))
    (λ ts x has. head_said x.0 (x.1.0 ++ x.1.1.left) x.1.1.attached has)

-- variables

record IsSaidKept (x : Kept) : Type 0 where
  type : IsSaidTy x.ty
  initially : IfSome x.init (IsSaidConst x.ty)

initial_said : (type : Ty) (o : Option Bare) → IfSome o (IsSaidBare levels) → IfSome (option_map (at_type type) o) (IsSaidConst type)
initial_said type None has = tt
initial_said type (Some bare) has = has type

kept_gives : Gives IsByteToken (IsAt levels) kept IsSaidKept
unfolding kept external initial maybe_constant
kept_gives =
    or_gives
    (says_gives (λ x. IsSaidTy x.1.1.1) (second_gives (second_gives (second_gives (type_gives levels))))
    (λ ts x has. record { type = has; initially = tt }))
    (says_gives (λ x. IsSaidTy x.1.1.1.0 × IfSome x.1.1.1.1 (IsSaidBare levels))
    (second_gives (second_gives (second_gives
    (both_give {P = IsSaidTy} {Q = (λ o. IfSome o (IsSaidBare levels))} (type_gives levels) (maybe_gives (constant_gives levels))))))
    (λ ts x has. record { type = has.0; initially = initial_said x.1.1.1.0 x.1.1.1.1 has.1 }))

pub variable_gives : Gives IsByteToken (IsAt levels) variable_form IsSaid
unfolding variable_form
variable_gives =
    says_gives (λ x. IsBytes x.0 × IsSaidKept x.1.0)
    (both_give {P = IsBytes} {Q = λ y. IsSaidKept y.0} (token_gives (name_is_bytes Global)) (skip_gives (first_gives kept_gives)))
    (λ ts x has. (has.0, has.1.type, has.1.initially))
