-- No type that a form gives to a name or to its variable holds a pair.
use Rattle.std.proofs.Common.{◌≡◌, ℕ, List, [], ◌∷◌, All, Option, Some, None, Bool, refl, sym, subst}
use Rattle.std.proofs.lemmas.List.Elements.{All-nil, All-cons}
use Rattle.ir_values.specs.declared.types.Ty.{Ty}
use Rattle.ir_values.specs.declared.units.Arg.{Arg}
use Rattle.ir_values.specs.declared.units.Form.{Form}
use Rattle.ir_values.specs.declared.units.Form.TheVariants.{TypeForm, BinaryForm}
use Rattle.unit_grammar.specs.Pieces.{Piece}
use Rattle.unit_grammar.specs.Grammar.{says, at, Text}
use Rattle.type_grammar.specs.Names.{Name, a_type, Value}
use Rattle.type_grammar.specs.Types.{IsPart}
use Rattle.head_grammar.specs.Heads.{declare_form, define_form}
use Rattle.head_grammar.specs.Variables.{external, initial, kept, variable_form}
use Rattle.instruction_grammar.specs.declared.bare_operand.BareOperand.{BareOperand}
use Rattle.instruction_grammar.specs.Operations.{binary, compare, select, cast, address}
use Rattle.instruction_grammar.specs.Memory.{load, store, extract, phi, number}
use Rattle.instruction_grammar.specs.Branches.{branch, switch, return_part, unreachable}
use Rattle.instruction_grammar.specs.Calls.{call_with, call}
use Rattle.instruction_grammar.specs.Actions.{action_body, action, plain_action_body, plain_action, with_result}
use Rattle.module_grammar.specs.Headers.{source, layout, triple, header}
use Rattle.module_grammar.specs.Items.{opaque, defined, type_body, with_type_name, comdat, attributes, label, close}
use Rattle.module_grammar.specs.Metadata.{numbered_node, named_node, metadata}
use Rattle.module_grammar.specs.Tables.{table}
use Rattle.ir_text.specs.Forms.{named_body, named, body_form, module_form, form, number_head, number_form, with_maybe_result}
use Rattle.sized_modules.specs.Written.{types_in}
use Rattle.sized_modules.proofs.PartLemmas.{Gives, Anything, token_gives, skip_gives, first_gives, second_gives, always_gives, says_gives, before_gives, or_gives}
use Rattle.sized_modules.proofs.TypeLemmas.{IsWritten}

-- none of the types that the form gives to a name or to its variable holds a pair
pub record HasWritten (unit : Form) : Type 0 where
  pub types : All IsWritten (types_in unit)

-- a form of no types
pub none : {unit : Form} → types_in unit ≡ [] → HasWritten unit
none is = record { types = subst (λ types. All IsWritten types) (sym is) (All-nil IsWritten) }

-- a form of one type
one : {unit : Form} (type : Ty) → types_in unit ≡ type ∷ [] → IsWritten type → HasWritten unit
one type is written = record { types = subst (λ types. All IsWritten types) (sym is) (All-cons IsWritten type [] written (All-nil IsWritten)) }

-- a form of the same types
same : {unit other : Form} → types_in unit ≡ types_in other → HasWritten other → HasWritten unit
same is has = record { types = subst (λ types. All IsWritten types) (sym is) has.types }

-- a call gives none, with or without the types of its parameters
call_none : (result : Ty) (types : Option (List Ty × Bool)) (callee : BareOperand) (args : List Arg) (bundled : Bool) →
    types_in (call_with result types callee args bundled) ≡ []
call_none result None callee args bundled = refl
call_none result (Some types) callee args bundled = refl

-- a form keeps its types when it is given a name

result_types : (name : List ℕ) (unit : Form) → types_in (with_result name unit) ≡ types_in unit
result_types name (BinaryForm dst op ty a b) = refl
result_types name unit = refl

maybe_result_types : (name : Option (List ℕ)) (unit : Form) → types_in (with_maybe_result name unit) ≡ types_in unit
maybe_result_types None unit = refl
maybe_result_types (Some name) unit = result_types name unit

type_name_types : (name : List ℕ) (unit : Form) → types_in (with_type_name name unit) ≡ types_in unit
type_name_types name (TypeForm old ty) = refl
type_name_types name unit = refl

module _ {E : (x : Name) → Text (Value x)} where
  -- a part whose forms have no types, whatever its texts say
  none_gives : {A : Type 0} {f : List Piece → A → Form} {p : IsPart A} → ((ts : List Piece) (a : A) → types_in (f ts a) ≡ []) →
      Gives Anything E (says f p) HasWritten
  none_gives is = always_gives (λ ts a. none (is ts a))

  -- instructions give no types

  action_gives : Gives Anything E action HasWritten
  unfolding action action_body call load address select cast compare extract phi binary
  action_gives =
      before_gives
      (or_gives (none_gives (λ ts x. call_none x.1.0.0 x.1.0.1 x.1.1.0 x.1.1.1.0 x.1.1.1.1))
      (or_gives (none_gives (λ ts x. refl))
      (or_gives (none_gives (λ ts x. refl))
      (or_gives (none_gives (λ ts x. refl))
      (or_gives (none_gives (λ ts x. refl))
      (or_gives (none_gives (λ ts x. refl))
      (or_gives (none_gives (λ ts x. refl))
      (or_gives (none_gives (λ ts x. refl))
      (none_gives (λ ts x. refl))))))))))

  plain_action_gives : Gives Anything E plain_action HasWritten
  unfolding plain_action plain_action_body store branch switch return_part unreachable
  plain_action_gives =
      before_gives
      (or_gives (none_gives (λ ts x. refl))
      (or_gives (none_gives (λ ts x. refl))
      (or_gives (none_gives (λ ts x. refl))
      (or_gives (none_gives (λ ts x. refl))
      (none_gives (λ ts x. refl))))))

  -- what stands behind a name says a form for each name
  named_body_gives : Gives Anything E (at a_type) IsWritten → Gives Anything E named_body (λ f. (name : List ℕ) → HasWritten (f name))
  unfolding named_body type_body opaque defined
  named_body_gives types =
      or_gives
      (says_gives HasWritten
      (skip_gives (or_gives (none_gives (λ ts x. refl)) (says_gives IsWritten types (λ ts type written. one type refl written))))
      (λ ts unit has name. same (type_name_types name unit) has))
      (says_gives HasWritten action_gives (λ ts unit has name. same (result_types name unit) has))

  named_gives : Gives Anything E (at a_type) IsWritten → Gives Anything E named HasWritten
  unfolding named
  named_gives types =
      says_gives (λ x. (name : List ℕ) → HasWritten (x.1 name)) (second_gives (skip_gives (named_body_gives types))) (λ ts x has. has x.0)

  -- the lines of a body
  body_gives : Gives Anything E (at a_type) IsWritten → Gives Anything E body_form HasWritten
  unfolding body_form label close
  body_gives types =
      or_gives (named_gives types)
      (or_gives action_gives
      (or_gives plain_action_gives
      (or_gives (token_gives (λ t so. none refl))
      (token_gives (λ t so. none refl)))))

  -- a variable gives the type that is written in it

  kept_gives : Gives Anything E (at a_type) IsWritten → Gives Anything E kept (λ x. IsWritten x.ty)
  unfolding kept external initial
  kept_gives types =
      or_gives
      (says_gives (λ x. IsWritten x.1.1.1) (second_gives (second_gives (second_gives types))) (λ ts x written. written))
      (says_gives (λ x. IsWritten x.1.1.1.0) (second_gives (second_gives (second_gives (first_gives types)))) (λ ts x written. written))

  variable_gives : Gives Anything E (at a_type) IsWritten → Gives Anything E variable_form HasWritten
  unfolding variable_form
  variable_gives types =
      says_gives (λ x. IsWritten x.1.0.ty) (second_gives (skip_gives (first_gives (kept_gives types)))) (λ ts x written. one x.1.0.ty refl written)

  -- what stands outside of bodies
  module_gives : Gives Anything E (at a_type) IsWritten → Gives Anything E module_form HasWritten
  unfolding module_form metadata numbered_node named_node define_form declare_form attributes comdat header source layout triple table
  module_gives types =
      or_gives (variable_gives types)
      (or_gives (or_gives (none_gives (λ ts x. refl)) (none_gives (λ ts x. refl)))
      (or_gives (none_gives (λ ts x. refl))
      (or_gives (none_gives (λ ts x. refl))
      (or_gives (none_gives (λ ts x. refl))
      (or_gives (none_gives (λ ts x. refl))
      (or_gives (or_gives (none_gives (λ ts x. refl)) (skip_gives (or_gives (none_gives (λ ts x. refl)) (none_gives (λ ts x. refl)))))
      (none_gives (λ ts x. refl))))))))

  -- all forms
  pub form_gives : Gives Anything E (at a_type) IsWritten → Gives Anything E form HasWritten
  unfolding form
  form_gives types = or_gives (body_gives types) (module_gives types)

  -- the number of a pointer
  pub number_gives : Gives Anything E number_form HasWritten
  unfolding number_form number_head number
  number_gives =
      before_gives
      (says_gives (λ x. HasWritten x.1) (second_gives (none_gives (λ ts x. refl))) (λ ts x has. same (maybe_result_types x.0 x.1) has))
