-- What forms say.
use Rattle.std.proofs.Common.{◌≡◌, ℕ, nat_lt, true, List, ◌∷◌, length, All, Option, Some, None, arith}
use Rattle.std.specs.Prelude.{IfSome}
use Rattle.std.specs.List.{AllByRecursion}
use Rattle.std.proofs.lemmas.Bool.Decides.{nat_tests}
use Rattle.std.proofs.lemmas.List.Elements.{recursion_from_All}
use Rattle.ir_lex.specs.declared.token.Kind.TheVariants.{Global, Local, Label}
use Rattle.ir_values.specs.declared.units.Form.{Form}
use Rattle.ir_values.specs.declared.units.Form.TheVariants.{TypeForm}
use Rattle.unit_grammar.specs.Pieces.{Piece}
use Rattle.unit_grammar.specs.Grammar.{says}
use Rattle.type_grammar.specs.Types.{IsPart}
use Rattle.type_grammar.specs.Levels.{IsAt, levels}
use Rattle.module_grammar.specs.Headers.{source, layout, triple, header}
use Rattle.module_grammar.specs.Items.{opaque, defined, type_body, with_type_name, comdat, attributes, label, close}
use Rattle.module_grammar.specs.Metadata.{numbered_node, named_node, metadata}
use Rattle.module_grammar.specs.Tables.{function, next_function, other_functions, functions, table}
use Rattle.ir_text.specs.Forms.{named_body, named, body_form, module_form, form, result_name, with_maybe_result, number_head, number_form}
use Rattle.printed_units.specs.Written.{IsBytes}
use Rattle.sized_modules.proofs.PartLemmas.{Gives, token_gives, skip_gives, both_give, always_gives, says_gives, before_gives, or_gives, maybe_gives, many_give}
use Rattle.said_units.specs.Sayable.{IsSaid, IsSaidTy}
use Rattle.said_units.proofs.TokenLemmas.{IsByteToken, name_is_bytes}
use Rattle.said_units.proofs.TypeLemmas.{type_gives}
use Rattle.said_units.proofs.InstLemmas.{result_said, action_gives, plain_action_gives, number_gives}
use Rattle.said_units.proofs.HeadLemmas.{declare_gives, define_gives, variable_gives}

-- a part of whose forms nothing is told
plain_gives : {A : Type 0} {f : List Piece → A → Form} {p : IsPart A} → ((ts : List Piece) (a : A) → IsSaid (f ts a)) →
    Gives IsByteToken (IsAt levels) (says f p) IsSaid
plain_gives said = always_gives said

-- a form that is given the name of its type
type_name_said : (name : List ℕ) (unit : Form) → IsSaid unit → IsSaid (with_type_name name unit)
type_name_said name (TypeForm old ty) said = said
type_name_said name unit said = said

-- a form behind whichever name
abbrev IsNamed : (List ℕ → Form) → Type 0
IsNamed f = (name : List ℕ) → IsBytes name → IsSaid (f name)

named_body_gives : Gives IsByteToken (IsAt levels) named_body IsNamed
unfolding named_body type_body opaque defined
named_body_gives =
    or_gives
    (says_gives IsSaid
    (skip_gives (or_gives (plain_gives (λ ts x. tt)) (says_gives IsSaidTy (type_gives levels) (λ ts type said. said))))
    (λ ts unit said name bytes. type_name_said name unit said))
    (says_gives IsSaid action_gives (λ ts unit said name bytes. result_said name unit bytes said))

named_gives : Gives IsByteToken (IsAt levels) named IsSaid
unfolding named
named_gives =
    says_gives (λ x. IsBytes x.0 × IsNamed x.1)
    (both_give {P = IsBytes} {Q = IsNamed} (token_gives (name_is_bytes Local)) (skip_gives named_body_gives))
    (λ ts x has. has.1 x.0 has.0)

-- the lines of a body
body_gives : Gives IsByteToken (IsAt levels) body_form IsSaid
unfolding body_form label close
body_gives =
    or_gives named_gives
    (or_gives action_gives
    (or_gives plain_action_gives
    (or_gives (token_gives (name_is_bytes Label))
    (token_gives (λ t so. tt)))))

-- a table has at least one function

some_function : (first : List ℕ) (others : List (List ℕ)) → nat_lt 0 (length (first ∷ others)) ≡ true
some_function first others = grind (arith, nat_tests)

functions_give : Gives IsByteToken (IsAt levels) functions (λ xs. (nat_lt 0 (length xs) ≡ true) × AllByRecursion IsBytes xs)
unfolding functions function other_functions next_function
functions_give =
    says_gives (λ x. IsBytes x.0 × All IsBytes x.1)
    (both_give {P = IsBytes} {Q = All IsBytes} (token_gives (name_is_bytes Global))
    (many_give {P = IsBytes} (skip_gives (token_gives (name_is_bytes Global)))))
    (λ ts x has. (some_function x.0 x.1, (has.0, recursion_from_All IsBytes x.1 has.1)))

table_gives : Gives IsByteToken (IsAt levels) table IsSaid
unfolding table function
table_gives =
    says_gives (λ x. IsBytes x.0 × ((nat_lt 0 (length x.1) ≡ true) × AllByRecursion IsBytes x.1))
    (skip_gives
    (both_give {P = IsBytes} {Q = λ xs. (nat_lt 0 (length xs) ≡ true) × AllByRecursion IsBytes xs}
    (token_gives (name_is_bytes Global)) (skip_gives (skip_gives (skip_gives (before_gives functions_give))))))
    (λ ts x has. (has.0, has.1.0, has.1.1))

-- what stands outside of bodies
module_gives : Gives IsByteToken (IsAt levels) module_form IsSaid
unfolding module_form metadata numbered_node named_node attributes comdat header source layout triple
module_gives =
    or_gives variable_gives
    (or_gives (or_gives (plain_gives (λ ts x. tt)) (plain_gives (λ ts x. tt)))
    (or_gives define_gives
    (or_gives declare_gives
    (or_gives (plain_gives (λ ts x. tt))
    (or_gives (plain_gives (λ ts x. tt))
    (or_gives (or_gives (plain_gives (λ ts x. tt)) (skip_gives (or_gives (plain_gives (λ ts x. tt)) (plain_gives (λ ts x. tt)))))
    table_gives))))))

-- all forms
pub form_gives : Gives IsByteToken (IsAt levels) form IsSaid
unfolding form
form_gives = or_gives body_gives module_gives

-- the number of a pointer

maybe_result_said : (name : Option (List ℕ)) (unit : Form) → IfSome name IsBytes → IsSaid unit → IsSaid (with_maybe_result name unit)
maybe_result_said None unit bytes said = said
maybe_result_said (Some name) unit bytes said = result_said name unit bytes said

pub number_form_gives : Gives IsByteToken (IsAt levels) number_form IsSaid
unfolding number_form number_head result_name
number_form_gives =
    before_gives
    (says_gives (λ x. IfSome x.0 IsBytes × IsSaid x.1)
    (both_give {P = (λ o. IfSome o IsBytes)} {Q = IsSaid} (maybe_gives (before_gives (token_gives (name_is_bytes Local)))) number_gives)
    (λ ts x has. maybe_result_said x.0 x.1 has.0 has.1))
