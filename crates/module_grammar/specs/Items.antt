-- Named types, comdats and groups of attributes, and how a function goes on and ends.
--
-- Source: LLVM Language Reference, "Structure Types", "Opaque Structure Types", "Comdats", "Attribute Groups" and
-- "Functions". Differs: of a comdat the name is kept alone, and of a group its number; any type may have a name.
use Rattle.std.specs.Prelude.{ℕ, List, [], ◌∷◌, Some, None, codes}
use Rattle.ir_lex.specs.declared.token.Kind.TheVariants.{Comdat, Group, Label}
use Rattle.ir_values.specs.declared.types.Ty.{Ty}
use Rattle.ir_values.specs.declared.units.Form.{Form}
use Rattle.ir_values.specs.declared.units.Form.TheVariants.{TypeForm, ComdatForm, AttributesForm, LabelForm, CloseForm}
use Rattle.unit_grammar.specs.Signs.{of_kind, mark, word, words, name}
use Rattle.unit_grammar.specs.Grammar.{token, enclosed, ◌▹◌, ◌⋆◌, ◌or◌, at, mapped, ◌◃◌, sign}
use Rattle.type_grammar.specs.Names.{a_type}
use Rattle.type_grammar.specs.Types.{IsPart}

unfoldable pub opaque : IsPart Form
opaque = mapped (λ _. TypeForm [] None) (sign (word (codes "opaque")))

abbrev pub defined_as : Ty → Form
defined_as ty = TypeForm [] (Some ty)

unfoldable pub defined : IsPart Form
defined = mapped defined_as (at a_type)

-- `type T` or `type opaque`, behind the name and its `=`; the name is left open
unfoldable pub type_body : IsPart Form
type_body = word (codes "type") ▹ (opaque or defined)

-- the form of a type with this name; another form stays
abbrev pub with_type_name : List ℕ → Form → Form
with_type_name name (TypeForm old ty) = TypeForm name ty
with_type_name name form = form

unfoldable pub comdat_words : List (List ℕ)
comdat_words =
    codes "any" ∷ codes "exactmatch" ∷ codes "largest" ∷ codes "nodeduplicate" ∷ codes "samesize" ∷ []

-- `$Name = comdat any`, or another of the five words
unfoldable pub comdat : IsPart Form
comdat =
    mapped ComdatForm
    (((token (of_kind Comdat) (name Comdat) ◃ mark (codes "=")) ◃ word (codes "comdat")) ◃ words comdat_words)

-- `#N`
unfoldable pub group : IsPart (List ℕ)
group = token (of_kind Group) (name Group)

-- `attributes #N = { .. }`, balanced
unfoldable pub attributes : IsPart Form
attributes =
    mapped (λ x. AttributesForm x.0)
    (word (codes "attributes") ▹ group ⋆ mark (codes "=") ▹ enclosed (mark (codes "{")) (mark (codes "}")))

unfoldable pub label : IsPart Form
label = token (of_kind Label) (λ t. LabelForm (name Label t))

-- `}`
unfoldable pub close : IsPart Form
close = token (mark (codes "}")) (λ _. CloseForm)
