-- Variables.
--
-- Source: LLVM Language Reference, "Global Variables". Differs: `external` alone tells that there is no initial value.
use Rattle.std.specs.Prelude.{ℕ, Bool, bytes_eq, List, [], ◌∷◌, Option, Some, None, option_map, codes}
use Rattle.ir_lex.specs.declared.token.Kind.TheVariants.{Global}
use Rattle.ir_values.specs.declared.types.Ty.{Ty}
use Rattle.ir_values.specs.declared.units.Attach.{Attach}
use Rattle.ir_values.specs.declared.units.Form.{Form}
use Rattle.ir_values.specs.declared.units.Form.TheVariants.{VariableForm}
use Rattle.type_grammar.specs.declared.bare.Bare.{Bare}
use Rattle.head_grammar.specs.declared.kept.Kept.{Kept}
use Rattle.unit_grammar.specs.Signs.{of_kind, mark, word, words, name}
use Rattle.unit_grammar.specs.Grammar.{token, ◌▹◌, ◌⋆◌, ◌or◌, maybe, at, mapped}
use Rattle.type_grammar.specs.Names.{a_type, a_constant, at_type}
use Rattle.type_grammar.specs.Types.{IsPart}
use Rattle.word_grammar.specs.Attached.{attachments}
use Rattle.word_grammar.specs.Linkage.{maybe_other_linkage}
use Rattle.word_grammar.specs.Places.{variable_places}
use Rattle.word_grammar.specs.Runs.{item_run}

unfoldable pub kind_words : List (List ℕ)
kind_words = codes "global" ∷ codes "constant" ∷ []

-- whether the variable is constant
unfoldable pub kind : IsPart Bool
kind = token (words kind_words) (λ t. bytes_eq t.bytes (codes "constant"))

abbrev pub external_of : List ℕ × (Unit {0} × (Bool × Ty)) → Kept
external_of x = record { linkage = Some x.0; constant = x.1.1.0; ty = x.1.1.1; init = None }

-- `external W global|constant T`
unfoldable pub external : IsPart Kept
external = mapped external_of (token (word (codes "external")) (λ t. t.bytes) ⋆ item_run ⋆ kind ⋆ at a_type)

unfoldable pub maybe_constant : IsPart (Option Bare)
maybe_constant = maybe (at a_constant)

abbrev pub initial_of : Option (List ℕ) × (Unit {0} × (Bool × (Ty × Option Bare))) → Kept
initial_of x = record {
  linkage = x.0;
  constant = x.1.1.0;
  ty = x.1.1.1.0;
  init = option_map (at_type x.1.1.1.0) x.1.1.1.1;
}

-- `[linkage] W global|constant T [C]`
unfoldable pub initial : IsPart Kept
initial = mapped initial_of (maybe_other_linkage ⋆ item_run ⋆ kind ⋆ at a_type ⋆ maybe_constant)

unfoldable pub kept : IsPart Kept
kept = external or initial

abbrev pub variable_of : List ℕ × (Kept × (Option (Option ℕ) × List Attach)) → Form
variable_of x =
    VariableForm x.0 x.1.0.linkage x.1.0.constant x.1.0.ty x.1.0.init x.1.1.0 x.1.1.1

-- a variable
unfoldable pub variable_form : IsPart Form
variable_form =
    mapped variable_of (token (of_kind Global) (name Global) ⋆ mark (codes "=") ▹ kept ⋆ variable_places ⋆ attachments)
