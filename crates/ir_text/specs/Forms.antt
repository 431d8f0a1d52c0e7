-- The forms of units.
--
-- Source: LLVM Language Reference, "High Level Structure" and "Instruction Reference". Differs: docs/language.md lists the
-- forms, and what is left out.
use Rattle.std.specs.Prelude.{ℕ, List, Option, Some, None, codes}
use Rattle.ir_lex.specs.declared.token.Kind.TheVariants.{Local}
use Rattle.ir_values.specs.declared.units.Form.{Form}
use Rattle.unit_grammar.specs.Signs.{of_kind, mark, name}
use Rattle.unit_grammar.specs.Grammar.{token, ◌▹◌, ◌⋆◌, ◌or◌, maybe, mapped, ◌◃◌}
use Rattle.type_grammar.specs.Types.{IsPart}
use Rattle.head_grammar.specs.Heads.{declare_form, define_form}
use Rattle.head_grammar.specs.Variables.{variable_form}
use Rattle.word_grammar.specs.Attached.{dropped_attachments}
use Rattle.instruction_grammar.specs.Memory.{number}
use Rattle.instruction_grammar.specs.Actions.{action, plain_action, with_result}
use Rattle.module_grammar.specs.Headers.{header}
use Rattle.module_grammar.specs.Items.{type_body, with_type_name, comdat, attributes, label, close}
use Rattle.module_grammar.specs.Metadata.{metadata}
use Rattle.module_grammar.specs.Tables.{table}

-- what stands behind `%Name =`: a type, or an instruction that sets a register. It says a form that wants the name.
unfoldable pub named_body : IsPart (List ℕ → Form)
named_body = mapped (λ f name. with_type_name name f) type_body or mapped (λ f name. with_result name f) action

abbrev pub named_of : List ℕ × (List ℕ → Form) → Form
named_of x = x.1 x.0

-- `%Name = type ..` and `%r = ..`
unfoldable pub named : IsPart Form
named = mapped named_of (token (of_kind Local) (name Local) ⋆ mark (codes "=") ▹ named_body)

-- the lines of a body
unfoldable pub body_form : IsPart Form
body_form = named or action or plain_action or label or close

-- what stands outside of bodies, but for types
unfoldable pub module_form : IsPart Form
module_form = variable_form or metadata or define_form or declare_form or attributes or comdat or header or table

-- every form but entries of a summary, the number of a pointer, and what is left out
unfoldable pub form : IsPart Form
form = body_form or module_form

-- `%r =`, or nothing
unfoldable pub result_name : IsPart (Option (List ℕ))
result_name = maybe (token (of_kind Local) (name Local) ◃ mark (codes "="))

abbrev pub with_maybe_result : Option (List ℕ) → Form → Form
with_maybe_result None form = form
with_maybe_result (Some name) form = with_result name form

abbrev pub number_of : Option (List ℕ) × Form → Form
number_of x = with_maybe_result x.0 x.1

unfoldable pub number_head : IsPart Form
number_head = mapped number_of (result_name ⋆ number)

-- `[%r =] ptrtoint ptr V to i64`
unfoldable pub number_form : IsPart Form
number_form = mapped (λ x. x.0) (number_head ⋆ dropped_attachments)
