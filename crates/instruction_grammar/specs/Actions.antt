-- Instructions: those that may set a register, without its name, and the others.
--
-- Source: LLVM Language Reference, "Instruction Reference". Differs: the attachments of an instruction say nothing.
use Rattle.std.specs.Prelude.{ℕ, List, Some}
use Rattle.ir_values.specs.declared.units.Form.{Form}
use Rattle.ir_values.specs.declared.units.Form.TheVariants.{BinaryForm, CompareForm, SelectForm, CastForm, AddressForm, LoadForm, CallForm, ExtractForm, PhiForm, NumberForm}
use Rattle.unit_grammar.specs.Pieces.{Piece}
use Rattle.unit_grammar.specs.Grammar.{Text, Is, Opens, ◌⋆◌, ◌or◌, mapped}
use Rattle.type_grammar.specs.Levels.{IsAt, IsAny, OpensAt}
use Rattle.type_grammar.specs.Types.{IsPart}
use Rattle.word_grammar.specs.Attached.{dropped_attachments}
use Rattle.instruction_grammar.specs.Operations.{binary, compare, select, cast, address}
use Rattle.instruction_grammar.specs.Memory.{load, store, extract, phi}
use Rattle.instruction_grammar.specs.Branches.{branch, switch, return_part, unreachable}
use Rattle.instruction_grammar.specs.Calls.{call}

-- all of them but the number of a pointer, which begins as what is left out does
unfoldable pub action_body : IsPart Form
action_body = call or load or address or select or cast or compare or extract or phi or binary

-- an instruction that may set a register, without its name
unfoldable pub action : IsPart Form
action = mapped (λ x. x.0) (action_body ⋆ dropped_attachments)

unfoldable pub plain_action_body : IsPart Form
plain_action_body = store or branch or switch or return_part or unreachable

-- an instruction that sets no register
unfoldable pub plain_action : IsPart Form
plain_action = mapped (λ x. x.0) (plain_action_body ⋆ dropped_attachments)

-- the instruction that sets the register of this name
abbrev pub with_result : List ℕ → Form → Form
with_result name (BinaryForm dst op ty a b) = BinaryForm (Some name) op ty a b
with_result name (CompareForm dst pred ty a b) = CompareForm (Some name) pred ty a b
with_result name (SelectForm dst cond_ty chosen ty a other_ty b) = SelectForm (Some name) cond_ty chosen ty a other_ty b
with_result name (CastForm dst op from a to) = CastForm (Some name) op from a to
with_result name (AddressForm dst ty base index) = AddressForm (Some name) ty base index
with_result name (LoadForm dst ty addr) = LoadForm (Some name) ty addr
with_result name (CallForm dst result whole dots callee args bundle) = CallForm (Some name) result whole dots callee args bundle
with_result name (ExtractForm dst value part) = ExtractForm (Some name) value part
with_result name (PhiForm dst ty arms) = PhiForm (Some name) ty arms
with_result name (NumberForm dst value) = NumberForm (Some name) value
with_result name form = form

-- the texts of these, with at most so many levels and with any number
abbrev pub IsAction : ℕ → Text Form
IsAction n = Is (IsAt n) action

abbrev pub IsAnyAction : Text Form
IsAnyAction = Is IsAny action

abbrev pub OpensAction : ℕ → List Piece → Type 0
OpensAction n = Opens (IsAt n) (OpensAt n) action

abbrev pub IsPlainAction : ℕ → Text Form
IsPlainAction n = Is (IsAt n) plain_action

abbrev pub IsAnyPlainAction : Text Form
IsAnyPlainAction = Is IsAny plain_action

abbrev pub OpensPlainAction : ℕ → List Piece → Type 0
OpensPlainAction n = Opens (IsAt n) (OpensAt n) plain_action
