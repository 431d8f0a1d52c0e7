-- Entries of a module's summary.
--
-- Source: LLVM Language Reference, "ThinLTO Summary". Differs: an entry ends with its line, whatever stands in it.
use Rattle.std.specs.Prelude.{◌≡◌, ℕ, List, [], drop, codes}
use Rattle.ir_lex.specs.declared.token.Kind.TheVariants.{SummaryNumber}
use Rattle.ir_values.specs.declared.units.Form.{Form}
use Rattle.ir_values.specs.declared.units.Form.TheVariants.{SummaryForm}
use Rattle.unit_grammar.specs.Signs.{of_kind, mark}
use Rattle.unit_grammar.specs.Grammar.{Text, Is, token, ◌⋆◌}
use Rattle.type_grammar.specs.Names.{Name, Value}
use Rattle.type_grammar.specs.Types.{IsPart}
use Rattle.module_grammar.specs.Lines.{Lined}

-- `^N =`: the digits, and where it ends
unfoldable pub entry_head : IsPart (List ℕ × ℕ)
entry_head = token (of_kind SummaryNumber) (λ t. drop 1 t.bytes) ⋆ token (mark (codes "=")) (λ t. t.end)

-- `^N =` and all tokens up to the next that stands first on its line
abbrev pub IsEntry : ((x : Name) → Text (Value x)) → Text Form
IsEntry E ts form = (number : List ℕ) × Lined [] (Is E entry_head) ts number × (form ≡ SummaryForm number)
