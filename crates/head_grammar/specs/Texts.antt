-- The texts of heads and variables by their levels, and where one opens a level too many.
use Rattle.std.specs.Prelude.{ℕ, List}
use Rattle.ir_values.specs.declared.units.Form.{Form}
use Rattle.unit_grammar.specs.Pieces.{Piece}
use Rattle.unit_grammar.specs.Grammar.{Text, Is, Opens}
use Rattle.type_grammar.specs.Levels.{IsAt, IsAny, OpensAt}
use Rattle.head_grammar.specs.Heads.{declare_form, define_form}
use Rattle.head_grammar.specs.Variables.{variable_form}

-- of at most so many levels, of any number, and where one more is opened

abbrev pub IsDeclare : ℕ → Text Form
IsDeclare n = Is (IsAt n) declare_form

abbrev pub IsAnyDeclare : Text Form
IsAnyDeclare = Is IsAny declare_form

abbrev pub OpensDeclare : ℕ → List Piece → Type 0
OpensDeclare n = Opens (IsAt n) (OpensAt n) declare_form

abbrev pub IsDefine : ℕ → Text Form
IsDefine n = Is (IsAt n) define_form

abbrev pub IsAnyDefine : Text Form
IsAnyDefine = Is IsAny define_form

abbrev pub OpensDefine : ℕ → List Piece → Type 0
OpensDefine n = Opens (IsAt n) (OpensAt n) define_form

abbrev pub IsVariable : ℕ → Text Form
IsVariable n = Is (IsAt n) variable_form

abbrev pub IsAnyVariable : Text Form
IsAnyVariable = Is IsAny variable_form

abbrev pub OpensVariable : ℕ → List Piece → Type 0
OpensVariable n = Opens (IsAt n) (OpensAt n) variable_form
