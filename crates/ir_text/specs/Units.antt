-- The units.
--
-- Source: LLVM Language Reference, "High Level Structure". Differs: what is left out is a unit to the end of its line.
use Rattle.std.specs.Prelude.{◌≡◌, ◌⊎◌, ℕ, List, [], ◌∷◌}
use Rattle.ir_values.specs.declared.units.Form.{Form}
use Rattle.ir_values.specs.declared.units.Unit.{Unit as TheUnit}
use Rattle.unit_grammar.specs.Pieces.{Piece}
use Rattle.unit_grammar.specs.Grammar.{Is, Opens}
use Rattle.type_grammar.specs.Levels.{IsAt, IsAny, OpensAt, levels}
use Rattle.module_grammar.specs.Summaries.{IsEntry}
use Rattle.module_grammar.specs.LeftUnits.{IsLeftUnit}
use Rattle.ir_text.specs.Choices.{Else}
use Rattle.ir_text.specs.Forms.{form, number_form}

-- the tokens are a text of a form, with at most the levels that may be
unfoldable pub IsFormWithin : List Piece → Form → Type 0
IsFormWithin ts f = Is (IsAt levels) form ts f ⊎ IsEntry (IsAt levels) ts f

-- with any number of levels
unfoldable pub IsForm : List Piece → Form → Type 0
IsForm ts f = Is IsAny form ts f ⊎ IsEntry IsAny ts f

-- while a form is read that begins there, one level more is opened than may be
unfoldable pub IsTooDeep : List Piece → Type 0
IsTooDeep ts = Opens (IsAt levels) (OpensAt levels) form ts

-- the number of a pointer; with more levels it is left out
unfoldable pub IsNumber : List Piece → Form → Type 0
IsNumber ts f = Is (IsAt levels) number_form ts f

-- what is left out; no level stands in how it begins
unfoldable pub IsLeft : List Piece → Form → Type 0
IsLeft ts f = IsLeftUnit (IsAt levels) ts f

-- the number of a pointer, or what is left out and no such number
abbrev pub IsLast : List Piece → Form → Type 0
IsLast = Else IsNumber IsNumber IsLeft

-- the bytes of the first token
abbrev pub first_bytes : List Piece → List ℕ
first_bytes [] = []
first_bytes (t ∷ ts) = t.bytes

-- the unit says what the texts P say, and has the first token's text
abbrev pub Says : (List Piece → Form → Type 0) → List Piece → TheUnit → Type 0
Says P ts u = P ts u.form × (u.first ≡ first_bytes ts)

-- the tokens are a text of the unit: of a form, or of one of the others where they are of no form
abbrev pub IsUnit : List Piece → TheUnit → Type 0
IsUnit = Says (Else IsForm IsForm IsLast)

-- the same with at most the levels that may be
abbrev pub IsUnitWithin : List Piece → TheUnit → Type 0
IsUnitWithin = Says (Else IsFormWithin IsForm IsLast)
