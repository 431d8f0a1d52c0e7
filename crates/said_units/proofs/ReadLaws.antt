-- The units that a text of bytes is read as are such as a text can say.
use Rattle.std.proofs.Common.{inl, inr, List, [], ◌∷◌}
use Rattle.std.specs.List.{AllByRecursion}
use Rattle.ltt_base.specs.declared.refusal.Placed.{Placed}
use Rattle.ir_values.specs.declared.units.Form.{Form}
use Rattle.ir_values.specs.declared.units.Unit.{Unit as TheUnit}
use Rattle.unit_grammar.specs.Pieces.{Piece, pieces}
use Rattle.ir_text.specs.Units.{IsFormWithin, IsNumber, IsLeft, IsLast, IsUnitWithin}
use Rattle.ir_text.specs.Reads.{ReadsTo}
use Rattle.sized_modules.proofs.PartLemmas.{front_so, back_so}
use Rattle.said_units.specs.Sayable.{IsSaid, AreSaid}
use Rattle.said_units.specs.Laws.{ReadUnitsAreSaid}
use Rattle.said_units.proofs.TokenLemmas.{IsByteToken, tokens_are_bytes}
use Rattle.said_units.proofs.FormLemmas.{form_gives, number_form_gives}

-- a form, or an entry of a summary
form_said : (ts : List Piece) (unit : Form) → AllByRecursion IsByteToken ts → IsFormWithin ts unit → IsSaid unit
unfolding IsFormWithin
form_said ts unit so (inl is) = form_gives.each ts unit so is
form_said ts unit so (inr (number, lined, stands)) = rw stands tt

-- the number of a pointer, or what is left out
last_said : (ts : List Piece) (unit : Form) → AllByRecursion IsByteToken ts → IsLast ts unit → IsSaid unit
unfolding IsNumber IsLeft
last_said ts unit so (inl is) = number_form_gives.each ts unit so is
last_said ts unit so (inr ((word, lined, stands), other)) = rw stands tt

unit_said : (ts : List Piece) (unit : TheUnit) → AllByRecursion IsByteToken ts → IsUnitWithin ts unit → IsSaid unit.form
unit_said ts unit so (inl is, first) = form_said ts unit.form so is
unit_said ts unit so (inr (is, other), first) = last_said ts unit.form so is

-- all units in order
units_said : (ts : List Piece) (us : List (Placed TheUnit)) (rest : List Piece) → AllByRecursion IsByteToken ts → ReadsTo ts us rest → AreSaid us
units_said ts [] rest so reads = tt
units_said ts (u ∷ us) rest so (behind, next, others) =
    let stands = next.longest.stands in (
      unit_said stands.front u.value (front_so IsByteToken ts stands.front behind stands.splits so) stands.is,
      units_said behind us rest (back_so IsByteToken ts stands.front behind stands.splits so) others,
    )

pub read_units_are_said : ReadUnitsAreSaid
read_units_are_said file text us bytes read =
    units_said (pieces text read.tokens) us [] (tokens_are_bytes file text read.tokens bytes read.are) read.reads
