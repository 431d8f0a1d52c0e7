-- No type that a unit gives to a name or to its variable holds a pair.
use Rattle.std.proofs.Common.{inl, inr, List, [], ◌∷◌, All, refl}
use Rattle.std.proofs.lemmas.List.Elements.{All-nil, All-cons}
use Rattle.ltt_base.specs.declared.refusal.Placed.{Placed}
use Rattle.ir_values.specs.declared.units.Form.{Form}
use Rattle.ir_values.specs.declared.units.Unit.{Unit as TheUnit}
use Rattle.unit_grammar.specs.Pieces.{Piece}
use Rattle.type_grammar.specs.Levels.{levels}
use Rattle.ir_text.specs.Units.{IsFormWithin, IsNumber, IsLeft, IsLast, IsUnitWithin}
use Rattle.ir_text.specs.Reads.{ReadsTo}
use Rattle.sized_modules.specs.Written.{types_in, AreWritten}
use Rattle.sized_modules.proofs.PartLemmas.{anyhow}
use Rattle.sized_modules.proofs.TypeLemmas.{IsWritten, type_gives}
use Rattle.sized_modules.proofs.FormLemmas.{HasWritten, none, form_gives, number_gives}

-- of a form, or of an entry of a summary
form_written : (ts : List Piece) (unit : Form) → IsFormWithin ts unit → HasWritten unit
unfolding IsFormWithin
form_written ts unit (inl is) = (form_gives (type_gives levels)).each ts unit (anyhow ts) is
form_written ts unit (inr (number, lined, stands)) = rw stands (none refl)

-- of the number of a pointer, or of what is left out
last_written : (ts : List Piece) (unit : Form) → IsLast ts unit → HasWritten unit
unfolding IsNumber IsLeft
last_written ts unit (inl is) = number_gives.each ts unit (anyhow ts) is
last_written ts unit (inr ((word, lined, stands), other)) = rw stands (none refl)

unit_written : (ts : List Piece) (unit : TheUnit) → IsUnitWithin ts unit → HasWritten unit.form
unit_written ts unit (inl is, first) = form_written ts unit.form is
unit_written ts unit (inr (is, other), first) = last_written ts unit.form is

-- of all units in order
pub units_written : (ts : List Piece) (us : List (Placed TheUnit)) (rest : List Piece) → ReadsTo ts us rest → AreWritten us
units_written ts [] rest reads = All-nil (λ (u : Placed TheUnit). All IsWritten (types_in u.value.form))
units_written ts (u ∷ us) rest (behind, next, others) =
    All-cons (λ (v : Placed TheUnit). All IsWritten (types_in v.value.form)) u us
    (unit_written next.longest.stands.front u.value next.longest.stands.is).types
    (units_written behind us rest others)
