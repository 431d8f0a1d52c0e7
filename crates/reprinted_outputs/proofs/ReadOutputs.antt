-- The names of a thin file that is read of a text of bytes are bytes.
use Rattle.std.proofs.Common.{subst, List, [], ◌∷◌, ◌++◌, map, Option, Some, None}
use Rattle.std.specs.Prelude.{IfSome}
use Rattle.std.specs.List.{AllByRecursion}
use Rattle.ltt_base.specs.declared.refusal.Placed.{Placed}
use Rattle.ir_values.specs.declared.units.Unit.{Unit as TheUnit}
use Rattle.ir_values.specs.declared.units.Form.{Form}
use Rattle.thin_files.specs.declared.thin.Second.{Second}
use Rattle.thin_files.specs.declared.thin.Thin.{Thin}
use Rattle.thin_files.specs.Thin.{variable_form, second_forms, forms_of}
use Rattle.said_units.specs.Sayable.{IsSaid, AreSaid}
use Rattle.said_units.proofs.ReadLaws.{read_units_are_said}
use Rattle.reprinted_outputs.specs.Laws.{AreSecondBytes, AreBytes, ReadOutputsAreSameAgain}
use Rattle.reprinted_outputs.proofs.OutputLaws.{outputs_are_same_again}

said_forms : (us : List (Placed TheUnit)) → AreSaid us → AllByRecursion IsSaid (map (λ u. u.value.form) us)
said_forms [] said = tt
said_forms (u ∷ us) said = (said.0, said_forms us said.1)

all_back : (fronts backs : List Form) → AllByRecursion IsSaid (fronts ++ backs) → AllByRecursion IsSaid backs
all_back [] backs said = said
all_back (says ∷ fronts) backs said = all_back fronts backs said.1

second_bytes : (second : Option Second) (behind : List Form) → AllByRecursion IsSaid (second_forms second ++ behind) → IfSome second AreSecondBytes
second_bytes None behind said = tt
second_bytes (Some s) behind said = record { name = said.0.name; register = said.1.0.0 }

bytes_of : (t : Thin) → AllByRecursion IsSaid (forms_of t) → AreBytes t
bytes_of t said =
    let body = all_back (map variable_form t.variables) _ said in
    record {
      name = body.0.name;
      pointer = body.0.params.0.name;
      register = body.1.0.0;
      second = second_bytes t.second _ body.1.1.1.1;
    }

pub read_outputs_are_same_again : ReadOutputsAreSameAgain
read_outputs_are_same_again file text us t bytes read thin again =
    let said = subst (AllByRecursion IsSaid) thin.forms (said_forms us (read_units_are_said file text us bytes read)) in
    outputs_are_same_again t thin.allowed (bytes_of t said) again
