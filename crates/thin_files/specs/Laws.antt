-- What holds of all thin files.
use Rattle.std.specs.Prelude.{◌≡◌, List, [], ◌∷◌, Some, map, codes}
use Rattle.ltt_base.specs.declared.refusal.Place.{Place}
use Rattle.ltt_base.specs.declared.refusal.Placed.{Placed}
use Rattle.ir_values.specs.declared.units.Unit as unit
use Rattle.thin_files.specs.declared.thin.Thin.{Thin}
use Rattle.thin_files.specs.Thin.{forms_of, IsThin}

-- units are one thin file at most
abbrev pub ThinIsDetermined : Type 0
ThinIsDetermined = (units : List (Placed unit.Unit)) (t other : Thin) → IsThin units t → IsThin units other → t ≡ other

abbrev pub first_place : Place
first_place = record { file = 1; line = 1; column = 1 }

-- `@v`, of four parts, whose entry for "T" is at 16, `@t`, which tests for it, and `@m`, which tests the
-- address 16 bytes behind `@v`
abbrev pub example : Thin
example = record {
  variables = record {
    place = first_place;
    name = codes "v";
    count = 4;
    node = codes "0";
    offset = 16;
    id = codes "T";
  } ∷ [];
  place = first_place;
  name = codes "t";
  pointer = codes "p";
  register = codes "r";
  tested = codes "T";
  second = Some (record {
    place = first_place;
    name = codes "m";
    register = codes "r";
    object = codes "v";
    offset = Some 16;
    tested = codes "T";
  });
  nodes = record { number = codes "0"; offset = 16; id = codes "T" } ∷ [];
}

abbrev pub example_units : List (Placed unit.Unit)
example_units = map (λ form. record { place = first_place; value = record { first = []; form = form } }) (forms_of example)

-- some units are a thin file
abbrev pub ThinIsPossible : Type 0
ThinIsPossible = IsThin example_units example
