-- The example: what its name denotes, and what it carries.
use Rattle.std.proofs.Common.{◌≡◌, zero, suc, [], ◌∷◌, refl, ap, subst, sym, arith}
use Rattle.std.specs.List.{Contains}
use Rattle.type_metadata.specs.declared.objects.Carrier.{Carrier}
use Rattle.type_metadata.specs.Items.{variable_at}
use Rattle.type_metadata.specs.Marks.{identifiers, carriers}
use Rattle.type_metadata.specs.Types.{IsCarrier}
use Rattle.type_metadata.specs.Laws.{example_modules, example_id, ExampleLaw}
use Rattle.type_metadata.proofs.CarrierLaws.{carriers_law}

pub example_all : carriers example_modules example_id ≡ record { object = variable_at 2 0; offset = 16 } ∷ []
example_all = refl

pub example_ids : identifiers example_modules ≡ example_id ∷ []
example_ids = refl

lone : {X : Type 0} (x y : X) → Contains (x ∷ []) y → x ≡ y
lone x y (zero, inside, at) = at
lone x y (suc k, inside, at) = absurd (omega (arith, inside))

only : (carrier : Carrier) → IsCarrier example_modules example_id carrier → record { object = variable_at 2 0; offset = 16 } ≡ carrier
only carrier is = lone _ carrier (subst (λ all. Contains all carrier) example_all ((carriers_law example_modules example_id carrier).1 is))

pub example : ExampleLaw
example = record {
  denoted_here = refl;
  denoted_there = refl;
  not_denoted = refl;
  carries = (carriers_law example_modules example_id (record { object = variable_at 2 0; offset = 16 })).0
      (subst (λ all. Contains all (record { object = variable_at 2 0; offset = 16 })) (sym example_all) (0, omega arith, refl));
  not_beside = λ is. let apart : 16 ≡ 8 = ap (λ (c : Carrier). c.offset) (only _ is) in omega arith;
  not_declared = λ is. let apart : 2 ≡ 1 = ap (λ (c : Carrier). c.object.file) (only _ is) in omega arith;
  ids = example_ids;
  all = example_all;
}
