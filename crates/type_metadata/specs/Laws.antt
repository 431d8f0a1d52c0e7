-- What the collected identifiers and carriers are, in words of sets.
use Rattle.std.specs.Prelude.{◌≡◌, ◌≢◌, ◌↔◌, List, [], ◌∷◌, AllPairs, Contains, codes, None, true}
use Rattle.ir_values.specs.declared.types.Width.TheVariants.{W64}
use Rattle.ir_values.specs.declared.types.Ty as ty
use Rattle.ir_values.specs.declared.modules.Linkage.TheVariants.{Strong, External}
use Rattle.ir_values.specs.declared.modules.TypeId.{TypeId}
use Rattle.ir_values.specs.declared.modules.TypeId.TheVariants.{Name}
use Rattle.ir_values.specs.declared.modules.Linkage.{Linkage}
use Rattle.ir_values.specs.declared.modules.Module.{Module}
use Rattle.ir_values.specs.declared.modules.Var.{Var}
use Rattle.type_metadata.specs.declared.objects.Carrier.{Carrier}
use Rattle.type_metadata.specs.declared.objects.Denoted.TheVariants as denotes
use Rattle.type_metadata.specs.Items.{variable_at, items}
use Rattle.type_metadata.specs.Denoted.{denoted}
use Rattle.type_metadata.specs.Marks.{identifiers, carriers}
use Rattle.type_metadata.specs.Types.{IsCarrier}

-- the identifiers are those with a carrier, each once
pub record IdentifiersLaw : Type 0 where
  pub carried : (ms : List Module) (id : TypeId) → Contains (identifiers ms) id ↔ ((carrier : Carrier) × IsCarrier ms id carrier)
  pub once : (ms : List Module) → AllPairs (λ one other. one ≢ other) (identifiers ms)

-- the carriers of an identifier are its carriers, each once
pub record CarriersLaw : Type 0 where
  pub carry : (ms : List Module) (id : TypeId) (carrier : Carrier) → Contains (carriers ms id) carrier ↔ IsCarrier ms id carrier
  pub once : (ms : List Module) (id : TypeId) → AllPairs (λ one other. one ≢ other) (carriers ms id)

-- An example: of two files, the first declares a variable, and the second defines it, with an entry at 16.

abbrev pub example_variable : Linkage → Var
example_variable linkage = record {
  place = record { file = 0; line = 0; column = 0 };
  name = codes "a";
  linkage = linkage;
  constant = true;
  ty = ty.Array 4 (ty.Int W64);
  init = None;
  align = 8;
  entries = record { offset = 16; id = Name (codes "T") } ∷ [];
  visibility = 0;
}

abbrev pub example_module : Linkage → Module
example_module linkage = record { vars = example_variable linkage ∷ []; funcs = []; jumps = [] }

abbrev pub example_modules : List Module
example_modules = example_module External ∷ example_module Strong ∷ []

abbrev pub example_id : TypeId
example_id = Name (codes "T")

-- the name denotes the definition in both files, and it alone carries the identifier, though the declaration has the entry too
pub record ExampleLaw : Type 0 where
  pub denoted_here : denoted (items example_modules) 1 (codes "a") ≡ denotes.Item (variable_at 2 0)
  pub denoted_there : denoted (items example_modules) 2 (codes "a") ≡ denotes.Item (variable_at 2 0)
  pub not_denoted : denoted (items example_modules) 1 (codes "b") ≡ denotes.External
  pub carries : IsCarrier example_modules example_id (record { object = variable_at 2 0; offset = 16 })
  pub not_beside : ¬ IsCarrier example_modules example_id (record { object = variable_at 2 0; offset = 8 })
  pub not_declared : ¬ IsCarrier example_modules example_id (record { object = variable_at 1 0; offset = 16 })
  pub ids : identifiers example_modules ≡ example_id ∷ []
  pub all : carriers example_modules example_id ≡ record { object = variable_at 2 0; offset = 16 } ∷ []
