-- What the collected types of a list of modules say.
use Rattle.std.specs.Prelude.{◌≡◌, ◌↔◌, Bool, IsTrue, List, [], ◌∷◌, map, Contains, if◌then◌else◌}
use Rattle.std.specs.List.{list_any}
use Rattle.ir_values.specs.declared.modules.TypeId.{TypeId}
use Rattle.ir_values.specs.declared.modules.Module.{Module}
use Rattle.type_metadata.specs.declared.objects.Carrier.{Carrier}
use Rattle.type_metadata.specs.declared.items.Item.{Item}
use Rattle.type_metadata.specs.declared.types.Types.{Types}
use Rattle.type_metadata.specs.Same.{same_carrier, same_id}
use Rattle.type_metadata.specs.Items.{items}
use Rattle.type_metadata.specs.Denoted.{IsKept}
use Rattle.type_metadata.specs.Marks.{identifiers, carriers}

-- The kept definition `carrier.object` has an entry of the identifier at this offset.
-- Source: LLVM, "Type Metadata". Differs: a declaration carries nothing.
pub record IsCarrier (ms : List Module) (id : TypeId) (carrier : Carrier) : Type 0 where
  pub item : Item
  pub listed : Contains (items ms) item
  pub object : item.object ≡ carrier.object
  pub kept : IsKept (items ms) item
  pub entry : Contains item.entries (record { offset = carrier.offset; id = id })

-- the types that are collected of these modules
pub record AreTypes (ms : List Module) (types : Types) : Type 0 where
  pub ids : types.ids ≡ identifiers ms
  pub carriers : types.carriers ≡ map (carriers ms) (identifiers ms)

-- the row that stands where the identifier does
abbrev pub row_at : TypeId → List TypeId → List (List Carrier) → List Carrier
row_at id [] rows = []
row_at id ids [] = []
row_at id (first ∷ ids) (row ∷ rows) = if same_id id first then row else row_at id ids rows

abbrev pub has_carrier : Types → TypeId → Carrier → Bool
has_carrier types id carrier = list_any (same_carrier carrier) (row_at id types.ids types.carriers)

-- What the calls of `Types` answer, where they are the types of these modules.

abbrev pub AreIdentifiers : Types → List TypeId → Type 0
AreIdentifiers types answer = (ms : List Module) → AreTypes ms types → answer ≡ identifiers ms

abbrev pub AreCarriers : Types → TypeId → List Carrier → Type 0
AreCarriers types id answer = (ms : List Module) → AreTypes ms types → answer ≡ carriers ms id

abbrev pub TellsCarrier : Types → TypeId → Carrier → Bool → Type 0
TellsCarrier types id carrier answer = (ms : List Module) → AreTypes ms types → IsTrue answer ↔ IsCarrier ms id carrier
