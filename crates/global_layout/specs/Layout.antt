-- The layout: each fragment is a combined variable or a table.
use Rattle.std.specs.Prelude.{◌≡◌, ℕ, ◌+◌, ◌^◌, ◌<◌, ◌≤◌, Bool, true, false, List, [], ◌∷◌, ◌++◌, length, replicate, max, if◌then◌else◌, fold, slice_index_or, slice_set, All, Option, Some, None, Result, Ok, Err, codes}
use Rattle.std.specs.List.Sorted.{IsStrictlyIncreasing}
use Rattle.ltt_base.specs.declared.refusal.Code.TheVariants.{E12}
use Rattle.ltt_base.specs.declared.refusal.Fault.{Fault}
use Rattle.ltt_base.specs.declared.refusal.Fault.TheVariants.{Refused, Memory}
use Rattle.ltt_base.specs.declared.refusal.Refusal.{Refusal}
use Rattle.global_layout.specs.declared.ids.IdMembers.{IdMembers}
use Rattle.global_layout.specs.declared.ids.Shape.{Shape}
use Rattle.global_layout.specs.declared.groups.Home.{Home}
use Rattle.global_layout.specs.declared.groups.Group.{Group}
use Rattle.global_layout.specs.declared.slots.Slots.{Slots}
use Rattle.global_layout.specs.declared.placing.Placing.{Placing}
use Rattle.global_layout.specs.declared.layout.Layout.{Layout}
use Rattle.global_layout.specs.Fragments.{fragments_of}
use Rattle.global_layout.specs.Slots.{home_behind, end_behind}

abbrev pub no_shape : Shape
no_shape = record { function = false; extent = 1; align = 1; before = 0; after = 0 }

abbrev pub shape_at : List Shape → ℕ → Shape
shape_at shapes object = slice_index_or shapes object no_shape

-- The objects of one fragment.

-- one object more of combined variable `number`
abbrev pub slot_by : Shape → ℕ → Slots → ℕ → Slots
slot_by shape number slots object = record {
  length = end_behind slots.length shape;
  align = max slots.align shape.align;
  homes = slice_set slots.homes object (Some (record { table = false; number = number; offset = home_behind slots.length shape }));
}

abbrev pub slot_more : List Shape → ℕ → Slots → ℕ → Slots
slot_more shapes number slots object = slot_by (shape_at shapes object) number slots object

-- one entry more of table `number`
abbrev pub entry_more : ℕ → Slots → ℕ → Slots
entry_more number slots object = record {
  length = slots.length + 8;
  align = slots.align;
  homes = slice_set slots.homes object (Some (record { table = true; number = number; offset = slots.length }));
}

abbrev pub variable_slots : List Shape → ℕ → List (Option Home) → List ℕ → Slots
variable_slots shapes number homes objects = fold (slot_more shapes number) (record { length = 0; align = 1; homes = homes }) objects

abbrev pub table_slots : ℕ → List (Option Home) → List ℕ → Slots
table_slots number homes objects = fold (entry_more number) (record { length = 0; align = 8; homes = homes }) objects

-- The fragments.

-- one fragment more: combined variables and tables are numbered apart, and the lengths of combined variables are added
abbrev pub variable_more : List Shape → Placing → List ℕ → Placing
variable_more shapes placing objects =
    let slots = variable_slots shapes placing.variables placing.homes objects in
    record {
      groups = placing.groups ++ record { table = false; members = objects; length = slots.length; align = slots.align } ∷ [];
      homes = slots.homes;
      variables = placing.variables + 1;
      tables = placing.tables;
      bytes = placing.bytes + slots.length;
    }

abbrev pub table_more : Placing → List ℕ → Placing
table_more placing objects =
    let slots = table_slots placing.tables placing.homes objects in
    record {
      groups = placing.groups ++ record { table = true; members = objects; length = slots.length; align = slots.align } ∷ [];
      homes = slots.homes;
      variables = placing.variables;
      tables = placing.tables + 1;
      bytes = placing.bytes;
    }

-- a fragment of functions is a table
abbrev pub is_table : List Shape → List ℕ → Bool
is_table shapes [] = false
is_table shapes (object ∷ more) = (shape_at shapes object).function

abbrev pub fragment_more : List Shape → Placing → List ℕ → Placing
fragment_more shapes placing objects = if is_table shapes objects then table_more placing objects else variable_more shapes placing objects

abbrev pub none_placed : ℕ → Placing
none_placed count = record { groups = []; homes = replicate count None; variables = 0; tables = 0; bytes = 0 }

abbrev pub placed_in : List Shape → List (List ℕ) → Placing
placed_in shapes fragments = fold (fragment_more shapes) (none_placed (length shapes)) fragments

abbrev pub placed : List IdMembers → List Shape → Placing
placed ids shapes = placed_in shapes (fragments_of ids)

-- What is asked.

-- a power of two up to 4096
abbrev pub IsAlign : ℕ → Type 0
IsAlign align = (k : ℕ) × (k ≤ 12) × (align ≡ 2 ^ k)

pub record IsShape (shape : Shape) : Type 0 where
  pub extent : 1 ≤ shape.extent
  pub align : IsAlign shape.align

-- the numbers of some objects of one sort, rising
pub record IsId (shapes : List Shape) (id : IdMembers) : Type 0 where
  pub some : 0 < length id.members
  pub within : All (λ object. object < length shapes) id.members
  pub rising : IsStrictlyIncreasing id.members
  pub one_sort : (sort : Bool) × All (λ object. (shape_at shapes object).function ≡ sort) id.members

-- Answers.

abbrev pub most_bytes : ℕ
most_bytes = 134217727

abbrev pub too_long : Refusal
too_long = record { code = E12; place = record { file = 0; line = 0; column = 0 }; word = codes "layout" }

-- that refusal, or want of memory for its word
abbrev pub IsTooLong : Fault → Type 0
IsTooLong (Refused refusal) = refusal ≡ too_long
IsTooLong Memory = Unit {0}

-- where an object stands, if an identifier lists it
abbrev pub home_of : Layout → ℕ → Option Home
home_of layout object = slice_index_or layout.homes object None

abbrev pub groups_of : Layout → List Group
groups_of layout = layout.groups

-- the groups and homes
abbrev pub layout_of : List IdMembers → List Shape → Layout
layout_of ids shapes = record { groups = (placed ids shapes).groups; homes = (placed ids shapes).homes }

-- the layout, where the combined variables have at most so many bytes
abbrev pub IsArranged : List IdMembers → List Shape → Result Layout Fault → Type 0
IsArranged ids shapes (Ok layout) = (layout ≡ layout_of ids shapes) × ((placed ids shapes).bytes ≤ most_bytes)
IsArranged ids shapes (Err (Refused refusal)) = (refusal ≡ too_long) × (most_bytes < (placed ids shapes).bytes)
IsArranged ids shapes (Err Memory) = Unit {0}
