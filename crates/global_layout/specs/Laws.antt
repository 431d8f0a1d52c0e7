-- What the layout gives: which objects have homes, where those of a group stand, that they are apart, and that an identifier's stand together.
use Rattle.std.specs.Prelude.{◌≡◌, ◌≢◌, ℕ, ◌+◌, ◌-◌, ◌<◌, ◌≤◌, ◌⊎◌, ◌↔◌, Bool, true, false, List, [], ◌∷◌, length, Option, Some, None, IsSome, if◌then◌else◌, slice_index_or, All, Contains}
use Rattle.global_layout.specs.declared.ids.IdMembers.{IdMembers}
use Rattle.global_layout.specs.declared.ids.Shape.{Shape}
use Rattle.global_layout.specs.declared.groups.Home.{Home}
use Rattle.global_layout.specs.declared.groups.Group.{Group}
use Rattle.global_layout.specs.Fragments.{objects_at}
use Rattle.global_layout.specs.Slots.{home_behind, end_behind}
use Rattle.global_layout.specs.Examples.{example_ids}
use Rattle.global_layout.specs.Layout.{shape_at, IsId, IsShape, home_of, groups_of, layout_of}

-- Homes.

-- the entries of a table stand eight bytes behind one another
unfoldable pub InTable : List (Option Home) → ℕ → ℕ → List ℕ → Type 0
InTable homes number offset [] = Unit {0}
InTable homes number offset (object ∷ more) =
    (slice_index_or homes object None ≡ Some (record { table = true; number = number; offset = offset })) × InTable homes number (offset + 8) more

-- the objects of a combined variable stand in slots behind one another
unfoldable pub InVariable : List Shape → List (Option Home) → ℕ → ℕ → List ℕ → Type 0
InVariable shapes homes number end [] = Unit {0}
InVariable shapes homes number end (object ∷ more) =
    (slice_index_or homes object None ≡ Some (record { table = false; number = number; offset = home_behind end (shape_at shapes object) }))
    × InVariable shapes homes number (end_behind end (shape_at shapes object)) more

-- the objects of a group have their homes in it
abbrev pub InGroup : List Shape → List (Option Home) → ℕ → ℕ → Bool → List ℕ → Type 0
InGroup shapes homes variables tables true objects = InTable homes tables 0 objects
InGroup shapes homes variables tables false objects = InVariable shapes homes variables 0 objects

-- the objects of the groups have their homes, where combined variables count from `variables` and tables from `tables`
unfoldable pub AreHome : List Shape → List (Option Home) → ℕ → ℕ → List Group → Type 0
AreHome shapes homes variables tables [] = Unit {0}
AreHome shapes homes variables tables (group ∷ groups) =
    InGroup shapes homes variables tables group.table group.members
    × AreHome shapes homes (if group.table then variables else variables + 1) (if group.table then tables + 1 else tables) groups

abbrev pub ObjectsHaveHomes : Type 0
ObjectsHaveHomes = (ids : List IdMembers) (shapes : List Shape) → All (IsId shapes) ids
    → AreHome shapes (layout_of ids shapes).homes 0 0 (groups_of (layout_of ids shapes))

-- some identifier lists the object
abbrev pub IsListed : List IdMembers → ℕ → Type 0
IsListed ids object = (id : IdMembers) × Contains ids id × Contains id.members object

-- the objects of the lists have a home, and no others
abbrev pub ListedHaveHomes : Type 0
ListedHaveHomes = (ids : List IdMembers) (shapes : List Shape) → All (IsId shapes) ids → (object : ℕ)
    → IsSome (home_of (layout_of ids shapes) object) ↔ IsListed ids object

-- Slots.

-- the bytes of an object with those before and behind it
pub record Bytes : Type 0 where
  pub from : ℕ
  pub to : ℕ

-- the bytes of the objects of a combined variable, from `end` on
abbrev pub bytes_from : List Shape → ℕ → List ℕ → List Bytes
bytes_from shapes end [] = []
bytes_from shapes end (object ∷ more) =
    let shape = shape_at shapes object in
    record { from = home_behind end shape - shape.before; to = home_behind end shape + shape.extent + shape.after }
    ∷ bytes_from shapes (end_behind end shape) more

-- each ends before all behind it begin
unfoldable pub AreApart : List Bytes → Type 0
AreApart [] = Unit {0}
AreApart (one ∷ more) = All (λ other. one.to ≤ other.from) more × AreApart more

abbrev pub SlotsAreApart : Type 0
SlotsAreApart = (shapes : List Shape) (objects : List ℕ) → All IsShape shapes → AreApart (bytes_from shapes 0 objects)

-- the bytes of an object at its home: of an entry eight, else those of the object with those before and behind it
abbrev pub bytes_at : Bool → ℕ → Shape → Bytes
bytes_at true offset shape = record { from = offset; to = offset + 8 }
bytes_at false offset shape = record { from = offset - shape.before; to = offset + shape.extent + shape.after }

abbrev pub home_bytes : Home → Shape → Bytes
home_bytes home shape = bytes_at home.table home.offset shape

-- of two objects of one combined variable or table one ends before the other begins
abbrev pub HomesAreApart : Type 0
HomesAreApart = (ids : List IdMembers) (shapes : List Shape) → All (IsId shapes) ids → All IsShape shapes
    → (object other : ℕ) → object ≢ other → (home away : Home)
    → home_of (layout_of ids shapes) object ≡ Some home → home_of (layout_of ids shapes) other ≡ Some away
    → home.table ≡ away.table → home.number ≡ away.number
    → ((home_bytes home (shape_at shapes object)).to ≤ (home_bytes away (shape_at shapes other)).from)
    ⊎ ((home_bytes away (shape_at shapes other)).to ≤ (home_bytes home (shape_at shapes object)).from)

-- Identifiers.

-- all objects of an identifier are members of one group
abbrev pub ObjectsStandTogether : Type 0
ObjectsStandTogether = (ids : List IdMembers) (shapes : List Shape) (number : ℕ) → number < length ids
    → (group : Group) × Contains (groups_of (layout_of ids shapes)) group × All (λ object. Contains group.members object) (objects_at ids number)

-- What is asked of identifiers and shapes.

-- a worked example meets it
abbrev pub ExampleIsMet : Type 0
ExampleIsMet = (shapes : List Shape) × All IsShape shapes × All (IsId shapes) example_ids
