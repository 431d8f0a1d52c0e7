-- The fragments: lists of objects that stand together, made by one step per identifier.
use Rattle.std.specs.Prelude.{ℕ, ◌+◌, Bool, not, List, [], ◌∷◌, ◌++◌, length, ◌==◌, fold, slice_index_or}
use Rattle.std.specs.List.{list_any, filter, concat}
use Rattle.global_layout.specs.declared.ids.IdMembers.{IdMembers}
use Rattle.global_layout.specs.Ordered.{ordered}

-- The order: rising number of carrying objects, and identifier order on a tie.

-- each identifier's number, behind the number of its objects
abbrev pub sizes_from : ℕ → List IdMembers → List (ℕ × ℕ)
sizes_from number [] = []
sizes_from number (id ∷ ids) = (length id.members, number) ∷ sizes_from (number + 1) ids

abbrev pub id_order : List IdMembers → List (ℕ × ℕ)
id_order ids = ordered (sizes_from 0 ids)

-- A step.

abbrev pub is_among : List ℕ → ℕ → Bool
is_among objects object = list_any (λ other. other == object) objects

-- whether a fragment holds one of the objects
abbrev pub holds_any : List ℕ → List ℕ → Bool
holds_any objects fragment = list_any (λ object. is_among objects object) fragment

-- whether a fragment holds the object
abbrev pub is_held : List (List ℕ) → ℕ → Bool
is_held fragments object = list_any (λ fragment. is_among fragment object) fragments

-- the fragments that hold an object of the identifier, joined in their order
abbrev pub touched : List ℕ → List (List ℕ) → List ℕ
touched objects fragments = concat (filter (λ fragment. holds_any objects fragment) fragments)

-- the other fragments
abbrev pub untouched : List ℕ → List (List ℕ) → List (List ℕ)
untouched objects fragments = filter (λ fragment. not (holds_any objects fragment)) fragments

-- the identifier's objects that no fragment holds
abbrev pub unheld : List ℕ → List (List ℕ) → List ℕ
unheld objects fragments = filter (λ object. not (is_held fragments object)) objects

-- the fragments with all objects of one more identifier in one fragment, the last
abbrev pub with_id : List ℕ → List (List ℕ) → List (List ℕ)
with_id objects fragments = untouched objects fragments ++ (touched objects fragments ++ unheld objects fragments) ∷ []

abbrev pub no_id : IdMembers
no_id = record { members = [] }

abbrev pub objects_at : List IdMembers → ℕ → List ℕ
objects_at ids number = (slice_index_or ids number no_id).members

-- the fragments of these identifiers, in their order
abbrev pub fragments_in : List IdMembers → List (ℕ × ℕ) → List (List ℕ)
fragments_in ids order = fold (λ fragments pair. with_id (objects_at ids pair.1) fragments) [] order

abbrev pub fragments_of : List IdMembers → List (List ℕ)
fragments_of ids = fragments_in ids (id_order ids)
