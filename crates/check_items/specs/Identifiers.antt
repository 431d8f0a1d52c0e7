-- How many different type identifiers a file has up to a place.
-- Source: LLVM, "Type Metadata". Differs: the limit is this project's own (docs/refusals.md).
use Rattle.std.specs.Prelude.{◌≡◌, ℕ, ◌+◌, ◌<◌, Bool, false, nat_le, nat_lt, cond, take, length, flat_map, List, [], ◌∷◌, Option, Some, None, codes}
use Rattle.std.specs.Set.{distinct_count}
use Rattle.std.specs.Str.{bytes_eq}
use Rattle.ltt_base.specs.declared.refusal.Code.TheVariants.{E12}
use Rattle.ltt_base.specs.declared.refusal.Placed.{Placed}
use Rattle.ir_values.specs.declared.units.MetaItem.{MetaItem, out-MetaItem}
use Rattle.ir_values.specs.declared.units.MetaItem.TheOpen.{MetaItem-F}
use Rattle.ir_values.specs.declared.units.Attach.{Attach}
use Rattle.ir_values.specs.declared.units.Unit as unit
use Rattle.check_names.specs.declared.flaws.Flaw.{Flaw}
use Rattle.check_names.specs.Flaws.{worded_when}
use Rattle.check_items.specs.Attached.{is_type}
use Rattle.check_items.specs.Counts.{kept_attached}
use Rattle.check_items.specs.Nodes.{node_items, offset_of, id_of}

-- an identifier as its node writes it: a string behind `"`, the number of a distinct node behind `!`
abbrev pub written : MetaItem-F MetaItem → List (List ℕ)
written (MetaItem-F.Word text) = (34 ∷ text) ∷ []
written (MetaItem-F.Node digits) = (33 ∷ digits) ∷ []
written _ = []

abbrev pub written_with : Option ℕ → Option MetaItem → List (List ℕ)
written_with (Some offset) (Some item) = written (out-MetaItem item)
written_with _ _ = []

-- the identifier that a type node says, if it says an entry
abbrev pub written_in : Option (List MetaItem) → List (List ℕ)
written_in None = []
written_in (Some items) = written_with (offset_of items) (id_of items)

-- the identifier of the entry that an attachment gives, if it gives one
abbrev pub identifier_of : List (Placed unit.Unit) → Attach → List (List ℕ)
identifier_of us attach = cond (is_type attach) (written_in (node_items us attach.node)) []

-- the identifiers of the entries of attachments, in the order of the text
unfoldable pub identifiers_of : List (Placed unit.Unit) → List Attach → List (List ℕ)
identifiers_of us attached = flat_map (identifier_of us) attached

abbrev pub unit_identifiers : List (Placed unit.Unit) → Placed unit.Unit → List (List ℕ)
unit_identifiers us u = identifiers_of us (kept_attached u.value.form)

-- the entries up to the one that is past the limit of `carriers`: of two entries past a limit the first is told
unfoldable pub most_counted : ℕ
most_counted = 1048577

-- the identifiers of the entries of so many units
abbrev pub identifiers_to : List (Placed unit.Unit) → ℕ → List (List ℕ)
identifiers_to us n = take most_counted (flat_map (unit_identifiers us) (take n us))

abbrev pub are_too_many : List (List ℕ) → Bool
are_too_many identifiers = nat_lt 65536 (distinct_count bytes_eq identifiers)

-- with the entries of the unit at a place there are more different identifiers than a file may have
unfoldable pub has_too_many : List (Placed unit.Unit) → ℕ → Bool
has_too_many us at = are_too_many (identifiers_to us (at + 1))

-- more different identifiers than a file may have
abbrev pub identifiers_flaw : List (Placed unit.Unit) → ℕ → Option Flaw
identifiers_flaw us at = worded_when (has_too_many us at) E12 (codes "identifiers")

abbrev pub is_reached : Option ℕ → ℕ → Bool
is_reached None at = false
is_reached (Some place) at = nat_le place at

-- the first unit with which there are too many; None: there never are
abbrev pub IsTooManyFrom : List (Placed unit.Unit) → Option ℕ → Type 0
IsTooManyFrom us from = (at : ℕ) → at < length us → has_too_many us at ≡ is_reached from at
