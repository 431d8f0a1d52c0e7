-- What nodes of metadata say of types and of visibility.
-- Source: LLVM, "Type Metadata"; LLVM Language Reference, "'vcall_visibility' Metadata" in "Type Metadata". Differs: a node is taken as it is
-- written, so its number has the type `i64` itself, and neither node is distinct.
use Rattle.std.specs.Prelude.{ℕ, Bool, true, false, cond, List, [], ◌∷◌, Option, Some, None}
use Rattle.ltt_base.specs.declared.refusal.Placed.{Placed}
use Rattle.ir_values.specs.declared.types.Width.{Width}
use Rattle.ir_values.specs.declared.types.Ty.{Ty, out-Ty}
use Rattle.ir_values.specs.declared.types.Ty.TheOpen.{Ty-F}
use Rattle.ir_values.specs.declared.constants.Const.{Const, out-Const}
use Rattle.ir_values.specs.declared.constants.Operand.{Operand}
use Rattle.ir_values.specs.declared.constants.Const.TheOpen.{Const-F}
use Rattle.ir_values.specs.declared.units.MetaItem.{MetaItem, out-MetaItem}
use Rattle.ir_values.specs.declared.units.MetaItem.TheOpen.{MetaItem-F}
use Rattle.ir_values.specs.declared.units.Unit as unit
use Rattle.ir_values.specs.declared.units.Form.{Form}
use Rattle.ir_values.specs.declared.units.Form.TheVariants.{MetadataForm}
use Rattle.check_names.specs.declared.spaces.Space.TheVariants.{Nodes}
use Rattle.check_names.specs.Spaces.{first_unit}

-- the items of a node that isn't distinct
abbrev pub plain_items : Form → Option (List MetaItem)
plain_items (MetadataForm name distinct items) = cond distinct None (Some items)
plain_items _ = None

abbrev pub items_in : Option (Placed unit.Unit) → Option (List MetaItem)
items_in None = None
items_in (Some u) = plain_items u.value.form

-- the items of the node that a number names; None where it is distinct, or nothing defines it
unfoldable pub node_items : List (Placed unit.Unit) → List ℕ → Option (List MetaItem)
node_items us number = items_in (first_unit Nodes number us)

abbrev pub is_distinct : Form → Bool
is_distinct (MetadataForm name distinct items) = distinct
is_distinct _ = false

abbrev pub is_distinct_in : Option (Placed unit.Unit) → Bool
is_distinct_in None = false
is_distinct_in (Some u) = is_distinct u.value.form

-- the number names a distinct node
unfoldable pub is_distinct_node : List (Placed unit.Unit) → List ℕ → Bool
is_distinct_node us number = is_distinct_in (first_unit Nodes number us)

abbrev pub long_number : Width → ℕ → Option ℕ
long_number Width.W64 n = Some n
long_number _ n = None

abbrev pub constant_number : Const-F Const Operand → Option ℕ
constant_number (Const-F.Int width n) = long_number width n
constant_number _ = None

abbrev pub typed_number : Ty-F Ty → Const-F Const Operand → Option ℕ
typed_number (Ty-F.Int Width.W64) constant = constant_number constant
typed_number _ constant = None

-- the number of an item `i64 N`
abbrev pub item_number : MetaItem-F MetaItem → Option ℕ
item_number (MetaItem-F.Const ty constant) = typed_number (out-Ty ty) (out-Const constant)
item_number _ = None

-- the offset of a type node, `!{i64 N, ID}`
abbrev pub offset_of : List MetaItem → Option ℕ
offset_of (item ∷ id ∷ []) = item_number (out-MetaItem item)
offset_of _ = None

-- the identifier of a type node
abbrev pub id_of : List MetaItem → Option MetaItem
id_of (item ∷ id ∷ []) = Some id
id_of _ = None

-- a string, or a distinct node
abbrev pub is_id : List (Placed unit.Unit) → MetaItem-F MetaItem → Bool
is_id us (MetaItem-F.Word text) = true
is_id us (MetaItem-F.Node number) = is_distinct_node us number
is_id us _ = false

abbrev pub is_some_id : List (Placed unit.Unit) → Option MetaItem → Bool
is_some_id us None = false
is_some_id us (Some item) = is_id us (out-MetaItem item)

-- the number of a node that has it alone, `!{i64 N}`
abbrev pub lone_number : List MetaItem → Option ℕ
lone_number (item ∷ []) = item_number (out-MetaItem item)
lone_number _ = None
