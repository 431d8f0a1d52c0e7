-- The type entries and the visibility that attachments give.
-- Source: LLVM, "Type Metadata". Differs: of several visibilities the first counts; without one it is 0.
use Rattle.std.specs.Prelude.{ℕ, cond, nat_lt, flat_map, List, [], ◌∷◌, Option, Some, None}
use Rattle.ltt_base.specs.declared.refusal.Placed.{Placed}
use Rattle.ir_values.specs.declared.modules.Entry.{Entry}
use Rattle.ir_values.specs.declared.modules.TypeId.{TypeId}
use Rattle.ir_values.specs.declared.modules.TypeId.TheVariants as id
use Rattle.ir_values.specs.declared.units.MetaItem.{MetaItem, out-MetaItem}
use Rattle.ir_values.specs.declared.units.MetaItem.TheOpen.{MetaItem-F}
use Rattle.ir_values.specs.declared.units.Attach.{Attach}
use Rattle.ir_values.specs.declared.units.Unit as unit
use Rattle.kept_parts.specs.NodeNumbers.{node_number}
use Rattle.check_items.specs.Nodes.{node_items, offset_of, id_of, lone_number}
use Rattle.check_items.specs.Attached.{is_type, is_visibility}

abbrev pub item_id : ℕ → MetaItem-F MetaItem → Option TypeId
item_id file (MetaItem-F.Word text) = Some (id.Name text)
item_id file (MetaItem-F.Node digits) = Some (id.Node file (node_number digits))
item_id file _ = None

abbrev pub some_id : ℕ → Option MetaItem → Option TypeId
some_id file None = None
some_id file (Some item) = item_id file (out-MetaItem item)

abbrev pub entry_with : Option ℕ → Option TypeId → List Entry
entry_with (Some offset) (Some id) = record { offset = offset; id = id } ∷ []
entry_with _ _ = []

-- the entry that a type node says, if it is one
abbrev pub entry_in : ℕ → Option (List MetaItem) → List Entry
entry_in file None = []
entry_in file (Some items) = entry_with (offset_of items) (some_id file (id_of items))

abbrev pub entry_of : List (Placed unit.Unit) → ℕ → Attach → List Entry
entry_of us file attach = cond (is_type attach) (entry_in file (node_items us attach.node)) []

-- the entries of attachments, in the order of the text; a node that is an identifier belongs to the file of this number
unfoldable pub entries_of : List (Placed unit.Unit) → ℕ → List Attach → List Entry
entries_of us file attached = flat_map (entry_of us file) attached

abbrev pub small : Option ℕ → ℕ
small None = 0
small (Some level) = cond (nat_lt level 256) level 0

abbrev pub level_in : Option (List MetaItem) → ℕ
level_in None = 0
level_in (Some items) = small (lone_number items)

-- the first visibility of attachments; without one it is 0
unfoldable pub visibility_of : List (Placed unit.Unit) → List Attach → ℕ
visibility_of us [] = 0
visibility_of us (attach ∷ attached) = cond (is_visibility attach) (level_in (node_items us attach.node)) (visibility_of us attached)
