-- What is wrong with the attachments of definitions.
-- Source: LLVM, "Type Metadata". Differs: the codes are this project's own; an offset may be that of a variable's end, but none past it,
-- and of a function it is 0; an output has neither attachment; other kinds are ignored.
use Rattle.std.specs.Prelude.{ℕ, Bool, true, false, not, ◌&&◌, ◌||◌, nat_eq, nat_lt, nat_le, cond, List, Option, Some, None, codes}
use Rattle.std.specs.Str.{bytes_eq}
use Rattle.ltt_base.specs.declared.refusal.Code.TheVariants.{E07, E08}
use Rattle.ltt_base.specs.declared.refusal.Placed.{Placed}
use Rattle.ir_values.specs.declared.types.Ty.{Ty}
use Rattle.ir_values.specs.declared.units.MetaItem.{MetaItem, out-MetaItem}
use Rattle.ir_values.specs.declared.units.MetaItem.TheOpen.{MetaItem-F}
use Rattle.ir_values.specs.declared.units.Attach.{Attach}
use Rattle.ir_values.specs.declared.units.Unit as unit
use Rattle.check_names.specs.declared.flaws.Flaw.{Flaw}
use Rattle.check_names.specs.declared.spaces.Space.TheVariants.{Nodes}
use Rattle.check_names.specs.Flaws.{◌then◌, each, when, worded_when}
use Rattle.check_names.specs.Spaces.{missing_flaw}
use Rattle.check_names.specs.Reserved.{use_flaw}
use Rattle.check_types.specs.Measures.{size}
use Rattle.check_items.specs.Known.{is_known}
use Rattle.check_items.specs.Nodes.{node_items, offset_of, id_of, is_some_id, lone_number}

-- an offset that a variable of a type, or a function, hasn't
abbrev pub is_beyond : List (Placed unit.Unit) → Option Ty → ℕ → Bool
is_beyond us None offset = not (nat_eq offset 0)
is_beyond us (Some ty) offset = nat_lt (size us ty) offset && is_known us ty

abbrev pub is_no_offset : List (Placed unit.Unit) → Option Ty → Option ℕ → Bool
is_no_offset us ty None = true
is_no_offset us ty (Some offset) = is_beyond us ty offset

-- an identifier's node that nothing defines
abbrev pub missing_id : List (Placed unit.Unit) → MetaItem-F MetaItem → Option Flaw
missing_id us (MetaItem-F.Node number) = missing_flaw us Nodes number
missing_id us _ = None

abbrev pub id_flaw : List (Placed unit.Unit) → Option MetaItem → Option Flaw
id_flaw us None = None
id_flaw us (Some item) = missing_id us (out-MetaItem item)

abbrev pub items_flaw : List (Placed unit.Unit) → Option Ty → List MetaItem → Option Flaw
items_flaw us ty items =
    id_flaw us (id_of items) then when (is_no_offset us ty (offset_of items) || not (is_some_id us (id_of items))) E08

-- what is wrong with the items of a type node, on a variable of a type or on a function
abbrev pub entry_flaw : List (Placed unit.Unit) → Option Ty → Option (List MetaItem) → Option Flaw
entry_flaw us ty None = when true E08
entry_flaw us ty (Some items) = items_flaw us ty items

abbrev pub is_level : Option ℕ → Bool
is_level None = false
is_level (Some level) = nat_le level 2

abbrev pub visibility_flaw : Option (List MetaItem) → Option Flaw
visibility_flaw None = when true E08
visibility_flaw (Some items) = when (not (is_level (lone_number items))) E08

abbrev pub is_type : Attach → Bool
is_type attach = bytes_eq attach.kind (codes "type")

abbrev pub is_visibility : Attach → Bool
is_visibility attach = bytes_eq attach.kind (codes "vcall_visibility")

-- an attachment of a definition in a source
abbrev pub source_flaw : Bool → List (Placed unit.Unit) → Option Ty → Attach → Option Flaw
source_flaw output us ty attach =
    cond (is_type attach) (use_flaw output us Nodes attach.node then entry_flaw us ty (node_items us attach.node))
    (cond (is_visibility attach) (use_flaw output us Nodes attach.node then visibility_flaw (node_items us attach.node)) None)

-- an attachment in an output
abbrev pub output_flaw : Attach → Option Flaw
output_flaw attach =
    cond (is_type attach) (worded_when true E07 (codes "!type"))
    (worded_when (is_visibility attach) E07 (codes "!vcall_visibility"))

abbrev pub attachment_flaw : Bool → List (Placed unit.Unit) → Option Ty → Attach → Option Flaw
attachment_flaw output us ty attach = cond output (output_flaw attach) (source_flaw output us ty attach)

-- the attachments of a definition: of a variable of a type, or of a function
unfoldable pub attached_flaw : Bool → List (Placed unit.Unit) → Option Ty → List Attach → Option Flaw
attached_flaw output us ty attached = each (attachment_flaw output us ty) attached

-- the attachments of a declaration, of which a source keeps none
unfoldable pub declared_flaw : Bool → List Attach → Option Flaw
declared_flaw output attached = cond output (each output_flaw attached) None
