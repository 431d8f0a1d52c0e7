-- Whether two objects, carriers or identifiers are one.
use Rattle.std.specs.Prelude.{Bool, true, false, ◌&&◌, nat_eq}
use Rattle.ir_values.specs.declared.modules.TypeId.{TypeId}
use Rattle.type_metadata.specs.declared.objects.Object.{Object}
use Rattle.type_metadata.specs.declared.objects.Carrier.{Carrier}
use Rattle.type_metadata.specs.Identifiers.{is_same_id}

abbrev pub same_flag : Bool → Bool → Bool
same_flag true true = true
same_flag false false = true
same_flag _ _ = false

abbrev pub same_object : Object → Object → Bool
same_object one other = nat_eq one.file other.file && same_flag one.function other.function && nat_eq one.index other.index

abbrev pub same_carrier : Carrier → Carrier → Bool
same_carrier one other = same_object one.object other.object && nat_eq one.offset other.offset

abbrev pub same_id : TypeId → TypeId → Bool
same_id = is_same_id
